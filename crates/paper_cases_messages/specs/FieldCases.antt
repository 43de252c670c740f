-- Cases of the table after acceptance and of the parts of the seventeen fields (docs/RULES.md, 7 and 8).
use Rattle.std.specs.Prelude.{List, [], ◌∷◌, ◌++◌}
use Rattle.paper.specs.Form.{declaration}
use Rattle.paper_cases.specs.Cases.{times, m3}
use Rattle.paper_cases_messages.specs.Changed.{Case, table, parts, archived, part, no_parts, but, m1_but, m4, m5}

-- Twenty numbers for each payment: block, six pairs, euros, cents, the payment's `<`, two pairs. All later numbers keep their old values, and after a refusal all do.
unfoldable pub table_cases : List Case
table_cases =
    archived (table m4 (times 62 7)
    (0 ∷ 755 ∷ 2 ∷ 982 ∷ 20 ∷ 944 ∷ 6 ∷ 839 ∷ 8 ∷ 369 ∷ 93 ∷ 570 ∷ 20 ∷ 12 ∷ 50 ∷ 702 ∷ 892 ∷ 11 ∷ 1105 ∷ 9 ∷
    0 ∷ 1178 ∷ 2 ∷ 1297 ∷ 20 ∷ 1258 ∷ 7 ∷ 0 ∷ 0 ∷ 369 ∷ 93 ∷ 570 ∷ 20 ∷ 22 ∷ 60 ∷ 1146 ∷ 0 ∷ 0 ∷ 1432 ∷ 4 ∷
    1 ∷ 1870 ∷ 2 ∷ 2093 ∷ 22 ∷ 2055 ∷ 6 ∷ 1812 ∷ 8 ∷ 1903 ∷ 64 ∷ 1681 ∷ 16 ∷ 0 ∷ 5 ∷ 1838 ∷ 0 ∷ 0 ∷ 2214 ∷ 4 ∷
    7 ∷ 7 ∷ [])) ∷
    table (declaration ++ m3) (times 41 7)
    (0 ∷ 700 ∷ 2 ∷ 817 ∷ 20 ∷ 779 ∷ 6 ∷ 642 ∷ 8 ∷ 379 ∷ 30 ∷ 517 ∷ 20 ∷ 12 ∷ 50 ∷ 668 ∷ 0 ∷ 0 ∷ 0 ∷ 0 ∷
    1 ∷ 1270 ∷ 2 ∷ 1389 ∷ 20 ∷ 1350 ∷ 7 ∷ 0 ∷ 0 ∷ 989 ∷ 30 ∷ 1127 ∷ 20 ∷ 22 ∷ 60 ∷ 1238 ∷ 0 ∷ 0 ∷ 0 ∷ 0 ∷ 7 ∷ []) ∷
    archived (table m5 (times 20 7)
    (0 ∷ 802 ∷ 2 ∷ 986 ∷ 20 ∷ 948 ∷ 6 ∷ 702 ∷ 8 ∷ 368 ∷ 91 ∷ 567 ∷ 20 ∷ 12 ∷ 50 ∷ 749 ∷ 899 ∷ 8 ∷ 1186 ∷ 4 ∷ [])) ∷
    archived (table (but "12.5" "12.6" m5) (times 21 7) (times 21 7)) ∷
    table (m1_but "M1" "") (times 21 7) (times 21 7) ∷
    table [] (1 ∷ 2 ∷ 3 ∷ []) (1 ∷ 2 ∷ 3 ∷ []) ∷ []

-- Fields 1 to 17 of M4's payments, between the unknown fields 0 and 18; absent ones are the empty part at 0.
unfoldable pub part_cases : List Case
part_cases =
    archived (parts m4 0
    (part 0 0 ∷
    part 299 5 ∷
    part 381 4 ∷
    part 441 4 ∷
    part 490 10 ∷
    part 529 9 ∷
    part 570 20 ∷
    part 641 8 ∷
    part 839 8 ∷
    part 731 2 ∷
    part 755 2 ∷
    part 803 4 ∷
    part 892 11 ∷
    part 944 6 ∷
    part 982 20 ∷
    part 1040 7 ∷
    part 1074 4 ∷
    part 1105 9 ∷
    part 0 0 ∷ [])) ∷
    archived (parts m4 1
    (part 0 0 ∷
    part 299 5 ∷
    part 381 4 ∷
    part 441 4 ∷
    part 490 10 ∷
    part 529 9 ∷
    part 570 20 ∷
    part 641 8 ∷
    part 0 0 ∷
    part 0 0 ∷
    part 1178 2 ∷
    part 1226 5 ∷
    part 0 0 ∷
    part 1258 7 ∷
    part 1297 20 ∷
    part 0 0 ∷
    part 0 0 ∷
    part 1432 4 ∷
    part 0 0 ∷ [])) ∷
    archived (parts m4 2
    (part 0 0 ∷
    part 0 0 ∷
    part 0 0 ∷
    part 1947 4 ∷
    part 1606 10 ∷
    part 1645 4 ∷
    part 1681 16 ∷
    part 1751 11 ∷
    part 1812 8 ∷
    part 0 0 ∷
    part 1870 2 ∷
    part 2003 4 ∷
    part 0 0 ∷
    part 2055 6 ∷
    part 2093 22 ∷
    part 0 0 ∷
    part 0 0 ∷
    part 2214 4 ∷
    part 0 0 ∷ [])) ∷
    archived (parts m5 0
    (part 0 0 ∷
    part 298 5 ∷
    part 379 4 ∷
    part 439 4 ∷
    part 487 10 ∷
    part 526 9 ∷
    part 567 20 ∷
    part 641 11 ∷
    part 702 8 ∷
    part 778 2 ∷
    part 802 2 ∷
    part 850 4 ∷
    part 899 8 ∷
    part 948 6 ∷
    part 986 20 ∷
    part 1044 7 ∷
    part 1078 4 ∷
    part 1186 4 ∷
    part 0 0 ∷ [])) ∷
    -- an unknown payment; a refused message
    archived (parts m4 3 no_parts) ∷
    archived (parts m5 1 no_parts) ∷
    archived (parts (but "12.5" "12.6" m5) 0 no_parts) ∷
    parts [] 0 no_parts ∷ []

unfoldable pub field_cases : List Case
field_cases = table_cases ++ part_cases
