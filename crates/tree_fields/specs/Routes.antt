-- The table of routes, and what its lines say of a payment.
use Rattle.std.specs.Prelude.{ℕ, List, [], ◌∷◌, Bool, true, ◌≡◌, get_or, eqb, if◌then◌else◌}
use Rattle.std.proofs.Math.Option.{Option, none}
use Rattle.paper.specs.Bytes.{every}
use Rattle.paper.specs.Form.{Element}
use Rattle.paper.specs.Payments.{Payment, in_payment, in_block, inherited, either_of}
use Rattle.form_names.specs.Names.{is_sought}
use Rattle.tree_routes.specs.Finds.{rows_in}

-- A line for each field, after one that stands for no field, and then the lines of other routes. A line says where its route is followed (1 in the payment,
-- 2 in its block, 3 in the payment or else in its block), the rows of the route, and the line of another route that is followed where this one leads to nothing.
unfoldable pub route_table : List (List ℕ)
route_table =
    (0 ∷ 0 ∷ 0 ∷ 0 ∷ 0 ∷ 0 ∷ []) ∷  -- no field
    (2 ∷ 13 ∷ 0 ∷ 0 ∷ 0 ∷ 0 ∷ []) ∷  -- 1 batch booking
    (3 ∷ 16 ∷ 17 ∷ 0 ∷ 0 ∷ 0 ∷ []) ∷  -- 2 priority
    (3 ∷ 16 ∷ 20 ∷ 21 ∷ 0 ∷ 0 ∷ []) ∷  -- 3 category purpose
    (2 ∷ 22 ∷ 23 ∷ 0 ∷ 0 ∷ 20 ∷ []) ∷  -- 4 execution date: the date
    (2 ∷ 24 ∷ 25 ∷ 0 ∷ 0 ∷ 0 ∷ []) ∷  -- 5 debtor's name
    (2 ∷ 26 ∷ 27 ∷ 28 ∷ 0 ∷ 0 ∷ []) ∷  -- 6 debtor's IBAN
    (2 ∷ 29 ∷ 30 ∷ 31 ∷ 0 ∷ 18 ∷ []) ∷  -- 7 debtor's agent: BIC
    (3 ∷ 34 ∷ 35 ∷ 0 ∷ 0 ∷ 0 ∷ []) ∷  -- 8 ultimate debtor
    (1 ∷ 38 ∷ 39 ∷ 0 ∷ 0 ∷ 0 ∷ []) ∷  -- 9 instruction id
    (1 ∷ 38 ∷ 40 ∷ 0 ∷ 0 ∷ 0 ∷ []) ∷  -- 10 end-to-end id
    (1 ∷ 41 ∷ 42 ∷ 0 ∷ 0 ∷ 0 ∷ []) ∷  -- 11 amount
    (1 ∷ 43 ∷ 30 ∷ 31 ∷ 0 ∷ 0 ∷ []) ∷  -- 12 creditor's agent
    (1 ∷ 44 ∷ 25 ∷ 0 ∷ 0 ∷ 0 ∷ []) ∷  -- 13 creditor's name
    (1 ∷ 45 ∷ 27 ∷ 28 ∷ 0 ∷ 0 ∷ []) ∷  -- 14 creditor's IBAN
    (1 ∷ 46 ∷ 35 ∷ 0 ∷ 0 ∷ 0 ∷ []) ∷  -- 15 ultimate creditor
    (1 ∷ 47 ∷ 21 ∷ 0 ∷ 0 ∷ 0 ∷ []) ∷  -- 16 purpose
    (1 ∷ 48 ∷ 49 ∷ 0 ∷ 0 ∷ 19 ∷ []) ∷  -- 17 remittance: free text
    (2 ∷ 29 ∷ 30 ∷ 32 ∷ 33 ∷ 0 ∷ []) ∷  -- 7 the other: NOTPROVIDED
    (1 ∷ 48 ∷ 50 ∷ 51 ∷ 55 ∷ 0 ∷ []) ∷  -- 17 the other: reference
    (2 ∷ 22 ∷ 58 ∷ 0 ∷ 0 ∷ 0 ∷ []) ∷ []  -- 4 the other: the date and time

-- The lent table is this one.
abbrev pub RoutesAre : List (List ℕ) → Type 0
RoutesAre table = table ≡ route_table

abbrev pub line_of : ℕ → List ℕ
line_of n = get_or route_table n []

-- the parts of a line
abbrev pub where_followed : List ℕ → ℕ
where_followed line = get_or line 0 0

unfoldable pub route_of : List ℕ → List ℕ
route_of line = get_or line 1 0 ∷ rows_in (get_or line 2 0 ∷ get_or line 3 0 ∷ get_or line 4 0 ∷ [])

abbrev pub other_line : List ℕ → ℕ
other_line line = get_or line 5 0

-- what a line's route leads to in a payment; nothing where it is followed nowhere
unfoldable pub at_line : List ℕ → Payment → Option Element
at_line line p =
    if eqb (where_followed line) 1 then in_payment (route_of line) p
    else if eqb (where_followed line) 2 then in_block (route_of line) p
    else if eqb (where_followed line) 3 then inherited (route_of line) p
    else none

-- The same, or else what the other line leads to. (Line 0, where there is no other, leads to nothing.)
unfoldable pub at_lines : List ℕ → Payment → Option Element
at_lines line p = either_of (at_line line p) (at_line (line_of (other_line line)) p)

-- A line's route is of rows, where it is followed.
unfoldable pub of_rows : List ℕ → Bool
of_rows line = if eqb (where_followed line) 0 then true else every is_sought (route_of line)
