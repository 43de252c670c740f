-- Each case holds: the checker computes each from the definitions.
use mathlib.Core.List.{List, ◌∷◌}
use mathlib.Core.Path.{refl}
use Rattle.paper.specs.Accepted.{All, all_none, all_more}
use Rattle.paper.specs.Bytes.{bytes, is, from_to, one_of, white, text_byte, capital, digit, letter, letter_or_digit, capital_or_digit, value_character, every, same}
use Rattle.paper.specs.Rows.{leaf, group, group_under, rows, instant_changes, with_row, with_rows, instant_rows, for_new, first_profile, instant_profile, row_in, row_of, longest_of}
use Rattle.paper.specs.Values.{among, lies_from, number_after, number, fits, shaped, piece, two_slashes, id, purpose, days_in, true_day, date, date_and_time, zone, date_time_zone, count, before_point, behind_point, digits, money, cents, amount, bic, country, countries, of_a_country, moved, read_after, iban, right_for, spaces_alone, allowed}
use Rattle.paper.specs.Refusals.{refuse, first_not, text_refusal}
use Rattle.paper.specs.Host.{four_bytes, numbers_held}
use Rattle.paper_cases_values.specs.Borders.{Case, Holds, up_from, repeat, those, all_of_kind, said_of, each_says, of_spaces, kind_cases, shared_longest, longest_cases, id_cases, word_cases, purpose_cases, date_cases, time_cases, zone_cases, count_cases, sum_cases, amount_cases, bic_cases, iban_cases, free_cases, host_cases, border_cases}

-- one case more
pub ◌also◌ : {c : Case} {cs : List Case} → Holds c → All Holds cs → All Holds (c ∷ cs)
◌also◌ = all_more

infixr 20 ◌also◌
pub border_cases_hold : All Holds border_cases
unfolding bytes is from_to one_of white text_byte capital digit letter letter_or_digit capital_or_digit value_character every same leaf group group_under rows instant_changes with_row with_rows instant_rows for_new first_profile instant_profile row_in row_of longest_of among lies_from number_after number fits shaped piece two_slashes id purpose days_in true_day date date_and_time zone date_time_zone count before_point behind_point digits money cents amount bic country countries of_a_country moved read_after iban right_for spaces_alone allowed refuse first_not text_refusal four_bytes numbers_held Holds up_from repeat those all_of_kind said_of each_says of_spaces kind_cases shared_longest longest_cases id_cases word_cases purpose_cases date_cases time_cases zone_cases count_cases sum_cases amount_cases bic_cases iban_cases free_cases host_cases border_cases
border_cases_hold =
    refl also refl also refl also refl also refl also refl also refl also refl also refl also refl also refl also refl also refl also refl also refl also refl also refl also refl also refl also
    refl also refl also refl also refl also refl also refl also refl also refl also refl also refl also refl also refl also refl also refl also refl also refl also refl also refl also refl also
    refl also refl also refl also refl also refl also refl also refl also refl also refl also refl also refl also refl also refl also refl also refl also refl also refl also refl also refl also
    refl also refl also refl also refl also refl also refl also refl also refl also refl also refl also refl also refl also refl also refl also refl also refl also refl also refl also refl also
    refl also refl also refl also refl also refl also refl also refl also refl also refl also refl also refl also refl also refl also refl also refl also refl also refl also refl also refl also
    refl also refl also refl also refl also refl also refl also refl also refl also refl also refl also refl also refl also refl also refl also refl also refl also refl also refl also refl also
    refl also refl also refl also refl also refl also refl also refl also refl also refl also refl also refl also refl also refl also refl also refl also refl also refl also refl also refl also
    refl also refl also refl also refl also refl also refl also refl also refl also refl also refl also refl also refl also refl also refl also refl also refl also refl also refl also refl also
    refl also refl also refl also refl also refl also refl also refl also refl also refl also refl also refl also refl also refl also refl also refl also refl also refl also refl also refl also
    refl also refl also refl also refl also refl also refl also refl also refl also refl also refl also refl also refl also refl also refl also refl also refl also refl also refl also refl also
    refl also refl also refl also refl also refl also refl also refl also refl also refl also all_none
