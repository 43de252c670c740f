-- Each field stands where its line of the table leads, or else where the other line does.
use Prim.Native.Nat.{ℕ, ◌<◌, ◌≤◌}
use mathlib.Core.List.{List, [], ◌∷◌, map}
use mathlib.Core.Bool.{true, false}
use mathlib.Core.Option.{Option, none}
use mathlib.Core.Path.{◌≡◌, refl, sym, ap, ◌∙◌}
use native.Mathlib.Omega.{arith}
use lib.ListN.{get_or, take, get_or-map, get_or-eq_default}
use lib.Seq.{get_or-take}
use borrow.Author.Tests.{ne_eqb}
use Rattle.paper.specs.Bytes.{every}
use Rattle.paper.specs.Form.{Element}
use Rattle.paper.specs.Payments.{Payment, child, follow, in_payment, in_block, inherited, either_of}
use Rattle.paper.specs.Fields.{Field, plain, or_means, amount_field, remittance, fields, field_element}
use Rattle.paper.proofs.Laws.{both_left, both_right, either_none}
use Rattle.form_names.specs.Names.{is_sought}
use Rattle.form_names.proofs.Laws.{each_number, each_says}
use Rattle.std.specs.Prelude.{None}
use Rattle.std.specs.Prelude as code
use Rattle.std.specs.Option.{is_some}
use Rattle.tree_routes.specs.Finds.{Finds, found_at, found_nothing, rows_in, onward}
use Rattle.tree_routes.proofs.Laws.{follow_step}
use Rattle.tree_routes.proofs.WhatIsFound.{absent}
use Rattle.tree_fields.proofs.LaterRows.{later_rows}
use Rattle.tree_fields.specs.Routes.{route_table, RoutesAre, line_of, where_followed, other_line, route_of, at_line, at_lines, of_rows}

-- A line's route followed: its first row, then the others.
pub route_leads : (line : List ℕ) (t : Element) {s tree : List ℕ} {k : ℕ} {first found : code.Option ℕ} → k ≡ get_or line 1 0
    → (is_sought k ≡ true → Finds s tree (child k t) first)
    → (every is_sought (later_rows line) ≡ true → Finds s tree (child k t) first → Finds s tree (onward (later_rows line) (child k t)) found)
    → every is_sought (route_of line) ≡ true → Finds s tree (follow (route_of line) t) found
unfolding route_of every
route_leads line t e f g y =
    let x = both_left (is_sought (get_or line 1 0)) (every is_sought (later_rows line)) y in
    let z = both_right (is_sought (get_or line 1 0)) (every is_sought (later_rows line)) y in
    rw (follow_step (get_or line 1 0) (later_rows line) t, ← e) (g z (f (rw e x)))

-- what a line leads to, by where its route is followed
module _ (line : List ℕ) (p : Payment) where
  pub line_own : where_followed line ≡ 1 → at_line line p ≡ follow (route_of line) p.own
  unfolding at_line in_payment
  line_own e = rw e

  pub line_block : where_followed line ≡ 2 → at_line line p ≡ follow (route_of line) p.block
  unfolding at_line in_block
  line_block e = rw e

  pub line_either : where_followed line ≡ 3 → at_line line p ≡ either_of (follow (route_of line) p.own) (follow (route_of line) p.block)
  unfolding at_line inherited in_payment in_block
  line_either e = rw e

  pub line_nowhere : (where_followed line ≡ 1 → ⊥) → (where_followed line ≡ 2 → ⊥) → (where_followed line ≡ 3 → ⊥) → at_line line p ≡ none
  unfolding at_line
  line_nowhere a b c = rw (ne_eqb (where_followed line) 1 a, ne_eqb (where_followed line) 2 b, ne_eqb (where_followed line) 3 c)

pub rows_followed : (line : List ℕ) → (where_followed line ≡ 0 → ⊥) → of_rows line ≡ true → every is_sought (route_of line) ≡ true
unfolding of_rows
rows_followed line n y = rw (ne_eqb (where_followed line) 0 n) at y

-- every line of the table is of rows
lines_of_rows : each_number (λ n. of_rows (line_of n)) 21 0 ≡ true
unfolding each_number of_rows route_table route_of rows_in every is_sought
lines_of_rows = refl

pub table_of_rows : {table : List (List ℕ)} → RoutesAre table → (n : ℕ) → n < 21 → of_rows (get_or table n []) ≡ true
table_of_rows e n h = rw e (each_says (λ n. of_rows (line_of n)) 21 0 lines_of_rows n (omega arith) (omega arith))

-- there is no line past the table
module _ {table : List (List ℕ)} (e : RoutesAre table) (p : Payment) {s tree : List ℕ} {n : ℕ} where
  pub past_lines : 21 ≤ n → Finds s tree (at_line (get_or table n []) p) None
  unfolding at_line route_table
  past_lines h = rw (e, get_or-eq_default route_table [] h) found_nothing

-- The fields of a payment by the lines of the table, computed.
all_fields : (p : Payment) → none ∷ map (λ (f : Field). f.element) (fields p) ≡ map (λ (line : List ℕ). at_lines line p) (take 18 route_table)
unfolding fields plain or_means amount_field remittance route_table at_lines at_line route_of rows_in
all_fields p = simp either_none

empty_line : (p : Payment) → at_lines [] p ≡ none
unfolding at_lines at_line route_table either_of
empty_line p = refl

field_by_line : (p : Payment) (n : ℕ) → n < 18 → field_element n p ≡ at_lines (line_of n) p
unfolding field_element
field_by_line p n h =
    let led : List ℕ → Option Element = λ line. at_lines line p in
    ap (λ (l : List (Option Element)). get_or l n none) (all_fields p)
    ∙ (ap (λ (o : Option Element). get_or (map led (take 18 route_table)) n o) (sym (empty_line p))
    ∙ (get_or-map led (take 18 route_table) n [] ∙ ap led (get_or-take 18 route_table n [] h)))

-- no other number is a field
pub past_fields : (p : Payment) {field : ℕ} → 17 < field → field_element field p ≡ none
unfolding field_element fields plain or_means amount_field remittance
past_fields p h = get_or-eq_default (none ∷ map (λ (f : Field). f.element) (fields p)) none h

-- the first of two that may be absent, and the other
pub own_first : {s tree : List ℕ} {o : Option Element} (other : Option Element) {found : code.Option ℕ} → Finds s tree o found → is_some found ≡ true
    → Finds s tree (either_of o other) found
unfolding either_of
own_first other (found_at l) e = found_at l
own_first other found_nothing e = cc

pub else_other : {s tree : List ℕ} {o other : Option Element} {found r : code.Option ℕ} → Finds s tree o found → is_some found ≡ false → Finds s tree other r
    → Finds s tree (either_of o other) r
unfolding either_of
else_other f e g = rw (absent f e) g

-- A field in the lent table: its line leads to it; or leads to nothing, and the other line leads to it, or there is none.
module _ {s tree : List ℕ} {table : List (List ℕ)} (e : RoutesAre table) (p : Payment) {field : ℕ} (h : field < 18) {found : code.Option ℕ} where
  module _ (f : Finds s tree (at_line (get_or table field []) p) found) where
    pub led_to : is_some found ≡ true → Finds s tree (field_element field p) found
    unfolding at_lines
    led_to a = rw (field_by_line p field h) (own_first (at_line (line_of (other_line (line_of field))) p) (rw e at f) a)

    pub led_elsewhere : {r : code.Option ℕ} → is_some found ≡ false → Finds s tree (at_line (get_or table (other_line (get_or table field [])) []) p) r
        → Finds s tree (field_element field p) r
    unfolding at_lines
    led_elsewhere a g = rw (field_by_line p field h) (else_other (rw e at f) a (rw e at g))
