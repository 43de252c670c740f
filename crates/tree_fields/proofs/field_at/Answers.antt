use native.Mathlib.Omega.{arith}
use mathlib.Core.List.{List, []}
use mathlib.Core.Path.{◌≡◌, sym, ◌∙◌}
use lib.ListN.{get_or}
use Prim.Native.Nat.{ℕ, ◌<◌, ◌≤◌}
use Rattle.tree_routes.specs.Finds.{found_nothing}
use Rattle.tree_fields.proofs.Fields.{past_fields, table_of_rows, past_lines, led_to, led_elsewhere}
use Rattle.tree_fields.proofs.field_at.Goals as goal

pub returns-then-field-gt-FIELDS : goal.returns-then-field-gt-FIELDS
returns-then-field-gt-FIELDS c = λ s p e o b. rw (past_fields p c.if-field-gt-FIELDS.true) found_nothing

pub returns-then-is_some : goal.returns-then-is_some
returns-then-is_some c = λ s p e o b.
    let h = c.if-field-gt-FIELDS.false in
    let there = c.along-found.ensures s p (table_of_rows e c.args.field (omega (arith, h))) o b in
    led_to e p (omega (arith, h)) there (sym c.is_some.ensures ∙ c.if-is_some.true)

pub returns-in_err-other : goal.returns-in_err-other
returns-in_err-other c = λ s p e o b.
    let h = c.if-field-gt-FIELDS.false in
    let there = c.along-found.ensures s p (table_of_rows e c.args.field (omega (arith, h))) o b in
    let past : 21 ≤ c.from.result = omega (arith, c.in_err-other.ensures.lookup.3, c.told-routes) in
    rw c.from_residual.ensures
    (led_elsewhere e p (omega (arith, h)) there (sym c.is_some.ensures ∙ c.if-is_some.false) (rw c.from.ensures at (past_lines e p {s = s} {tree = c.args.tree.now} past)))

pub returns : goal.returns
returns c = λ s p e o b.
    let h = c.if-field-gt-FIELDS.false in
    let there = c.along-found.ensures s p (table_of_rows e c.args.field (omega (arith, h))) o b in
    let found = c.in_ok-other.ensures.lookup in
    let inside : c.from.result < 21 = omega (arith, found.3.0, c.told-routes) in
    let line : ◌≡◌ {A = List ℕ} c.in_ok-other.other.now (get_or c.args.routes.now c.from.result []) = found.4 (omega arith) [] in
    led_elsewhere e p (omega (arith, h)) there (sym c.is_some.ensures ∙ c.if-is_some.false)
    (rw (← c.from.ensures, ← line) (c.along.ensures s p (rw line (table_of_rows e c.from.result inside)) o b))
