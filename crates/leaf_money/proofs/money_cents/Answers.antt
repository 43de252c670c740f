use native.Mathlib.Omega.{arith}
use mathlib.Core.Path.{sym, ◌∙◌}
use lib.ListN.{length-take}
use Rattle.leaf_money.proofs.Cents.{no_money, whole_money, part_not_money, part_money, point_within, count_is, no_count}
use Rattle.leaf_money.proofs.InCents.{count_below}
use Rattle.leaf_money.proofs.money_cents.Goals as goal

pub slice_bounds-count_number-end : goal.slice_bounds-count_number-end
slice_bounds-count_number-end c = omega (arith, point_within c.args.s.now, length-take c.point-p.result c.args.s.now)

pub returns-in_err-euros : goal.returns-in_err-euros
returns-in_err-euros c = c.from_residual.ensures ∙ sym (no_money c.args.s.now c.point-p.result c.point-p.ensures (no_count _ (sym c.count_number.ensures ∙ c.in_err-euros.was)))

pub overflow_mul-result : goal.overflow_mul-result
overflow_mul-result c = omega (arith, count_below _ _ (sym c.count_number.ensures ∙ c.in_ok-euros.was))

pub returns-then-p-s : goal.returns-then-p-s
returns-then-p-s c =
    let m = count_is _ _ (sym c.count_number.ensures ∙ c.in_ok-euros.was) in
    sym (whole_money c.args.s.now c.point-p.result c.point-p.ensures _ m.0 m.1 c.if-p-s.true)

pub overflow_add-behind : goal.overflow_add-behind
overflow_add-behind c = omega (arith, point_within c.args.s.now)

pub slice_bounds-behind-count : goal.slice_bounds-behind-count
slice_bounds-behind-count c = omega (arith, point_within c.args.s.now)

pub slice_bounds-behind-start : goal.slice_bounds-behind-start
slice_bounds-behind-start c = omega (arith, point_within c.args.s.now)

pub returns-then-not-digits : goal.returns-then-not-digits
returns-then-not-digits c =
    let m = count_is _ _ (sym c.count_number.ensures ∙ c.in_ok-euros.was) in
    sym (part_not_money c.args.s.now c.point-p.result c.point-p.ensures _ m.0 m.1 (omega (arith, point_within c.args.s.now)) (sym c.digits.ensures ∙ c.if-not-digits.true))

pub overflow_mul-result-2 : goal.overflow_mul-result-2
overflow_mul-result-2 c = omega (arith, count_below _ _ (sym c.count_number.ensures ∙ c.in_ok-euros.was))

pub overflow_add-result : goal.overflow_add-result
overflow_add-result c = omega (arith, count_below _ _ (sym c.count_number.ensures ∙ c.in_ok-euros.was))

pub returns : goal.returns
returns c =
    let m = count_is _ _ (sym c.count_number.ensures ∙ c.in_ok-euros.was) in
    sym (part_money c.args.s.now c.point-p.result c.point-p.ensures _ m.0 m.1 (omega (arith, point_within c.args.s.now)) c.hundredths.result (sym c.digits.ensures ∙ c.if-not-digits.false) c.hundredths.ensures.0)
