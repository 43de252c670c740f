use Rattle.std.proofs.lemmas.Result.{err_from_is_err_and}
use borrow.Author.Rules.{rules}
use native.Mathlib.Omega.{arith}
use Prim.Native.Nat.{◌+◌}
use Rattle.tree.specs.Laid.{between}
use Rattle.form.proofs.ContentLaws.{none_passed, content_ends, content_stops, one_goes, one_passed}
use Rattle.form.proofs.ElementLaws.{is_letter, is_no_letter, in_name, not_in_name, no_letter, too_deep, name_short, name_long, tag_goes, tag_stops, element_read, part_long, as_held, held_stops, end_stops, inside_read}
use Rattle.form.proofs.Reader.+content_element_inside.Goals as goal

pub content-loop-read-init : goal.content-loop-read-init
content-loop-read-init t c = none_passed _ _ _ _ _ c.requires.0

pub content-child_at-requires : goal.content-child_at-requires
content-child_at-requires t c = (c.white_end-p.ensures c.args.self.now.ranked c.loop-read.invariant.within).through.within

pub content-ending-requires : goal.content-ending-requires
content-ending-requires t c = (c.white_end-p.ensures c.args.self.now.ranked c.loop-read.invariant.within).through.within

pub content-returns-then-not-child_at : goal.content-returns-then-not-child_at
content-returns-then-not-child_at t c = content_ends c.loop-read.invariant (c.white_end-p.ensures c.args.self.now.ranked c.loop-read.invariant.within) c.child_at.ensures c.if-not-child_at.true c.ending.ensures

pub content-element-requires : goal.content-element-requires
content-element-requires t c = (search rules, ((c.child_at.ensures.there c.if-not-child_at.false).within, c.requires.1, (let a = c.loop-read.invariant.enough in let b = c.requires.2 in let d = (c.white_end-p.ensures c.args.self.now.ranked c.loop-read.invariant.within).through.rises in omega (arith, a, b, d)), (c.child_at.ensures.there c.if-not-child_at.false).no_slash))

pub content-returns-in_err-read : goal.content-returns-in_err-read
content-returns-in_err-read t c = let p = err_from_is_err_and c.from_residual.result c.from_residual.ensures.1 in rw (p.1, p.2) (content_stops c.loop-read.invariant (c.white_end-p.ensures c.args.self.now.ranked c.loop-read.invariant.within) c.child_at.ensures c.if-not-child_at.false c.element.ensures c.in_err-read.was)

pub content-loop-read-smaller : goal.content-loop-read-smaller
content-loop-read-smaller t c = let p = one_passed c.loop-read.invariant (c.white_end-p.ensures c.args.self.now.ranked c.loop-read.invariant.within) c.child_at.ensures c.if-not-child_at.false c.element.ensures c.requires.1 c.in_ok-read.was in let (a, b) = one_goes c.loop-read.invariant (c.white_end-p.ensures c.args.self.now.ranked c.loop-read.invariant.within) c.child_at.ensures c.if-not-child_at.false c.element.ensures c.in_ok-read.was in let d = (c.white_end-p.ensures c.args.self.now.ranked c.loop-read.invariant.within).through.rises in let e = p.within in omega (arith, a, b, d, e)

pub content-loop-read-preserved : goal.content-loop-read-preserved
content-loop-read-preserved t c = one_passed c.loop-read.invariant (c.white_end-p.ensures c.args.self.now.ranked c.loop-read.invariant.within) c.child_at.ensures c.if-not-child_at.false c.element.ensures c.requires.1 c.in_ok-read.was

pub element-returns-then-rank-lt6 : goal.element-returns-then-rank-lt6
element-returns-then-rank-lt6 t c = no_letter c.args.self.now.s.now c.args.tree.now c.args.lt c.args.i c.args.left c.requires.0 (is_no_letter _ (c.rank.ensures c.args.self.now.ranked) c.if-rank-lt6.true) c.requires.3

pub element-returns-then-left-eq0 : goal.element-returns-then-left-eq0
element-returns-then-left-eq0 t c = too_deep c.args.self.now.s.now c.args.tree.now c.args.lt c.args.i c.args.left c.requires.0 (is_letter _ (c.rank.ensures c.args.self.now.ranked) c.if-rank-lt6.false) c.if-left-eq0.true

pub element-returns-then-e-self : goal.element-returns-then-e-self
element-returns-then-e-self t c = name_short c.args.self.now.s.now c.args.tree.now c.args.lt c.args.i c.args.left c.requires.0 c.name_end-e.result (is_letter _ (c.rank.ensures c.args.self.now.ranked) c.if-rank-lt6.false) (c.name_end-e.ensures c.args.self.now.ranked c.requires.0) c.if-left-eq0.false c.if-e-self.true

pub element-bounds-self-e : goal.element-bounds-self-e
element-bounds-self-e t c = let b = (c.name_end-e.ensures c.args.self.now.ranked c.requires.0).spelt.within in search rules

pub element-returns-then-rank-ge5 : goal.element-returns-then-rank-ge5
element-returns-then-rank-ge5 t c = name_long c.args.self.now.s.now c.args.tree.now c.args.lt c.args.i c.args.left c.requires.0 c.name_end-e.result (is_letter _ (c.rank.ensures c.args.self.now.ranked) c.if-rank-lt6.false) (c.name_end-e.ensures c.args.self.now.ranked c.requires.0) c.if-left-eq0.false (let a = (c.name_end-e.ensures c.args.self.now.ranked c.requires.0).spelt.within in let b = c.if-e-self.false in omega (arith, a, b)) (in_name _ (c.rank-2.ensures c.args.self.now.ranked) c.if-rank-ge5.true)

pub element-slice_bounds-number_of-count : goal.element-slice_bounds-number_of-count
element-slice_bounds-number_of-count t c = let a = (c.name_end-e.ensures c.args.self.now.ranked c.requires.0).spelt.rises in let b = (c.name_end-e.ensures c.args.self.now.ranked c.requires.0).spelt.within in search rules

pub element-slice_bounds-number_of-start : goal.element-slice_bounds-number_of-start
element-slice_bounds-number_of-start t c = let a = (c.name_end-e.ensures c.args.self.now.ranked c.requires.0).spelt.rises in let b = (c.name_end-e.ensures c.args.self.now.ranked c.requires.0).spelt.within in search rules

pub element-slice_bounds-number_of-end : goal.element-slice_bounds-number_of-end
element-slice_bounds-number_of-end t c = let a = (c.name_end-e.ensures c.args.self.now.ranked c.requires.0).spelt.rises in let b = (c.name_end-e.ensures c.args.self.now.ranked c.requires.0).spelt.within in search rules

pub element-inside-requires : goal.element-inside-requires
element-inside-requires t c = let (a, b) = tag_goes c.args.self.now.s.now c.args.tree.now c.args.lt c.args.i c.args.left c.requires.0 c.name_end-e.result (is_letter _ (c.rank.ensures c.args.self.now.ranked) c.if-rank-lt6.false) (c.name_end-e.ensures c.args.self.now.ranked c.requires.0) c.if-left-eq0.false (λ depth room. c.tag_end.ensures c.args.self.now.ranked (let a = (c.name_end-e.ensures c.args.self.now.ranked c.requires.0).spelt.within in let b = c.if-e-self.false in omega (arith, a, b)) (not_in_name _ (c.rank-2.ensures c.args.self.now.ranked) c.if-rank-ge5.false) (between (c.args.lt + 1) c.name_end-e.result c.args.self.now.s.now) depth c.args.lt room (c.number_of-number.ensures c.args.self.now.named) (let a = (c.name_end-e.ensures c.args.self.now.ranked c.requires.0).spelt.within in let b = (c.name_end-e.ensures c.args.self.now.ranked c.requires.0).spelt.rises in let k = part_long c.args.self.now.s.now (c.args.lt + 1) c.name_end-e.result (omega (arith, b)) a in omega (arith, k, b))) (let l = c.requires.1 in omega (arith, l)) c.in_ok-start.was in let r = (c.name_end-e.ensures c.args.self.now.ranked c.requires.0).spelt.rises in let u = (c.name_end-e.ensures c.args.self.now.ranked c.requires.0).spelt.within in let k = part_long c.args.self.now.s.now (c.args.lt + 1) c.name_end-e.result (omega (arith, r)) u in (search rules, (a, (let l = c.if-left-eq0.false in omega (arith, l)), c.requires.1, c.requires.2, r, omega (arith, b, k, r), c.number_of-number.ensures c.args.self.now.named))

pub element-returns-in_err-start : goal.element-returns-in_err-start
element-returns-in_err-start t c = let p = err_from_is_err_and c.from_residual.result c.from_residual.ensures.1 in rw (p.1, p.2) (tag_stops c.args.self.now.s.now c.args.tree.now c.args.lt c.args.i c.args.left c.requires.0 c.name_end-e.result (is_letter _ (c.rank.ensures c.args.self.now.ranked) c.if-rank-lt6.false) (c.name_end-e.ensures c.args.self.now.ranked c.requires.0) c.if-left-eq0.false (λ depth room. c.tag_end.ensures c.args.self.now.ranked (let a = (c.name_end-e.ensures c.args.self.now.ranked c.requires.0).spelt.within in let b = c.if-e-self.false in omega (arith, a, b)) (not_in_name _ (c.rank-2.ensures c.args.self.now.ranked) c.if-rank-ge5.false) (between (c.args.lt + 1) c.name_end-e.result c.args.self.now.s.now) depth c.args.lt room (c.number_of-number.ensures c.args.self.now.named) (let a = (c.name_end-e.ensures c.args.self.now.ranked c.requires.0).spelt.within in let b = (c.name_end-e.ensures c.args.self.now.ranked c.requires.0).spelt.rises in let k = part_long c.args.self.now.s.now (c.args.lt + 1) c.name_end-e.result (omega (arith, b)) a in omega (arith, k, b))) c.in_err-start.was)

pub element-returns : goal.element-returns
element-returns t c = element_read c.args.self.now.s.now c.args.tree.now c.args.lt c.args.i c.args.left c.requires.0 c.name_end-e.result (is_letter _ (c.rank.ensures c.args.self.now.ranked) c.if-rank-lt6.false) (c.name_end-e.ensures c.args.self.now.ranked c.requires.0) c.if-left-eq0.false (λ depth room. c.tag_end.ensures c.args.self.now.ranked (let a = (c.name_end-e.ensures c.args.self.now.ranked c.requires.0).spelt.within in let b = c.if-e-self.false in omega (arith, a, b)) (not_in_name _ (c.rank-2.ensures c.args.self.now.ranked) c.if-rank-ge5.false) (between (c.args.lt + 1) c.name_end-e.result c.args.self.now.s.now) depth c.args.lt room (c.number_of-number.ensures c.args.self.now.named) (let a = (c.name_end-e.ensures c.args.self.now.ranked c.requires.0).spelt.within in let b = (c.name_end-e.ensures c.args.self.now.ranked c.requires.0).spelt.rises in let k = part_long c.args.self.now.s.now (c.args.lt + 1) c.name_end-e.result (omega (arith, b)) a in omega (arith, k, b))) c.in_ok-start.was c.inside.ensures

pub inside-content-requires : goal.inside-content-requires
inside-content-requires t c = (search rules, (c.requires.0, (let l = c.requires.2 in omega (arith, l)), (let a = c.requires.1 in let b = c.requires.3 in let d = c.requires.4 in let e = c.requires.5 in omega (arith, a, b, d, e))))

pub inside-returns-in_err-held : goal.inside-returns-in_err-held
inside-returns-in_err-held t c = let p = err_from_is_err_and c.from_residual.result c.from_residual.ensures.1 in rw (p.1, p.2) (held_stops _ _ _ c.args.lt c.args.e _ _ _ c.requires.1 (as_held c.in_err-held.was c.content.ensures))

pub inside-returns-in_err-at : goal.inside-returns-in_err-at
inside-returns-in_err-at t c = let p = err_from_is_err_and c.from_residual-in_err-at.result c.from_residual-in_err-at.ensures.1 in let h = as_held c.in_ok-held.was c.content.ensures in rw (p.1, p.2) (end_stops _ _ _ c.args.lt c.args.e _ _ _ h c.requires.1 (c.end_tag.ensures h.goes.2) c.in_err-at.was)

pub inside-returns : goal.inside-returns
inside-returns t c = let h = as_held c.in_ok-held.was c.content.ensures in inside_read _ _ _ c.args.lt c.args.e _ _ _ h c.requires.1 (c.end_tag.ensures h.goes.2) _ c.args.number _ c.in_ok-at.was c.put_down.ensures c.requires.3 c.requires.4 c.requires.5 c.requires.0 c.requires.6
