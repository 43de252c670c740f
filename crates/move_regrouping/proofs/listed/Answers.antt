use mathlib.Core.Path.{◌≡◌}
use Rattle.move_regrouping.proofs.Laws.{numbers_differ, wrong_count, not_a_list, the_pairs, same_order, none_read, some_read, all_paired, not_paired, left_with}
use Rattle.move_regrouping.proofs.listed.Goals as goal

pub returns-then-many1-many2 : goal.returns-then-many1-many2
returns-then-many1-many2 c = λ root1 root2 i j. numbers_differ c.args.list.now i j c.if-many1-many2.true

pub returns-in_err-n : goal.returns-in_err-n
returns-in_err-n c =
    λ root1 root2 i j.
    let read = none_read _ _ c.ok_or.ensures.value c.in_err-n.was in
    let g = left_with c.from_residual.result c.from_residual.ensures.1 in
    rw (g, read.1) (not_a_list c.args.list.now i j c.if-many1-many2.false c.ordinals.ensures read.0)

pub returns-then-n-many1 : goal.returns-then-n-many1
returns-then-n-many1 c =
    λ root1 root2 i j.
    let read = some_read _ _ c.ok_or.ensures.value c.in_ok-n.was in
    wrong_count c.args.list.now i j c.if-many1-many2.false c.ordinals.ensures read c.if-n-many1.true

pub returns-in_err-pairing : goal.returns-in_err-pairing
returns-in_err-pairing c =
    λ root1 root2 i j.
    let read = some_read _ _ c.ok_or.ensures.value c.in_ok-n.was in
    let same = c.if-many1-many2.false in
    let g = left_with c.from_residual-in_err-pairing.result c.from_residual-in_err-pairing.ensures.1 in
    let said = not_paired c.in_err-pairing.was in
    rw g (the_pairs c.args.list.now i j same c.ordinals.ensures _ c.pairing.result read c.if-n-many1.false said
    (λ ks e l. c.pairing.ensures root1 root2 ks i (same_order j same) e l))

pub returns : goal.returns
returns c =
    λ root1 root2 i j.
    let read = some_read _ _ c.ok_or.ensures.value c.in_ok-n.was in
    let same = c.if-many1-many2.false in
    the_pairs c.args.list.now i j same c.ordinals.ensures _ c.pairing.result read c.if-n-many1.false (all_paired c.in_ok-pairing.was)
    (λ ks e l. c.pairing.ensures root1 root2 ks i (same_order j same) e l)
