use native.Mathlib.Omega.{arith}
use Rattle.paper.specs.Payments.{text_of}
use Rattle.rule_ids.proofs.Repeats.{unmatched, matched, still_unmatched, never_matched}
use Rattle.rule_ids.proofs.among_earlier.Goals as goal

pub loop-j-init : goal.loop-j-init
loop-j-init c = λ bs t a e n l. unmatched (text_of t) a e

pub returns-then-has_id : goal.returns-then-has_id
returns-then-has_id c =
    let test = c.loop-j-test.true in
    λ bs t a e n l.
    let here = c.block.ensures (omega (arith, test, n)) in
    matched l (c.loop-j.invariant bs t a e n l) here test c.has_id.ensures c.if-has_id.true

pub loop-j-preserved : goal.loop-j-preserved
loop-j-preserved c =
    let test = c.loop-j-test.true in
    λ bs t a e n l.
    let here = c.block.ensures (omega (arith, test, n)) in
    still_unmatched l (c.loop-j.invariant bs t a e n l) here test c.has_id.ensures c.if-has_id.false

pub returns : goal.returns
returns c = λ bs t a e n l. never_matched (c.loop-j.invariant bs t a e n l) c.loop-j-test.false
