use native.Mathlib.Omega.{arith}
use Rattle.std.proofs.lemmas.Grind.{common_steps}
use lib.Dec.{eqb}
use Rattle.paper.specs.Values.{cents}
use Rattle.paper.specs.Answers.{refusal_of}
use Rattle.rule_counts.proofs.sum_is.Goals as goal

pub returns : goal.returns
unfolding refusal_of
returns c = λ o h read. c.stated.ensures _ o (λ w. eqb (cents w) c.args.sum) 13 c.args.row h (λ i b t p l is. let q = read t is in grind (arith, common_steps, p, q, l)) (λ offset f p. grind (arith, common_steps, p))
