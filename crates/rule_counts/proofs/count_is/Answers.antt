use borrow.Author.Rules.{rules}
use lib.Dec.{eqb}
use Rattle.paper.specs.Values.{number}
use Rattle.paper.specs.Answers.{refusal_of}
use Rattle.rule_counts.proofs.count_is.Goals as goal

pub returns : goal.returns
unfolding refusal_of
returns c = λ o h read. c.stated.ensures _ o (λ w. eqb (number w) c.args.n) 12 c.args.row h (λ i b t p l is. let q = read t is in search rules) (λ offset f p. search rules)
