use Rattle.rule_limits.proofs.First.{payment_there}
use Rattle.move_pairs.proofs.payment.Goals as goal

pub returns : goal.returns
returns c =
    λ known.
    let d = c.by_name_again.ensures known in (
      d,
      λ s p b x m.
          let y = payment_there (c.payment-at.ensures b) x in
          record { own_is = y.own_is; block_is = d s p.block y.block_is; amount_is = m },
    )
