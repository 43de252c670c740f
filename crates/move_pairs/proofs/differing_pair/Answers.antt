use Rattle.move_pairs.proofs.differing_pair.Goals as goal

pub returns : goal.returns
returns c =
    λ p q w x y.
    c.differing.ensures p q w
    (record { own_is = c.by_name-own1.ensures _ p.own x.own_is; block_is = x.block_is; amount_is = x.amount_is })
    (record { own_is = c.by_name-own2.ensures _ q.own y.own_is; block_is = y.block_is; amount_is = y.amount_is })
