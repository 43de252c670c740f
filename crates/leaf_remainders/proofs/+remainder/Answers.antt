use native.Mathlib.Omega.{arith}
use mathlib.Core.Path.{sym, ◌∙◌}
use Rattle.leaf_remainders.proofs.Laws.{divided_at_its_end, divided_on}
use Rattle.leaf_remainders.proofs.+remainder.Goals as goal

pub returns-in-empty : goal.returns-in-empty
returns-in-empty t c = (sym (divided_at_its_end _ c.args.unread.now c.requires (omega (arith, c.in-empty.len_below))), c.requires)

pub returns-in-len1-up : goal.returns-in-len1-up
returns-in-len1-up t c =
    let l = c.in-len1-up.len_at_least in
    (c.remainder.ensures.0 ∙ divided_on _ _ _ c.args.unread.now (λ e. omega (arith, e, l)) c.read_as.ensures.0 c.behind-number.ensures.0 c.behind-number.ensures.1, c.remainder.ensures.1)
