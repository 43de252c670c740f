use native.Mathlib.Omega.{arith}
use mathlib.Core.Path.{sym, ◌∙◌}
use Rattle.leaf_accounts.proofs.Account.{remainder_goes, remainder_goes_by_four, remainder_ends}
use Rattle.leaf_accounts.proofs.+remainder.Goals as goal

pub returns-in-empty : goal.returns-in-empty
returns-in-empty t c = (sym (remainder_ends _ c.args.s.now (omega (arith, c.in-empty.len_below))), c.requires)

pub returns-in-len1-up : goal.returns-in-len1-up
returns-in-len1-up t c =
    let l = c.in-len1-up.len_at_least in
    (c.remainder.ensures.0 ∙ remainder_goes _ _ c.args.s.now (λ e. omega (arith, e, l)) c.read_one.ensures.0, c.remainder.ensures.1)

pub returns-in-len4-up : goal.returns-in-len4-up
returns-in-len4-up t c =
    let l = c.in-len4-up.len_at_least in
    (c.remainder-in-len4-up.ensures.0 ∙ remainder_goes_by_four _ _ _ _ _ c.args.s.now (omega (arith, l)) c.read_one-in-len4-up.ensures.0 c.read_one-two.ensures.0 c.read_one-in-len4-up-2.ensures.0 c.read_one-four.ensures.0, c.remainder-in-len4-up.ensures.1)
