use mathlib.Core.Path.{refl}
use Rattle.form_names.specs.Names.{is_sought}
use Rattle.tree_routes.proofs.WhatIsFound.{found_none, found_some}
use Rattle.rule_limits.proofs.NestedWalk.{holds_none}
use borrow.Author.Rules.{rules}
use Rattle.rule_limits.proofs.limits_refusal.Goals as goal

pub returns-in_default : goal.returns-in_default
unfolding is_sought
returns-in_default c = (((search rules, search rules), tt), λ s root l room. holds_none (found_none (c.child.ensures s root refl l) c.in_default.is))

pub returns : goal.returns
unfolding is_sought
returns c = (c.walk.ensures.0, λ s root l room. let f = found_some (c.child.ensures s root refl l) c.in-Some.is in c.walk.ensures.1 s root f.it f.is_it f.laid room)
