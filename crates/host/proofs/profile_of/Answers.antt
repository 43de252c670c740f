use mathlib.Core.Path.{refl}
use Rattle.paper.specs.Answers.{profile_named}
use Rattle.paper.specs.Host.{profile_numbered}
use Rattle.host.proofs.profile_of.Goals as goal

pub returns : goal.returns
unfolding profile_named profile_numbered
returns c = refl
