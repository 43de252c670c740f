use Rattle.paper.specs.Answers.{profile_named}
use Rattle.move_regrouping.proofs.Laws.{new_of}
use Rattle.move_regrouping.proofs.as_new.Goals as goal

pub returns : goal.returns
unfolding profile_named
returns c = new_of _ _
