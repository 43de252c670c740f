use mathlib.Core.Path.{refl}
use Rattle.paper.specs.Bytes.{is, from_to, one_of, text_byte, capital, letter, digit}
use Rattle.form_ranks.specs.Ranks.{rank}
use Rattle.form_ranks.proofs.Classes.{each_below, ranks_are}
use Rattle.form_ranks.proofs.ranks.Goals as goal

pub returns : goal.returns
unfolding each_below rank text_byte capital letter digit from_to one_of is
returns c = ranks_are _ refl
