use mathlib.Core.Path.{sym, ◌∙◌}
use Rattle.form_ranks.proofs.Classes.{white_from}
use Rattle.form_ranks.proofs.is_white.Goals as goal

pub returns : goal.returns
returns c = λ t. c.ranked.ensures t ∙ sym (white_from _)
