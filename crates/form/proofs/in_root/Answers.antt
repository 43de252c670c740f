use Rattle.std.proofs.lemmas.Result.{err_from_is_err_and}
use mathlib.Core.Path.{◌∙◌}
use Rattle.paper.specs.Bytes.{bytes}
use Rattle.form.proofs.ElementLaws.{as_held}
use Rattle.form.proofs.Numbering.{put_kept}
use Rattle.form.proofs.RootLaws.{in_root_stops, root_end_stops, in_root-read}
use Rattle.form.proofs.in_root.Goals as goal

pub returns-in_err-held : goal.returns-in_err-held
returns-in_err-held c = let p = err_from_is_err_and c.from_residual.result c.from_residual.ensures.1 in rw (p.1, p.2) (c.content.ensures.kept.length_kept, in_root_stops _ _ _ c.args.at c.args.start (as_held c.in_err-held.was c.content.ensures))

pub returns-in_err-end : goal.returns-in_err-end
unfolding bytes
returns-in_err-end c = let p = err_from_is_err_and c.from_residual-in_err-end.result c.from_residual-in_err-end.ensures.1 in let h = as_held c.in_ok-held.was c.content.ensures in rw (p.1, p.2) (c.content.ensures.kept.length_kept, root_end_stops _ _ _ c.args.at c.args.start h (c.end_tag.ensures h.goes.2) c.in_err-end.was)

pub returns : goal.returns
unfolding bytes
returns c = let h = as_held c.in_ok-held.was c.content.ensures in ((put_kept c.put_down.ensures).length_kept ∙ c.content.ensures.kept.length_kept, in_root-read _ _ _ c.args.at c.args.start h (c.end_tag.ensures h.goes.2) _ _ c.in_ok-end.was c.put_down.ensures c.requires.1)
