use Rattle.std.proofs.lemmas.Result.{err_from_is_err_and}
use mathlib.Core.Path.{refl}
use Rattle.paper.specs.Bytes.{bytes}
use Rattle.paper.specs.Form.{root_tag}
use Rattle.form_scans.proofs.Laws.{reached}
use Rattle.form.proofs.RootLaws.{root_stops, root_length, root_read}
use Rattle.form.proofs.root_at.Goals as goal

pub in_root-requires : goal.in_root-requires
unfolding root_tag bytes
in_root-requires c = (c.requires.0, (reached (c.word.ensures c.requires.1).reads c.in_ok-p.was).within, root_length c.requires.2 (c.word.ensures c.requires.1) c.in_ok-p.was)

pub returns-in_err-p : goal.returns-in_err-p
unfolding root_tag bytes
returns-in_err-p c = let p = err_from_is_err_and c.from_residual.result c.from_residual.ensures.1 in rw (p.1, p.2) (refl, root_stops c.requires.2 (c.word.ensures c.requires.1) c.in_err-p.was)

pub returns : goal.returns
unfolding root_tag bytes
returns c = (c.in_root.ensures.0, root_read c.requires.2 (c.word.ensures c.requires.1) c.in_ok-p.was c.in_root.ensures.1)
