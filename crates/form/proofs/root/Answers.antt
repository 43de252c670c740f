use Rattle.std.proofs.lemmas.Result.{err_from_is_err_and}
use mathlib.Core.Path.{refl}
use Rattle.form_scans.proofs.Laws.{reached}
use Rattle.form.proofs.RootLaws.{prologue_stops, whole_root}
use Rattle.form.proofs.root.Goals as goal

pub root_at-requires : goal.root_at-requires
root_at-requires c = (c.requires, (c.white_end.ensures c.requires (reached c.prologue.ensures c.in_ok-p.was).within).through.within, (c.white_end.ensures c.requires (reached c.prologue.ensures c.in_ok-p.was).within).other)

pub returns-in_err-p : goal.returns-in_err-p
returns-in_err-p c = let p = err_from_is_err_and c.from_residual.result c.from_residual.ensures.1 in rw (p.1, p.2) (refl, prologue_stops c.prologue.ensures c.in_err-p.was)

pub returns : goal.returns
returns c = (c.root_at.ensures.0, whole_root c.prologue.ensures c.in_ok-p.was (c.white_end.ensures c.requires (reached c.prologue.ensures c.in_ok-p.was).within) c.root_at.ensures.1)
