use Rattle.std.proofs.lemmas.Result.{err_from_is_err_and}
use mathlib.Core.List.{◌++◌}
use Rattle.paper.specs.Bytes.{bytes}
use Rattle.paper.specs.Form.{end_tag}
use Rattle.form_scans.proofs.Laws.{reached, word_halts, word_then}
use Rattle.form_scans.proofs.end_tag.Goals as goal

pub returns-in_err-p : goal.returns-in_err-p
unfolding end_tag bytes
returns-in_err-p c = let p = err_from_is_err_and c.from_residual.result c.from_residual.ensures.1 in rw (p.1, p.2) (λ h. word_halts (bytes "</") (c.args.name.now ++ bytes ">") (c.word.ensures h) c.in_err-p.was)

pub returns-in_err-q : goal.returns-in_err-q
unfolding end_tag bytes
returns-in_err-q c = let p = err_from_is_err_and c.from_residual-in_err-q.result c.from_residual-in_err-q.ensures.1 in rw (p.1, p.2) (λ h. word_then (bytes "</") (c.args.name.now ++ bytes ">") (c.word.ensures h) c.in_ok-p.was (word_halts c.args.name.now (bytes ">") (c.word-2.ensures (reached (c.word.ensures h).reads c.in_ok-p.was).within) c.in_err-q.was))

pub returns : goal.returns
unfolding end_tag bytes
returns c = λ h. let l = (reached (c.word.ensures h).reads c.in_ok-p.was).within in let m = (reached (c.word-2.ensures l).reads c.in_ok-q.was).within in word_then (bytes "</") (c.args.name.now ++ bytes ">") (c.word.ensures h) c.in_ok-p.was (word_then c.args.name.now (bytes ">") (c.word-2.ensures l) c.in_ok-q.was (c.word-3.ensures m))
