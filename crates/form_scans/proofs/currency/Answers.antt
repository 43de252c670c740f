use Rattle.std.proofs.lemmas.Result.{err_from_is_err_and}
use Rattle.paper.specs.Bytes.{bytes}
use Rattle.form_scans.proofs.Laws.{reached}
use Rattle.form_scans.proofs.TagLaws.{currency_stops, letters_stop, currency_read}
use borrow.Author.Rules.{rules}
use Rattle.form_scans.proofs.currency.Goals as goal

pub three_capitals-requires : goal.three_capitals-requires
three_capitals-requires c = (reached (c.word.ensures (search rules)).reads c.in_ok-p.was).within

pub returns-in_err-p : goal.returns-in_err-p
unfolding bytes
returns-in_err-p c = let p = err_from_is_err_and c.from_residual.result c.from_residual.ensures.1 in rw (p.1, p.2) (λ n depth lt e. currency_stops _ depth lt _ (c.word.ensures (search rules)) c.in_err-p.was)

pub returns-in_err-q : goal.returns-in_err-q
unfolding bytes
returns-in_err-q c = let p = err_from_is_err_and c.from_residual-in_err-q.result c.from_residual-in_err-q.ensures.1 in rw (p.1, p.2) (λ n depth lt e. letters_stop _ depth lt _ _ (c.word.ensures (search rules)) c.in_ok-p.was (c.three_capitals.ensures n) c.in_err-q.was)

pub returns : goal.returns
unfolding bytes
returns c = λ n depth lt e. currency_read _ depth lt _ _ _ e (c.word.ensures (search rules)) c.in_ok-p.was (c.three_capitals.ensures n) c.in_ok-q.was (c.word-2.ensures (reached (c.three_capitals.ensures n).reads c.in_ok-q.was).within)
