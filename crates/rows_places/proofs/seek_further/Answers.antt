use mathlib.Core.Path.{sym, ◌∙◌}
use native.Mathlib.Omega.{arith}
use Rattle.std.proofs.lemmas.Bool.{not-false, not-true}
use Rattle.rows_places.proofs.Places.{seek_fresh, seek_again, seek_on}
use Rattle.rows_places.proofs.seek_further.Goals as goal

pub returns-then-not-left : goal.returns-then-not-left
returns-then-not-left c = λ profile parent s h next r f e. seek_fresh profile _ _ parent h.name _ _ _ (not-true _ c.if-not-left.true) (c.seek.ensures profile parent s h next r e)

pub returns-then-named : goal.returns-then-named
returns-then-named c = λ profile parent s h next r f e.
    let seen = not-false c.args.left.seen c.if-not-left.false in
    seek_again profile _ _ parent h.name _ _ seen (r _ (omega arith) (f seen)) (f seen) _ c.number-entry.ensures (sym (c.named.ensures s h next e) ∙ c.if-named.true)

pub returns-then-left : goal.returns-then-left
returns-then-left c = λ profile parent s h next r f e. absurd (omega (arith, f (not-false _ c.if-not-left.false)))

pub returns : goal.returns
returns c = λ profile parent s h next r f e.
    let seen = not-false c.args.left.seen c.if-not-left.false in
    seek_on profile _ _ parent h.name _ _ seen (r _ (omega arith) (f seen)) (f seen) _ c.number-entry.ensures (sym (c.named.ensures s h next e) ∙ c.if-named.false) _
    (c.seek-2.ensures profile parent s h next (λ p l g. r p (omega arith) g) e)
