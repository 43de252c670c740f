use native.Mathlib.Omega.{arith}
use mathlib.Core.Path.{refl, ◌∙◌}
use Rattle.form.proofs.Numbering.{put_same, known_small}
use Rattle.form.proofs.put_down.Goals as goal

pub returns-then-i-ge-ELEMENTS : goal.returns-then-i-ge-ELEMENTS
returns-then-i-ge-ELEMENTS c = record { room = λ h. let a = c.if-i-ge-ELEMENTS.true in absurd (omega (arith, a, h)); no_room = λ _. refl }

pub returns : goal.returns
returns c = record { room = λ _. put_same _ _ c.narrow.ensures c.narrow-2.ensures c.narrow-3.ensures c.narrow-4.ensures c.narrow-5.ensures (c.from.ensures ∙ known_small _); no_room = λ h. let a = c.if-i-ge-ELEMENTS.false in absurd (omega (arith, a, h)) }
