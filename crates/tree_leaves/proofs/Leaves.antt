-- What an element holds, its currency and its text, by its numbers.
use Prim.Native.Nat.{ℕ, ◌+◌, ◌-◌, ◌≤◌}
use mathlib.Core.List.{List, []}
use mathlib.Core.Path.{◌≡◌, refl, sym, ◌∙◌}
use native.Mathlib.Omega.{arith}
use lib.ListN.{length}
use Rattle.paper.specs.Bytes.{bytes}
use Rattle.paper.specs.Form.{Head, Element}
use Rattle.paper.specs.Payments.{text_of}
use Rattle.tree.specs.Laid.{between, Entry, Laid, laid_text, laid_elements}
use Rattle.tree.proofs.Laws.{Cell, at_cell, start_cell, close_cell, next_cell, entry_of}

module _ {s tree : List ℕ} {i next : ℕ} {h : Head} (e : Entry s tree i h next) where
  pub held_there : {r : List ℕ} {start close : ℕ} → Cell tree i 2 start → Cell tree i 3 close → r ≡ between start close s → r ≡ between h.start h.close s
  held_there a b p = rw (start_cell e a, close_cell e b) at p

  module _ {at : ℕ} (a : Cell tree i 0 at) where
    pub currency_there : {r : List ℕ} → h.name ≡ bytes "InstdAmt" → r ≡ between (at + 15) (at + 18) s → r ≡ h.currency
    currency_there {r} n p = let q : r ≡ between (h.at + 15) (h.at + 18) s = rw (at_cell e a) at p in q ∙ e.written.currency_is n

    pub tag_past : {A : Type 0} → length s ≤ at → A
    tag_past l = absurd (omega (arith, at_cell e a, e.written.at_first, e.written.start_first, e.written.close_inside))

module _ {s tree : List ℕ} {i after : ℕ} (c : Cell tree i 4 after) where
  pub text_there : {t : Element} {next : ℕ} {r : List ℕ} → Laid s tree t i next → after - i ≡ 1
      → ((h : Head) (n : ℕ) → Entry s tree i h n → r ≡ between h.start h.close s) → r ≡ text_of t
  unfolding text_of
  text_there (laid_text e n w) k f = f _ _ e ∙ sym w
  text_there (laid_elements e n all) k f = absurd (omega (arith, next_cell e c))

  pub text_nowhere : {t : Element} {next : ℕ} → Laid s tree t i next → (after - i ≡ 1 → ⊥) → [] ≡ text_of t
  unfolding text_of
  text_nowhere (laid_text e n w) k = absurd (k (omega (arith, next_cell e c)))
  text_nowhere (laid_elements e n all) k = refl

  pub text_stuck : {t : Element} {next : ℕ} {A : Type 0} → Laid s tree t i next → after ≤ i → A
  text_stuck l h = absurd (omega (arith, next_cell (entry_of l) c, (entry_of l).numbers.after_it))
