-- Blocks, payments and refusal 5, one block and one payment at a time.
use Prim.Native.Nat.{ℕ, suc, ◌+◌}
use mathlib.Core.List.{List, [], ◌∷◌, ◌++◌, map}
use mathlib.Core.Option.{Option, none, some}
use mathlib.Core.Path.{◌≡◌, refl}
use native.Mathlib.Numerals.{add-one}
use lib.ListN.{length}
use borrow.Author.Tests.{ne_eqb}
use Rattle.paper.specs.Form.{Element}
use Rattle.paper.specs.Rows.{head_of}
use Rattle.paper.specs.Payments.{Payment, all_of, child, blocks, payments_of, payments_from}
use Rattle.paper.specs.Refusals.{Refusal, refuse, ◌or_else◌, sixty_fifth, too_many}

-- the payments of some elements of a block
abbrev pub paid : (number : ℕ) → Element → List Element → List Payment
paid number b ts = map (λ t. record { own = t; block = b; block_number = number }) ts

-- the blocks, by the element that holds them
pub blocks_are : (root holder : Element) → child 2 root ≡ some holder → blocks root ≡ all_of 10 holder
unfolding blocks
blocks_are root holder e = rw (blocks, e)

pub no_blocks_are : (root : Element) → child 2 root ≡ none → blocks root ≡ []
unfolding blocks
no_blocks_are root e = rw (blocks, e)

pub payments_from_are : (b : ℕ) (t : Element) (ts : List Element) → payments_from b (t ∷ ts) ≡ paid b t (all_of 37 t) ++ payments_from (suc b) ts
unfolding payments_from payments_of
payments_from_are b t ts = refl

pub no_payments_from : (b : ℕ) → payments_from b [] ≡ []
unfolding payments_from
no_payments_from b = refl

-- a block is in excess, is not; there is none
pub excess_block : (n : ℕ) (t : Element) (ts : List Element) → too_many 16 n (t ∷ ts) ≡ refuse 5 10 (head_of t).at
unfolding too_many
excess_block n t ts = refl

pub next_block : (b n : ℕ) (t : Element) (ts : List Element) → (b ≡ 16 → ⊥)
    → too_many b n (t ∷ ts) ≡ (sixty_fifth n (all_of 37 t) or_else too_many (suc b) (n + length (all_of 37 t)) ts)
unfolding too_many
next_block b n t ts h = rw (ne_eqb b 16 h)

pub no_block : (b n : ℕ) → too_many b n [] ≡ none
unfolding too_many
no_block b n = refl

-- a payment is in excess, is not; there is none
pub excess_payment : (t : Element) (ts : List Element) (later : Option Refusal) → (sixty_fifth 64 (t ∷ ts) or_else later) ≡ refuse 5 37 (head_of t).at
unfolding sixty_fifth ◌or_else◌ refuse
excess_payment t ts later = refl

pub next_payment : (n : ℕ) (t : Element) (ts : List Element) → (n ≡ 64 → ⊥) → sixty_fifth n (t ∷ ts) ≡ sixty_fifth (n + 1) ts
unfolding sixty_fifth
next_payment n t ts h = rw (ne_eqb n 64 h, add-one n)

pub no_payment : (n : ℕ) (later : Option Refusal) → (sixty_fifth n [] or_else later) ≡ later
unfolding sixty_fifth ◌or_else◌
no_payment n later = refl
