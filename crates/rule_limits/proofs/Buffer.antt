-- The buffer of the order after one block, and after one payment, is written: what stood there before stands there still, and what was written stands there now.
use Prim.Native.Nat.{ℕ, ◌+◌, ◌*◌, ◌≤◌, ◌<◌}
use mathlib.Core.List.{List}
use mathlib.Core.Path.{◌≡◌, refl, ◌∙◌}
use native.Mathlib.Omega.{arith}
use lib.ListN.{length, get_or, set, length-set}
use lib.Seq.{get_or-set_same, get_or-set_other}
use Rattle.rule_limits.specs.Ordered.{payment_in}

-- Another buffer has the same first b blocks and n payments.
pub record Agrees (order other : List ℕ) (b n : ℕ) : Type 0 where
  pub same_blocks : (k : ℕ) → k < b → get_or other k 0 ≡ get_or order k 0
  pub same-payments : (k : ℕ) → k < 3 * n → get_or other (16 + k) 0 ≡ get_or order (16 + k) 0

pub agrees : (order : List ℕ) (b n : ℕ) → Agrees order order b n
agrees order b n = record { same_blocks = λ k h. refl; same-payments = λ k h. refl }

module _ (order other : List ℕ) (b n x : ℕ) (few : b < 16) (room : 208 ≤ length order) (a : Agrees (set order b x) other (b + 1) n) where
  pub wrote_block : Agrees order other b n
  wrote_block =
      record {
        same_blocks = λ k h. a.same_blocks k (omega arith) ∙ get_or-set_other order b k x 0 (λ e. omega arith);
        same-payments = λ k h. a.same-payments k h ∙ get_or-set_other order b (16 + k) x 0 (λ e. omega arith);
      }

  pub block_stands : get_or other b 0 ≡ x
  block_stands = a.same_blocks b (omega arith) ∙ get_or-set_same order b x 0 (omega arith)

-- the three numbers of payment n
abbrev pub three : (order : List ℕ) (n x y z : ℕ) → List ℕ
three order n x y z = set (set (set order (16 + 3 * n) x) (17 + 3 * n) y) (18 + 3 * n) z

pub three_length : (order : List ℕ) (n x y z : ℕ) → length (three order n x y z) ≡ length order
three_length order n x y z = simp length-set

module _ (order other : List ℕ) (b n x y z : ℕ) (few : b < 17) (fewer : n < 64) (room : 208 ≤ length order) (a : Agrees (three order n x y z) other b (n + 1)) where
  three_others : (k : ℕ) → k < 16 + 3 * n → get_or (three order n x y z) k 0 ≡ get_or order k 0
  three_others k h =
      get_or-set_other (set (set order (16 + 3 * n) x) (17 + 3 * n) y) (18 + 3 * n) k z 0 (λ e. omega arith) ∙
      (get_or-set_other (set order (16 + 3 * n) x) (17 + 3 * n) k y 0 (λ e. omega arith) ∙
      get_or-set_other order (16 + 3 * n) k x 0 (λ e. omega arith))

  pub wrote_payment : Agrees order other b n
  wrote_payment =
      record {
        same_blocks = λ k h. a.same_blocks k h ∙ three_others k (omega arith);
        same-payments = λ k h. a.same-payments k (omega arith) ∙ three_others (16 + k) (omega arith);
      }

  own_stands : get_or other (16 + 3 * n) 0 ≡ x
  own_stands =
      a.same-payments (3 * n) (omega arith) ∙
      (get_or-set_other (set (set order (16 + 3 * n) x) (17 + 3 * n) y) (18 + 3 * n) (16 + 3 * n) z 0 (λ e. omega arith) ∙
      (get_or-set_other (set order (16 + 3 * n) x) (17 + 3 * n) (16 + 3 * n) y 0 (λ e. omega arith) ∙
      get_or-set_same order (16 + 3 * n) x 0 (omega arith)))

  its_block_stands : get_or other (17 + 3 * n) 0 ≡ y
  its_block_stands =
      let p : 16 + (3 * n + 1) ≡ 17 + 3 * n = omega arith in
      (rw p at (a.same-payments (3 * n + 1) (omega arith))) ∙
      (get_or-set_other (set (set order (16 + 3 * n) x) (17 + 3 * n) y) (18 + 3 * n) (17 + 3 * n) z 0 (λ e. omega arith) ∙
      get_or-set_same (set order (16 + 3 * n) x) (17 + 3 * n) y 0 (rw (length-set order (16 + 3 * n) x) (omega arith)))

  its_number_stands : get_or other (18 + 3 * n) 0 ≡ z
  its_number_stands =
      let p : 16 + (3 * n + 2) ≡ 18 + 3 * n = omega arith in
      (rw p at (a.same-payments (3 * n + 2) (omega arith))) ∙
      get_or-set_same (set (set order (16 + 3 * n) x) (17 + 3 * n) y) (18 + 3 * n) z 0
      (rw (length-set (set order (16 + 3 * n) x) (17 + 3 * n) y, length-set order (16 + 3 * n) x) (omega arith))

  pub payment_stands : payment_in other n ≡ record { own = x; block = y; number = z }
  unfolding payment_in
  payment_stands = rw (own_stands, its_block_stands, its_number_stands)
