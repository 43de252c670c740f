-- What is found in a payment and in its block decides refusals 9 and 10.
use Prim.Native.Nat.{ℕ}
use mathlib.Core.List.{List}
use mathlib.Core.Bool.{true, false}
use mathlib.Core.Path.{◌≡◌, sym, ap, ◌∙◌}
use Rattle.paper.specs.Payments.{Payment, child}
use Rattle.paper.specs.Refusals.{refuse, in_both, in_neither}
use Rattle.paper.specs.Answers.{refusal_found, refusal_of, numbered}
use Rattle.paper.specs.declared.Fault.TheVariants.{InPaymentAndBlock, InNeither}
use Rattle.tree.specs.Laid.{LaidAt}
use Rattle.tree.proofs.Laws.{Cell, at_cell, entry_at}
use Rattle.tree_routes.specs.Finds.{Finds}
use Rattle.std.specs.Prelude.{Ok, Err, Some, None}
use Rattle.std.specs.Prelude as code
use Rattle.std.specs.Option.{is_some}
use Rattle.tree_routes.proofs.WhatIsFound.{found_none, found_some, stands, absent, own_row, block_row}

module _ (row : ℕ) {s tree : List ℕ} (p : Payment) {f : code.Option ℕ} (own : Finds s tree (child row p.own) f) where
  pub not_own : f ≡ None → refusal_found (Ok tt) ≡ in_both row p
  unfolding refusal_found in_both
  not_own e = sym (rw (own_row row p ∙ found_none own e, in_both))

  pub own_there : is_some f ≡ true → refusal_found (Ok tt) ≡ in_neither row p
  unfolding refusal_found in_neither
  own_there e = sym (rw (own_row row p ∙ (stands own e).is_it, in_neither))

  module _ {g : code.Option ℕ} (block : Finds s tree (child row p.block) g) where
    pub not_block : {i : ℕ} → f ≡ Some i → is_some g ≡ false → refusal_found (Ok tt) ≡ in_both row p
    unfolding refusal_found in_both
    not_block e d = sym (rw (own_row row p ∙ (found_some own e).is_it, block_row row p ∙ absent block d, in_both))

    pub both : {i at : ℕ} → f ≡ Some i → is_some g ≡ true → Cell tree i 0 at → refusal_found (Err (InPaymentAndBlock row at)) ≡ in_both row p
    unfolding refusal_found refusal_of numbered refuse in_both
    both e d c =
        let t = found_some own e in
        sym (rw (own_row row p ∙ t.is_it, block_row row p ∙ (stands block d).is_it, in_both)
        (ap (λ (n : ℕ). refuse 9 row n) (sym (at_cell (entry_at t.laid) c))))

    pub block_there : is_some f ≡ false → is_some g ≡ true → refusal_found (Ok tt) ≡ in_neither row p
    unfolding refusal_found in_neither
    block_there e d = sym (rw (own_row row p ∙ absent own e, block_row row p ∙ (stands block d).is_it, in_neither))

-- 10 is row 16's
pub neither : {s tree : List ℕ} (p : Payment) {f g : code.Option ℕ} {own at : ℕ} → Finds s tree (child 16 p.own) f → is_some f ≡ false
    → Finds s tree (child 16 p.block) g → is_some g ≡ false → LaidAt s tree own p.own → Cell tree own 0 at
    → refusal_found (Err (InNeither at)) ≡ in_neither 16 p
unfolding refusal_found refusal_of numbered refuse in_neither
neither p l e k d o c =
    sym (rw (own_row 16 p ∙ absent l e, block_row 16 p ∙ absent k d, in_neither)
    (ap (λ (n : ℕ). refuse 10 16 n) (sym (at_cell (entry_at o) c))))
