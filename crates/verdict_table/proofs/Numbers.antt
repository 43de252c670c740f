-- The numbers of the payments in the table: each payment has twenty, so that those of payment k begin at number 20k, and the least table has room for all.
use Prim.Native.Nat.{ℕ, suc, ◌+◌, ◌*◌}
use native.Mathlib.Omega.{arith}
use mathlib.Core.List.{List, ◌++◌, append_assoc}
use mathlib.Core.Path.{◌≡◌, refl, sym, ap, ◌∙◌}
use lib.ListN.{length, take, drop}
use lib.Seq.{take_at, drop-append-add, drop-append_seam}
use Rattle.paper.specs.Sizes.{numbers_per_payment, least_table, most_payments}
use Rattle.paper.specs.Bytes.{each}
use Rattle.paper.specs.Form.{Element}
use Rattle.paper.specs.Payments.{Payment, payments}
use Rattle.paper.specs.Refusals.{accepted_with}
use Rattle.paper.specs.Table.{start_and_length, first_pairs, last_pairs, numbers_of, payment_numbers, written, over, table_after}
use Rattle.paper.specs.Regrouping.{At, at_first, at_later}
use Rattle.paper.proofs.Laws.{each_length}

pub least_table_holds_all : numbers_per_payment * most_payments ≡ least_table
least_table_holds_all = refl

pub numbers_length : (p : Payment) → length (numbers_of p) ≡ numbers_per_payment
unfolding numbers_of each first_pairs last_pairs start_and_length
numbers_length p = refl

pub all_numbers_length : (ps : List Payment) → length (each numbers_of ps) ≡ numbers_per_payment * length ps
all_numbers_length ps = each_length numbers_of numbers_per_payment numbers_length ps

-- the numbers of the payment at place k, whatever follows those of all
begins_at : {ps : List Payment} {k : ℕ} {p : Payment} → At ps k p → (rest : List ℕ) → payment_numbers k (each numbers_of ps ++ rest) ≡ numbers_of p
unfolding payment_numbers each
begins_at (at_first {a = p} {rest = ps}) rest =
    rw (append_assoc (numbers_of p) (each numbers_of ps) rest) (take_at (numbers_of p) (each numbers_of ps ++ rest) numbers_per_payment (numbers_length p))
begins_at (at_later {b = q} {rest = ps} {place = k} a) rest =
    let next_row : numbers_per_payment * suc k ≡ length (numbers_of q) + numbers_per_payment * k = omega (arith, numbers_length q) in
    rw (append_assoc (numbers_of q) (each numbers_of ps) rest, next_row)
    (ap (take numbers_per_payment) (drop-append-add (numbers_of q) (each numbers_of ps ++ rest) (numbers_per_payment * k)) ∙ begins_at a rest)

module _ (root : Element) (old : List ℕ) where
  -- Payment k begins at number 20k.
  pub payment_begins : {k : ℕ} {p : Payment} → At (payments root) k p → payment_numbers k (table_after (accepted_with root) old) ≡ numbers_of p
  unfolding table_after over written
  payment_begins a = begins_at a (drop (length (each numbers_of (payments root))) old)

  -- All numbers behind the last payment's keep their old values.
  pub later_stay : drop (numbers_per_payment * length (payments root)) (table_after (accepted_with root) old) ≡ drop (numbers_per_payment * length (payments root)) old
  unfolding table_after over written
  later_stay = rw (sym (all_numbers_length (payments root))) (drop-append_seam (each numbers_of (payments root)) (drop (length (each numbers_of (payments root))) old))
