-- The numbers of each payment fit the table where the walk of 6 to 8 refuses nothing and there are at most sixteen blocks.
use Prim.Native.Nat.{ℕ, suc, ◌+◌, ◌≤◌, ◌<◌}
use native.Mathlib.Omega.{arith}
use mathlib.Core.List.{List, [], ◌∷◌, map}
use mathlib.Core.Option.{none}
use mathlib.Core.Path.{◌≡◌}
use lib.ListN.{length}
use Rattle.paper.specs.Form.{Element}
use Rattle.paper.specs.Rows.{Profile}
use Rattle.paper.specs.Payments.{Payment, all_of, blocks, payments, payments_of, payments_from}
use Rattle.paper.specs.Refusals.{values_refusal}
use Rattle.paper.specs.Accepted.{All, all_none, all_more}
use Rattle.paper.proofs.Laws.{all_joined}
use Rattle.paper_acceptance.proofs.Proper.{Proper}
use Rattle.paper_acceptance.proofs.RightValues.{SmallAmount, small_amounts}
use Rattle.tree_leaves.specs.Readable.{ReadPayment}
use Rattle.verdict_table.specs.Rows.{Fitting}
use Rattle.verdict_stages.proofs.Readable.{readable}

-- each payment's block is one of the blocks
numbered-map : (n m : ℕ) (b : Element) (ts : List Element) → n < m → All (λ (p : Payment). p.block_number < m) (map (λ t. record { own = t; block = b; block_number = n }) ts)
numbered-map n m b [] h = all_none
numbered-map n m b (t ∷ ts) h = all_more h (numbered-map n m b ts h)

numbered_from : (n m : ℕ) (bs : List Element) → n + length bs ≤ m → All (λ (p : Payment). p.block_number < m) (payments_from n bs)
unfolding payments_from payments_of
numbered_from n m [] h = all_none
numbered_from n m (b ∷ bs) h = all_joined (numbered-map n m b (all_of 37 b) (omega arith)) (numbered_from (suc n) m bs (omega arith))

-- three facts of each payment together
zipped : {l : List Payment} → All ReadPayment l → All SmallAmount l
    → All (λ (p : Payment). p.block_number < 65536) l → All Fitting l
zipped all_none all_none all_none = all_none
zipped (all_more r h) (all_more c k) (all_more n m) = all_more (record { amount = r.amount; small = c; numbered = n }) (zipped h k m)

pub fits : {profile : Profile} → Proper profile → (root : Element) → values_refusal profile root ≡ none → length (blocks root) ≤ 16 → All Fitting (payments root)
unfolding payments
fits {profile} proper root v b = zipped (readable proper root v).in_payments (small_amounts profile proper root v) (numbered_from 0 65536 (blocks root) (omega arith))
