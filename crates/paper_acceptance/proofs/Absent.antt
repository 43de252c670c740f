-- Which pairs of the table are there in an accepted message: those whose outermost element is there. A pair is absent exactly where its start is 0.
use Prim.Native.Nat.{ℕ, ◌<◌}
use native.Mathlib.Omega.{arith}
use mathlib.Core.List.{List}
use mathlib.Core.Option.{Option, none}
use mathlib.Core.Path.{◌≡◌, refl}
use mathlib.Core.Logic.{◌↔◌}
use Rattle.paper.specs.Form.{Element}
use Rattle.paper.specs.Rows.{Profile, head_of}
use Rattle.paper.specs.Payments.{Payment, payments}
use Rattle.paper.specs.Refusals.{accepted_with, outcome_alone}
use Rattle.paper.specs.Table.{part_of, pairs}
use Rattle.paper.specs.Accepted.{All, EachWith, There, AnyElement, RowsKept, Accepted}
use Rattle.paper.proofs.Laws.{some_not_none, all_map, all_member, all_from}
use Rattle.paper_grammar.proofs.Standing.{InPlace, text_in_place, elements_in_place}
use Rattle.paper_acceptance.proofs.Proper.{Proper}
use Rattle.paper_acceptance.proofs.Present.{PaymentAs, payments_as}
use Rattle.paper_acceptance.proofs.Accepts.{accepted_from}
use Rattle.paper_acceptance.proofs.Texts.{Stands, nothing_stands, it_stands, PaymentInPlace, payments_in_place, pairs_stand}
use Rattle.paper_acceptance.proofs.Outermost.{outermost, pairs_with}

pub record PairsExactly (p : Payment) : Type 0 where
  pub with_the_outermost : EachWith (λ outer o. There o ↔ There outer) (outermost p) (pairs p)
  pub zero_exactly : All (λ o. ((part_of o).start ≡ 0) ↔ (o ≡ none)) (pairs p)

-- The part that an element holds starts behind its tag.
starts_behind : {s : List ℕ} {o : Option Element} → Stands s o → ((part_of o).start ≡ 0) ↔ (o ≡ none)
unfolding part_of head_of
starts_behind nothing_stands = ((λ e. refl), (λ e. refl))
starts_behind {s} (it_stands i) = ((λ e. absurd (omega (arith, e, behind i))), (λ e. some_not_none e))
  where
    behind : {t : Element} → InPlace s t → (head_of t).at < (head_of t).start
    behind (text_in_place g e) = g.at_first
    behind (elements_in_place g h) = g.at_first

pub accepted-pairs : (profile : Profile) → Proper profile → (s : List ℕ) {root : Element} → outcome_alone profile s ≡ accepted_with root → All PairsExactly (payments root)
unfolding accepted_from RowsKept
accepted-pairs profile proper s {root} o =
    all_from (λ p m. exactly p (all_member (payments_in_place accepted.form) m) (all_member (payments_as profile proper AnyElement root (none, accepted.tree.but_counts.rows)) m))
  where
    accepted : Accepted profile s
    accepted = accepted_from profile proper s root o

    exactly : (p : Payment) → PaymentInPlace s p → PaymentAs profile proper AnyElement p → PairsExactly p
    exactly p i c = record { with_the_outermost = pairs_with profile proper AnyElement p c; zero_exactly = all_map (λ q h. starts_behind h) (pairs_stand p i) }
