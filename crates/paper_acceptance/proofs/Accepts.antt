-- Demand 2 on the definitions: where the table is long enough, the verdict accepts a message exactly where `Accepted` holds of it.
use Prim.Native.Nat.{ℕ, ◌≤◌}
use mathlib.Core.List.{List}
use mathlib.Core.Path.{◌≡◌}
use mathlib.Core.Logic.{◌↔◌}
use Rattle.paper.specs.Sizes.{least_table}
use Rattle.paper.specs.Form.{Element}
use Rattle.paper.specs.Rows.{Profile}
use Rattle.paper.specs.Refusals.{accepted_with, outcome_alone, outcome}
use Rattle.paper.specs.Accepted.{Accepted}
use Rattle.paper_grammar.proofs.Complete.{complete}
use Rattle.paper_grammar.proofs.Sound.{sound}
use Rattle.paper_acceptance.proofs.Proper.{Proper}
use Rattle.paper_acceptance.proofs.Outcome.{accepted_alone, accepted_with_table}

module _ (profile : Profile) (proper : Proper profile) where
  -- the root of an accepted message is the one that its outcome has
  unfoldable pub accepted_from : (s : List ℕ) (root : Element) → outcome_alone profile s ≡ accepted_with root → Accepted profile s
  accepted_from s root e =
      record {
        size = ((accepted_alone profile proper s root).0 e).0;
        root = root;
        form = sound s root ((accepted_alone profile proper s root).0 e).1;
        tree = ((accepted_alone profile proper s root).0 e).2;
      }

  pub outcome_of : (s : List ℕ) (a : Accepted profile s) → outcome_alone profile s ≡ accepted_with a.root
  outcome_of s a = (accepted_alone profile proper s a.root).1 (a.size, complete a.form, a.tree)

  -- for a message alone, and for one with a table that is long enough
  pub accepts_exactly : (s : List ℕ) → ((root : Element) × (outcome_alone profile s ≡ accepted_with root)) ↔ Accepted profile s
  accepts_exactly s = ((λ a. accepted_from s a.0 a.1), (λ a. (a.root, outcome_of s a)))

  pub accepts_with_table : (n : ℕ) (s : List ℕ) → least_table ≤ n → ((root : Element) × (outcome profile n s ≡ accepted_with root)) ↔ Accepted profile s
  accepts_with_table n s l = (
    (λ a. (accepts_exactly s).0 (a.0, ((accepted_with_table profile proper n s a.0).0 a.1).1)),
    (λ a. let b = (accepts_exactly s).1 a in (b.0, (accepted_with_table profile proper n s b.0).1 (l, b.1))),
  )
