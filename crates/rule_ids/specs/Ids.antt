-- Block ids: 11 of one block after the other.
use Rattle.std.specs.Prelude.{ℕ, List, [], ◌∷◌, not}
use Rattle.std.proofs.Math.Option.{Option, none, some}
use Rattle.paper.specs.Form.{Element}
use Rattle.paper.specs.Payments.{text_of, child}
use Rattle.paper.specs.Refusals.{Refusal, unless, among_texts}

-- the ids of earlier blocks, and those with one more block's and with several
unfoldable pub with_id : List (List ℕ) → Option Element → List (List ℕ)
with_id earlier none = earlier
with_id earlier (some id) = text_of id ∷ earlier

unfoldable pub with_ids : List (List ℕ) → List Element → List (List ℕ)
with_ids earlier [] = earlier
with_ids earlier (b ∷ bs) = with_ids (with_id earlier (child 11 b)) bs

-- 11 of one block
unfoldable pub id_refusal : (earlier : List (List ℕ)) → Element → Option Refusal
id_refusal earlier b = unless (λ w. not (among_texts w earlier)) 11 11 (child 11 b)
