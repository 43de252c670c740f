-- A country by its letters and the whole length.
use Rattle.std.specs.Prelude.{if◌then◌else◌}
use Prim.Native.Nat.{ℕ}
use mathlib.Core.Path.{◌≡◌, refl}
use mathlib.Core.List.{List, [], ◌∷◌, ◌++◌}
use mathlib.Core.Bool.{Bool, true, false, ◌&&◌, ◌||◌}
use lib.ListN.{length, take}
use lib.Dec.{eqb}
use Rattle.paper.specs.Bytes.{same}
use Rattle.paper.specs.Values.{Country, of_a_country}
use Rattle.paper.specs.Refusals.{among_texts}
use Rattle.leaf_countries.specs.Letters.{letters_of}
use Rattle.leaf_texts.proofs.Laws.{same_swap}

-- a country by its letters and the whole length
pub of_a_country_is : (cs : List Country) (w : List ℕ) → of_a_country cs w ≡ among_texts (take 2 w) (letters_of cs (length w))
unfolding of_a_country letters_of among_texts
of_a_country_is [] w = refl
of_a_country_is (c ∷ cs) w = rw (of_a_country_is cs w, same_swap c.letters (take 2 w)) (by (eqb (length w) c.size) (same (take 2 w) c.letters) refl)
  where
    others : List (List ℕ)
    others = letters_of cs (length w)

    by :
        (fits it : Bool) → same (take 2 w) c.letters ≡ it →
        ((it && fits) || among_texts (take 2 w) others) ≡ among_texts (take 2 w) ((if fits then c.letters ∷ [] else []) ++ others)
    by true true e = rw e
    by true false e = rw e
    by false true e = refl
    by false false e = refl
