-- How long the texts of a time and of a zone are.
use Prim.Native.Nat.{ℕ, ◌<◌}
use Prim.Native.String.{String}
use mathlib.Core.Path.{◌≡◌, refl, sym, ◌∙◌}
use mathlib.Core.List.{List}
use mathlib.Core.Bool.{Bool, true, false, ◌&&◌, ◌||◌}
use native.Mathlib.Omega.{arith}
use denote.Ref.{Bor}
use Rattle.std.specs.Prelude.{Option, Some, None}
use Rattle.std.specs.List.{IsSplitAt}
use Rattle.std.specs.Option.{MatchOption}
use Rattle.std.specs.Cmp.Lexicographic.{pointwise}
use lib.ListN.{length, take, length-take}
use Rattle.paper.specs.Bytes.{bytes}
use Rattle.paper.specs.Values.{shaped, date_and_time, zone, date_time_zone}
use Rattle.leaf_texts.specs.Shapes.{fits_byte}
use Rattle.leaf_texts.proofs.Laws.{shaped_is, pairwise-length, pairwise-same-length}

-- a text is as long as its shape
shape_long : (p : String) (w : List ℕ) → shaped p w ≡ true → length (bytes p) ≡ length w
shape_long p w e = pairwise-same-length fits_byte (bytes p) w (sym (shaped_is p w) ∙ e)

pub signed_long : (w : List ℕ) → (shaped "+00:00" w || shaped "-00:00" w) ≡ true → 6 ≡ length w
unfolding bytes
signed_long w e = by (shaped "+00:00" w) refl e
  where
    by : (c : Bool) → shaped "+00:00" w ≡ c → (c || shaped "-00:00" w) ≡ true → 6 ≡ length w
    by true p q = shape_long "+00:00" w p
    by false p q = shape_long "-00:00" w q

-- fewer than 19 bytes hold no date and time
pub short_time : (w : List ℕ) → length w < 19 → date_and_time (take 19 w) ≡ false
unfolding date_and_time bytes
short_time w h = rw (shaped_is "0000-00-00T00:00:00" (take 19 w) ∙ pairwise-length fits_byte (bytes "0000-00-00T00:00:00") (take 19 w) (λ e. omega (arith, length-take 19 w)))

-- and a date and a time, as the code asks it
pub date_long : (w : List ℕ) → pointwise fits_byte (bytes "0000-00-00") w ≡ true → 10 ≡ length w
unfolding bytes
date_long w e = pairwise-same-length fits_byte (bytes "0000-00-00") w e

pub time_long : (w : List ℕ) → pointwise fits_byte (bytes "0000-00-00T00:00:00") w ≡ true → 19 ≡ length w
unfolding bytes
time_long w e = pairwise-same-length fits_byte (bytes "0000-00-00T00:00:00") w e

-- a text split behind its nineteenth byte
pub split_time :
    (w : List ℕ) (o : Option (Bor (List ℕ) × Bor (List ℕ))) (r : Bool) →
    MatchOption o (length w < 19) (λ p. IsSplitAt w 19 p.0.now p.1.now) →
    MatchOption o (r ≡ false) (λ p. r ≡ (date_and_time p.0.now && zone p.1.now)) → r ≡ date_time_zone w
unfolding date_time_zone
split_time w (Some p) r h k = k ∙ rw (h.1, h.2) refl
split_time w None r h k = k ∙ sym (rw (short_time w h) refl)
