-- Entries that are those of the profile that is named.
use Prim.Native.Nat.{ℕ}
use mathlib.Core.List.{List}
use mathlib.Core.Bool.{Bool}
use mathlib.Core.Path.{◌≡◌, sym, ap, ◌∙◌}
use Rattle.rows_profile.specs.Profile.{entries_of}

pub as_said : {b named : Bool} {l : List (List ℕ)} → named ≡ b → l ≡ entries_of b → l ≡ entries_of named
as_said e f = f ∙ ap entries_of (sym e)
