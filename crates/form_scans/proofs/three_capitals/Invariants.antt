use Prim.Native.Nat.{ℕ, ◌≤◌, ◌<◌}
use mathlib.Core.Bool.{true}
use Rattle.form_ranks.specs.Ranks.{RanksAre}
use Rattle.form_scans.specs.Scans.{CapitalAt}
use Rattle.form_scans.proofs.three_capitals.Given as goal

abbrev pub invariant-loop-k : goal.invariant-loop-k
invariant-loop-k l = RanksAre l.ranks → (j : ℕ) → l.at ≤ j → j < l.k → CapitalAt l.s j true
