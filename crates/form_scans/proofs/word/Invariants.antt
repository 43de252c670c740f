use Prim.Native.Nat.{◌+◌, ◌≤◌}
use mathlib.Core.Path.{◌≡◌}
use lib.ListN.{length, drop}
use Rattle.paper.specs.Computed.Reading.{State, want}
use Rattle.form_scans.specs.Scans.{from}
use Rattle.form_scans.proofs.word.Given as goal

-- The loop has found the bytes equal so far, so the machine wants the others.
abbrev pub invariant-loop-b : goal.invariant-loop-b
invariant-loop-b l = (l.p ≡ l.at + l.b-index) × (l.at ≤ length l.s → l.p ≤ length l.s) × ((q : State) → from l.s (want l.w q) l.at ≡ from l.s (want (drop l.b-index l.w) q) l.p)
