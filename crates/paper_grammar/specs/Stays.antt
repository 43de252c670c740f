-- A state of the machine that white space leaves as it is.
use Rattle.std.specs.Prelude.{ℕ, true, ◌≡◌}
use Rattle.std.proofs.Math.Option.{some}
use Rattle.paper.specs.Bytes.{white}
use Rattle.paper.specs.Computed.Reading.{State, step}

-- a state that white space leaves as it is
unfoldable pub Stays : State → Type 0
Stays q = (at b : ℕ) → white b ≡ true → step q at b ≡ some q
