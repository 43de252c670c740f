-- What the answers on a leaf say in the paper's words.
use Rattle.std.specs.Prelude.{ℕ, ◌+◌, ◌≡◌, List, Result, Ok, Err}
use Rattle.std.proofs.Math.Option.{Option, none}
use Rattle.paper.specs.Form.{Head}
use Rattle.paper.specs.Rows.{Row, longest_of}
use Rattle.paper.specs.Refusals.{Refusal, refuse, text_refusal}
use Rattle.leaf_values.specs.declared.Unfit.{Unfit}
use Rattle.leaf_values.specs.declared.Unfit.TheVariants.{EmptyOrTooLong, NotInTheSet, NotAllowed}

-- The paper's refusal for each case, at a leaf of this row: 6 and 8 at its `<`, 7 at the byte, so far behind the start of its text.
unfoldable pub told : (row : ℕ) → Head → Result Unit Unfit → Option Refusal
told row h (Ok tt) = none
told row h (Err EmptyOrTooLong) = refuse 6 row h.at
told row h (Err (NotInTheSet i)) = refuse 7 row (h.start + i)
told row h (Err NotAllowed) = refuse 8 row h.at

-- The answer is the paper's for every leaf of this row, this longest length, this currency and this text.
pub record Judges (parent row longest : ℕ) (currency text : List ℕ) (answer : Result Unit Unfit) : Type 0 where
  pub judged :
      (r : Row) (h : Head) → r.row ≡ row → longest_of r.holds ≡ longest → h.currency ≡ currency →
      text_refusal parent r h text ≡ told row h answer
