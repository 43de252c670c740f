-- A part of the message that is handed back.
use Rattle.std.specs.Prelude.{ℕ, ◌+◌, List, ◌≡◌, take, drop}
use Rattle.std.specs.Borrow.{Bor}
use Rattle.paper.specs.Table.{Part}

-- What is handed back is that part of the lent message, and no copy: the bytes, and where they lie.
pub record HandsBack (message handed : Bor (List ℕ)) (part : Part) : Type 0 where
  pub bytes_are : handed.now ≡ take part.size (drop part.start message.now)
  pub in_the_message : handed.ref_ptr.0 ≡ message.ref_ptr.0
  pub at_its_place : handed.ref_ptr.1 ≡ message.ref_ptr.1 + part.start
