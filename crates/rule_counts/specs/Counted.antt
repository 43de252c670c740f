-- Counts and sums, as far as the code needs words of its own.
use Rattle.std.specs.Prelude.{ℕ, ◌+◌, ◌≤◌, ◌<◌, List, ◌≡◌, length, eqb, Bool}
use Rattle.std.proofs.Math.Option.{Option, some}
use Rattle.paper.specs.Form.{Element}
use Rattle.paper.specs.Values.{number, cents}
use Rattle.paper.specs.Payments.{Payment, text_of, child, all_of, of_header, payments_from, sum_of}
use Rattle.paper.specs.Refusals.{Refusal, ◌or_else◌, unless}
use Rattle.paper.specs.Accepted.{All}
use Rattle.paper.specs.Answers.{refusal_of, numbered}
use Rattle.paper.specs.declared.Fault.{Fault}
use Rattle.tree.specs.Laid.{LaidAt}
use Rattle.rule_limits.specs.Ordered.{BlocksAt, PaymentsAt}
use Rattle.tree_leaves.specs.Readable.{ReadBlock, ReadPayment}

-- A payment of block k, and one of a block behind it.
abbrev pub InBlock : ℕ → Payment → Type 0
InBlock k p = p.block_number ≡ k

abbrev pub BehindBlock : ℕ → Payment → Type 0
BehindBlock k p = k < p.block_number

-- These blocks stand from block k on, and their payments from payment n on, up to so many blocks and payments.
pub record BlocksFrom (s tree order : List ℕ) (k n many_blocks many_payments : ℕ) (bs : List Element) : Type 0 where
  pub blocks_at : BlocksAt s tree order k bs
  pub blocks_many : many_blocks ≡ k + length bs
  pub payments_at : PaymentsAt s tree order n (payments_from k bs)
  pub payments_many : many_payments ≡ n + length (payments_from k bs)
  pub few_blocks : many_blocks ≤ 16
  pub few_payments : many_payments ≤ 64
  pub read_blocks : All ReadBlock bs
  pub read_payments : All ReadPayment (payments_from k bs)

-- 12 and 13 of the header, with the true numbers, and of one block
unfoldable pub header_refusal : (payments cents : ℕ) → Element → Option Refusal
header_refusal n c root =
    unless (λ w. eqb (number w) n) 12 6 (of_header 6 root) or_else unless (λ w. eqb (cents w) c) 13 7 (of_header 7 root)

unfoldable pub block_refusal : Element → Option Refusal
block_refusal b =
    unless (λ w. eqb (number w) (length (all_of 37 b))) 12 14 (child 14 b) or_else
    unless (λ w. eqb (cents w) (sum_of (all_of 37 b))) 13 15 (child 15 b)

-- A test of an element, which it answers so, is this test of the element's text; and a fault that is made so of an offset is this refusal there.
abbrev pub Asks : (s tree : List ℕ) (o : Option Element) (test : List ℕ → Bool) (answers : ℕ → Bool → Type 0) → Type 0
Asks s tree o test answers = (i : ℕ) (b : Bool) (t : Element) → answers i b → LaidAt s tree i t → o ≡ some t → b ≡ test (text_of t)

abbrev pub Makes : (number row : ℕ) (made : ℕ → Fault → Type 0) → Type 0
Makes number row made = (offset : ℕ) (fault : Fault) → made offset fault → refusal_of fault ≡ numbered number row offset
