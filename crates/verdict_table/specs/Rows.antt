-- The numbers of a payment as the code has them.
use Rattle.std.specs.Prelude.{ℕ, ◌+◌, ◌/◌, ◌%◌, ◌≤◌, ◌<◌, List, [], ◌∷◌, true, ◌≡◌, length}
use Rattle.std.proofs.Math.Option.{some}
use Rattle.paper.specs.Form.{Element}
use Rattle.paper.specs.Values.{money}
use Rattle.paper.specs.Payments.{Payment, text_of, follow, amount_of, in_payment, in_block, inherited, either_of}
use Rattle.paper.specs.Table.{Part, part_of}
use Rattle.verdict_table.specs.declared.Span.{Span}
use Rattle.verdict_table.specs.declared.Spans.{Spans}

-- a span is a part of the message
pub record SpanIs (s : List ℕ) (part : Part) (r : Span) : Type 0 where
  pub start_is : r.start ≡ part.start
  pub size_is : r.size ≡ part.size
  pub inside : r.start + r.size ≤ length s

-- the eight parts of a payment's row
pub record SpansOf (s : List ℕ) (p : Payment) (r : Spans) : Type 0 where
  pub id : SpanIs s (part_of (in_payment (38 ∷ 40 ∷ []) p)) r.id
  pub creditor : SpanIs s (part_of (in_payment (45 ∷ 27 ∷ 28 ∷ []) p)) r.creditor
  pub name : SpanIs s (part_of (in_payment (44 ∷ 25 ∷ []) p)) r.name
  pub ultimate : SpanIs s (part_of (inherited (34 ∷ 35 ∷ []) p)) r.ultimate
  pub kind : SpanIs s (part_of (inherited (16 ∷ []) p)) r.kind
  pub debtor : SpanIs s (part_of (in_block (26 ∷ 27 ∷ 28 ∷ []) p)) r.debtor
  pub bic : SpanIs s (part_of (in_payment (43 ∷ 30 ∷ 31 ∷ []) p)) r.bic
  pub remittance : SpanIs s (part_of (either_of (in_payment (48 ∷ 49 ∷ []) p) (in_payment (48 ∷ 50 ∷ 51 ∷ 55 ∷ []) p))) r.remittance

-- the numbers of a payment's row, each cut to 32 bits
abbrev pub cut : ℕ → ℕ
cut n = n % 4294967296

abbrev pub row_of : (number : ℕ) → Spans → (cents at : ℕ) → List ℕ
row_of number of cents at =
    cut number ∷ cut of.id.start ∷ cut of.id.size ∷ cut of.creditor.start ∷ cut of.creditor.size ∷ cut of.name.start ∷ cut of.name.size ∷
    cut of.ultimate.start ∷ cut of.ultimate.size ∷ cut of.kind.start ∷ cut of.kind.size ∷ cut of.debtor.start ∷ cut of.debtor.size ∷
    cut (cents / 100) ∷ cents % 100 ∷ cut at ∷
    cut of.bic.start ∷ cut of.bic.size ∷ cut of.remittance.start ∷ cut of.remittance.size ∷ []

-- A payment whose numbers fit: its amount is money within row 42's limits, and its block is one of sixteen.
pub record Fitting (p : Payment) : Type 0 where
  pub amount : (u : Element) → follow (41 ∷ 42 ∷ []) p.own ≡ some u → money (text_of u) ≡ true
  pub small : amount_of p.own ≤ 99999999999
  pub numbered : p.block_number < 65536
