-- What the walk of 6 to 8 leaves: counts that are at most fifteen digits, sums and amounts that are money, wherever they stand.
use Rattle.std.specs.Prelude.{[], ◌∷◌, true, ◌≡◌}
use Rattle.std.proofs.Math.Option.{Option, some}
use Rattle.paper.specs.Form.{Element}
use Rattle.paper.specs.Values.{digits, money}
use Rattle.paper.specs.Payments.{Payment, text_of, child, follow, blocks, of_header, payments}
use Rattle.paper.specs.Accepted.{All}

abbrev pub ReadCount : Option Element → Type 0
ReadCount o = (t : Element) → o ≡ some t → digits 1 15 (text_of t) ≡ true

abbrev pub ReadMoney : Option Element → Type 0
ReadMoney o = (t : Element) → o ≡ some t → money (text_of t) ≡ true

pub record ReadBlock (b : Element) : Type 0 where
  pub count : ReadCount (child 14 b)
  pub sum : ReadMoney (child 15 b)

pub record ReadPayment (p : Payment) : Type 0 where
  pub amount : ReadMoney (follow (41 ∷ 42 ∷ []) p.own)

pub record Readable (root : Element) : Type 0 where
  pub header_count : ReadCount (of_header 6 root)
  pub header_sum : ReadMoney (of_header 7 root)
  pub in_blocks : All ReadBlock (blocks root)
  pub in_payments : All ReadPayment (payments root)
