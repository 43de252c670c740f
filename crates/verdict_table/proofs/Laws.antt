-- Spans and rows of the table.
use Rattle.std.specs.Prelude.{Some, None}
use Rattle.std.specs.Prelude as code
use Prim.Native.Nat.{ℕ, ◌/◌, ◌%◌, ◌-◌, ◌≤◌, ◌<◌}
use native.Mathlib.Nat.{mod-eq_of_lt}
use native.Mathlib.Omega.{arith}
use mathlib.Core.List.{List, [], ◌∷◌}
use mathlib.Core.Option.{Option}
use mathlib.Core.Path.{◌≡◌, refl, sym, ap, ◌∙◌}
use lib.ListN.{length}
use Rattle.paper.specs.Form.{Element}
use Rattle.paper.specs.Bytes.{each}
use Rattle.paper.specs.Rows.{head_of}
use Rattle.paper.specs.Payments.{Payment, child, inherited, amount_of, either_of}
use Rattle.paper.specs.Table.{Part, part_of, start_and_length, first_pairs, last_pairs, numbers_of}
use Rattle.tree.specs.Laid.{LaidAt}
use Rattle.tree.proofs.Laws.{Cell, at_cell, start_cell, close_cell, entry_at}
use Rattle.tree_routes.specs.Finds.{Finds}
use Rattle.tree_routes.proofs.WhatIsFound.{found_none, found_some, own_row, block_row}
use Rattle.verdict_table.specs.Rows.{SpanIs, SpansOf, row_of, Fitting}
use Rattle.verdict_table.specs.declared.Span.{Span}
use Rattle.verdict_table.specs.declared.Spans.{Spans}

-- Two answers that meet `field_span`'s contract agree.
pub spans_agree : {s : List ℕ} {part : Part} (a b : Span) → SpanIs s part a → SpanIs s part b → a ≡ b
spans_agree a b h k = same_fields (h.start_is ∙ sym k.start_is) (h.size_is ∙ sym k.size_is)
  where
    same_fields : {m n p q : ℕ} → m ≡ n → p ≡ q → ◌≡◌ {A = Span} (record { start = m; size = p }) (record { start = n; size = q })
    same_fields x y = rw (x, y)

module _ {s tree : List ℕ} {o : Option Element} {f : code.Option ℕ} (h : Finds s tree o f) where
  pub nothing : f ≡ None → SpanIs s (part_of o) (record { start = 0; size = 0 })
  unfolding part_of
  nothing e = rw (found_none h e) (record { start_is = refl; size_is = refl; inside = omega arith })

  module _ {i start close : ℕ} (e : f ≡ Some i) (a : Cell tree i 2 start) (b : Cell tree i 3 close) where
    pub held : SpanIs s (part_of o) (record { start = start; size = close - start })
    unfolding part_of
    held =
        let t = found_some h e in
        let r = entry_at t.laid in
        let p = start_cell r a in
        let q = close_cell r b in
        let w = r.written in
        rw t.is_it
        (record {
          start_is = p;
          size_is = rw (p, q);
          inside = omega (arith, p, q, w.start_first, w.close_inside);
        })

-- the contents of row 16, the payment's or else its block's
pub kind_found : {s tree : List ℕ} {f : code.Option ℕ} (p : Payment) → Finds s tree (either_of (child 16 p.own) (child 16 p.block)) f → Finds s tree (inherited (16 ∷ []) p) f
unfolding inherited
kind_found p h = rw (own_row 16 p, block_row 16 p) h

-- the numbers of a payment, none of which is cut
module _ {s : List ℕ} {p : Payment} {of : Spans} (w : length s ≤ 32768) (o : SpansOf s p of) where
  uncut : {x y : ℕ} → x < 4294967296 → x ≡ y → x % 4294967296 ≡ y
  uncut h e = mod-eq_of_lt h ∙ e

  start_uncut : {part : Part} {r : Span} → SpanIs s part r → r.start % 4294967296 ≡ part.start
  start_uncut i = uncut (omega (arith, i.inside, w)) i.start_is

  size_uncut : {part : Part} {r : Span} → SpanIs s part r → r.size % 4294967296 ≡ part.size
  size_uncut i = uncut (omega (arith, i.inside, w)) i.size_is

  pub the_row : {number cents at : ℕ} {row : List ℕ} → Fitting p → number ≡ p.block_number → cents ≡ amount_of p.own → at ≡ (head_of p.own).at → at ≤ length s
      → row ≡ row_of number of cents at → row ≡ numbers_of p
  unfolding numbers_of each first_pairs last_pairs start_and_length
  the_row {number} {cents} {at} f n c a b e =
      let e0 : number % 4294967296 ≡ p.block_number = uncut (omega (arith, n, f.numbered)) n in
      let e1 = start_uncut o.id in
      let e2 = size_uncut o.id in
      let e3 = start_uncut o.creditor in
      let e4 = size_uncut o.creditor in
      let e5 = start_uncut o.name in
      let e6 = size_uncut o.name in
      let e7 = start_uncut o.ultimate in
      let e8 = size_uncut o.ultimate in
      let e9 = start_uncut o.kind in
      let e10 = size_uncut o.kind in
      let e11 = start_uncut o.debtor in
      let e12 = size_uncut o.debtor in
      let e13 : cents / 100 % 4294967296 ≡ amount_of p.own / 100 = uncut (omega (arith, c, f.small)) (ap (λ (x : ℕ). x / 100) c) in
      let e14 : cents % 100 ≡ amount_of p.own % 100 = ap (λ (x : ℕ). x % 100) c in
      let e15 : at % 4294967296 ≡ (head_of p.own).at = uncut (omega (arith, b, w)) a in
      let e16 = start_uncut o.bic in
      let e17 = size_uncut o.bic in
      let e18 = start_uncut o.remittance in
      let e19 = size_uncut o.remittance in
      e ∙ rw (e0, e1, e2, e3, e4, e5, e6, e7, e8, e9, e10, e11, e12, e13, e14, e15, e16, e17, e18, e19)

-- an element stands inside the message
pub own_inside : {s tree : List ℕ} {t : Element} {i at : ℕ} → LaidAt s tree i t → Cell tree i 0 at → at ≤ length s
own_inside l c =
    let r = entry_at l in
    let w = r.written in
    omega (arith, at_cell r c, w.at_first, w.start_first, w.close_inside)
