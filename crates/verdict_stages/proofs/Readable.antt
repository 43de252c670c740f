-- Where the walk of 6 to 8 refuses nothing, counts, sums and amounts can be read as numbers.
use Prim.Native.Nat.{ℕ}
use mathlib.Core.List.{List}
use mathlib.Core.Bool.{true}
use mathlib.Core.Option.{none, some}
use mathlib.Core.Path.{◌≡◌, refl, sym, ◌∙◌}
use borrow.Author.Tests.{le-leb}
use native.Mathlib.Omega.{arith}
use lib.ListN.{length}
use lib.Dec.{leb}
use Rattle.paper.specs.Bytes.{every, digit, same}
use Rattle.paper.specs.Form.{Head, Element}
use Rattle.paper.specs.Rows.{Row, leaf, Profile, longest_of}
use Rattle.paper.specs.Values.{among, lies_from, digits, count, money, right_for}
use Rattle.paper.specs.Payments.{text_of, of_header}
use Rattle.paper.specs.Refusals.{values_refusal, among_texts}
use Rattle.paper.specs.Accepted.{RightText}
use Rattle.paper.proofs.Laws.{both, both_right, all_map}
use Rattle.paper_acceptance.proofs.Proper.{Proper, root_route, block_route}
use Rattle.paper_acceptance.proofs.RightValues.{right_value, known, holds_of, amount_money, RightAs, header_right, blocks_right, block_leaf_right, amounts_right}
use Rattle.tree_leaves.specs.Readable.{ReadBlock, Readable}

-- a right count of a row that takes at most fifteen bytes; right money
count-read : (parent : ℕ) {r : Row} {h : Head} {w : List ℕ} → RightText parent r h w → longest_of r.holds ≡ 15
    → ((currency : List ℕ) → right_for parent r.row currency w ≡ count w) → digits 1 15 w ≡ true
unfolding digits lies_from count
count-read parent {w = w} r l a =
    both (both (le-leb 1 (length w) r.not_empty) (le-leb (length w) 15 (omega (arith, r.not_too_long, l))))
    (both_right (leb 1 (length w)) (every digit w) (sym (a _) ∙ right_value _ _ _ w r.value))

money-read : (parent : ℕ) {r : Row} {h : Head} {w : List ℕ} → RightText parent r h w → ((currency : List ℕ) → right_for parent r.row currency w ≡ money w) → money w ≡ true
money-read parent {w = w} r a = sym (a _) ∙ right_value _ _ _ w r.value

module _ {profile : Profile} (proper : Proper profile) where
  in_block : (b : Element) → RightAs profile proper 2 10 b → ReadBlock b
  unfolding right_for leaf among longest_of among_texts same
  in_block b c =
      record {
        count = λ t e.
            count-read 10 (known proper.block_count_is (block_leaf_right profile proper b c 14 15 t (block_route proper _ refl) (holds_of _ _ _ proper.block_count_is) e)) refl (λ _. refl);
        sum = λ t e. money-read 10 (known proper.block_sum_is (block_leaf_right profile proper b c 15 18 t (block_route proper _ refl) (holds_of _ _ _ proper.block_sum_is) e)) (λ _. refl);
      }

  module _ (root : Element) (right : values_refusal profile root ≡ none) where
    header_count : (t : Element) → of_header 6 root ≡ some t → digits 1 15 (text_of t) ≡ true
    unfolding right_for leaf among longest_of among_texts same
    header_count t e =
        count-read 3 (known proper.header_count_is (header_right profile proper root right 6 15 t (root_route proper _ refl) (holds_of _ _ _ proper.header_count_is) e)) refl (λ c. refl)

    header_sum : (t : Element) → of_header 7 root ≡ some t → money (text_of t) ≡ true
    unfolding right_for leaf among longest_of among_texts same
    header_sum t e = money-read 3 (known proper.header_sum_is (header_right profile proper root right 7 18 t (root_route proper _ refl) (holds_of _ _ _ proper.header_sum_is) e)) (λ c. refl)

    pub readable : Readable root
    readable =
        record {
          header_count = header_count;
          header_sum = header_sum;
          in_blocks = all_map in_block (blocks_right profile proper root right);
          in_payments = all_map (λ p c. record { amount = λ u e. amount_money (text_of u) (c u e) }) (amounts_right profile proper root right);
        }
