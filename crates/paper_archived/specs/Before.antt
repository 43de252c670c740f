-- The verdict and the regrouping as they were before a row was withdrawn: the walk of 6 to 8 asks its judgement at the leaves alone, and both messages of a regrouping are read alike. (Refusal 21, which there was then,
-- is left out: no message reached it, crates/paper_total.)
-- Kept for the theorem that the answers of today are these, where no element is named as a row that is withdrawn (proofs/AsBefore.antt). All that is not said here is today's.
use Rattle.std.specs.Prelude.{ℕ, List}
use Rattle.std.proofs.Math.Option.{Option, none}
use Rattle.paper.specs.Form.{Head, Element, Elements, holding_text, holding_elements, []ᵉ, ◌∷ᵉ◌}
use Rattle.paper.specs.Computed.Reading.{read}
use Rattle.paper.specs.Rows.{text, elements, Row, row_in, head_of}
use Rattle.paper.specs.Refusals.{Refusal, refuse, ◌or_else◌, Left, from_here, ends, only_white, first_at, never, early, found, seek, text_refusal, limits_refusal, usage_refusal, ids_refusal, counts_refusal, Outcome, unless_refused, of_reading, size_refusal, table_refusal}
use Rattle.paper.specs.Regrouping.{RegroupingAnswer, of_outcomes, part_for}
use Rattle.paper.specs.Table.{Part}

-- 3 and 4, one walk in the order of the file, and 6 to 8: the walk that tries each leaf.
module _ (rows : List Row) (judge : (parent : ℕ) → Row → Head → List ℕ → Option Refusal) where
  unfoldable mutual
    pub walk : Element → (parent : ℕ) → Row → Option Refusal
    walk (holding_text h w) parent r =
        elim r.holds [ text longest ↦ judge parent r h w | elements places ↦ only_white r.row places h w ]
    walk (holding_elements h ts) parent r =
        elim r.holds [
          | text longest ↦ refuse 3 r.row (first_at ts h.start)
          | elements places ↦ walk_all ts r.row (from_here places) h.close
        ]

    pub walk_all : Elements → (row : ℕ) → Left → (close : ℕ) → Option Refusal
    walk_all []ᵉ row left close = ends left close
    walk_all (t ∷ᵉ ts) row left close =
        elim (seek left (head_of t).name) [
          | never ↦ refuse 3 row (head_of t).at
          | early first ↦ refuse 4 first (head_of t).at
          | found k behind ↦ walk t row (row_in rows row k) or_else walk_all ts row behind close
        ]

unfoldable pub no_judgement : (parent : ℕ) → Row → Head → List ℕ → Option Refusal
no_judgement parent r h w = none

unfoldable pub rows_refusal : List Row → Element → Option Refusal
rows_refusal rows root = walk rows no_judgement root 0 (row_in rows 0 1)

unfoldable pub values_refusal : List Row → Element → Option Refusal
values_refusal rows root = walk rows text_refusal root 0 (row_in rows 0 1)

-- the stages, in their order
unfoldable pub tree_refusal : List Row → Element → Option Refusal
tree_refusal rows root =
    rows_refusal rows root or_else limits_refusal root or_else values_refusal rows root or_else usage_refusal root or_else
    ids_refusal root or_else counts_refusal root

unfoldable pub outcome_alone : List Row → List ℕ → Outcome
outcome_alone rows s = unless_refused (size_refusal s) (of_reading (tree_refusal rows) (read s))

unfoldable pub outcome : List Row → (table_length : ℕ) → List ℕ → Outcome
outcome rows n s = unless_refused (table_refusal n) (outcome_alone rows s)

unfoldable pub regrouping : List Row → (first second file : List ℕ) → RegroupingAnswer
regrouping rows first second file = of_outcomes (outcome_alone rows first) (outcome_alone rows second) file

unfoldable pub differing_part : List Row → (first second file : List ℕ) → Part
differing_part rows first second file = part_for (regrouping rows first second file) (outcome_alone rows second)
