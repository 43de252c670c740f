-- What a walk judges of each element, and what it finds at a leaf.
use Rattle.std.specs.Prelude.{ℕ, List, [], ◌∷◌, ◌≡◌, if◌then◌else◌, Result}
use Rattle.std.proofs.Math.Option.{Option, none}
use Rattle.paper.specs.Bytes.{bytes}
use Rattle.paper.specs.Form.{Head, Element}
use Rattle.paper.specs.Rows.{Row, head_of, longest_of}
use Rattle.paper.specs.Values.{among}
use Rattle.paper.specs.Refusals.{Refusal, refuse, Judgement, text_refusal, leaf_refusal}
use Rattle.paper.specs.Answers.{refusal_found}
use Rattle.tree.specs.Laid.{between, Entry}
use Rattle.paper.specs.declared.Fault.{Fault}
use Rattle.rows_contents.specs.declared.Judging.{Judging}
use Rattle.rows_contents.specs.declared.Judging.TheVariants.{Rows, ArchivedValues, NewValues}

-- The rows that are withdrawn: in a new message row 32.
unfoldable pub withdrawn_by : Judging → List ℕ
withdrawn_by Rows = []
withdrawn_by ArchivedValues = []
withdrawn_by NewValues = 32 ∷ []

-- The text of a leaf, and an element that may be a leaf: nothing for 3 and 4, else 6 to 8.
unfoldable pub at_text : Judging → (parent : ℕ) → Row → Head → List ℕ → Option Refusal
at_text Rows parent r h w = none
at_text ArchivedValues parent r h w = text_refusal parent r h w
at_text NewValues parent r h w = text_refusal parent r h w

unfoldable pub at_leaf : Judging → (parent : ℕ) → Row → Element → Option Refusal
at_leaf Rows parent r t = none
at_leaf ArchivedValues parent r t = leaf_refusal parent r t
at_leaf NewValues parent r t = leaf_refusal parent r t

-- The judgement of each element.
unfoldable pub judgement : Judging → Judgement
judgement judging holder parent r t =
    if among r.row (withdrawn_by judging) then refuse 28 r.row (head_of t).at else at_leaf judging parent r t

-- What is found of the text of element i as a leaf of this row. A leaf of row 42 is known to have that row's name.
abbrev pub Judged : (judged : (parent : ℕ) → Row → Head → List ℕ → Option Refusal) (s tree : List ℕ) (parent i row longest : ℕ) → Result Unit Fault → Type 0
Judged judged s tree parent i row longest f =
    (r : Row) (h : Head) (next : ℕ) → Entry s tree i h next → r.row ≡ row → longest_of r.holds ≡ longest → (row ≡ 42 → h.name ≡ bytes "InstdAmt")
    → refusal_found f ≡ judged parent r h (between h.start h.close s)
