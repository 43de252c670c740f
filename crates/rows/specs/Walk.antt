-- What each step of the walk answers, in the words of the paper.
use Rattle.std.specs.Prelude.{ℕ, ◌+◌, List, Bool, true, false, ◌≡◌, if◌then◌else◌, Result, Ok, Err}
use Rattle.std.proofs.Math.Option.{Option, none}
use Rattle.paper.specs.Bytes.{bytes}
use Rattle.paper.specs.Form.{Head, Element, Elements, holding_elements}
use Rattle.paper.specs.Rows.{Profile, head_of}
use Rattle.paper.specs.Refusals.{Refusal, refuse, from_here, no_judgement, walk, walk_all, rows_refusal, value_refusal, values_refusal}
use Rattle.paper.specs.Answers.{profile_named, refusal_found}
use Rattle.tree.specs.Laid.{Entry, Laid, LaidAll, LaidAt}
use Rattle.rows_places.specs.Numbers.{of_entry, places_of, row_at, Stands}
use Rattle.paper.specs.declared.Fault.{Fault}
use Rattle.paper.specs.declared.Profile as named
use Rattle.rows_contents.specs.Judged.{judgement}
use Rattle.rows_contents.specs.declared.Judging.{Judging}
use Rattle.rows_places.specs.declared.Placed.{Placed}
use Rattle.rows_places.specs.declared.Unplaced.{Unplaced}
use Rattle.rows_places.specs.declared.Unplaced.TheVariants.{Never, Early}

-- the whole walk, from the root
unfoldable pub refusal_by : (judging : Bool) → Profile → Element → Option Refusal
refusal_by false profile root = rows_refusal profile root
refusal_by true profile root = values_refusal profile root

-- what it judges of each element, in the named profile: nothing, or 6 to 8 and 28
abbrev pub JudgesFor : named.Profile → (judging : Bool) → Judging → Type 0
JudgesFor profile judging j = judgement j ≡ (if judging then value_refusal (profile_named profile).withdrawn else no_judgement)

-- The promise of `rows_refusal`: of a message that is laid out, what the paper's walk over the rows of the named profile refuses.
abbrev pub WalkPromise : named.Profile → (s tree : List ℕ) (judging : Bool) → Result Unit Fault → Type 0
WalkPromise profile s tree judging f = (root : Element) → LaidAt s tree 0 root → refusal_found f ≡ refusal_by judging (profile_named profile) root

-- the refusal of a child at this offset, unless it is found among the places left in a group of this row
unfoldable pub unless_found : (row at : ℕ) → Result Placed Unplaced → Option Refusal
unless_found row at (Err Never) = refuse 3 row at
unless_found row at (Err (Early first)) = refuse 4 first at
unless_found row at (Ok placed) = none

-- What the walk finds at element i as entry e.
abbrev pub Walks : (s tree : List ℕ) (rows places : List (List ℕ)) (judging : Judging) (parent i e : ℕ) → Result Unit Fault → Type 0
Walks s tree rows places judging parent i e r =
    (profile : Profile) → Stands profile rows places → (t : Element) (next : ℕ) → Laid s tree t i next
    → (of_entry rows e 0 ≡ 42 → (head_of t).name ≡ bytes "InstdAmt") → (holder : Option Element)
    → refusal_found r ≡ walk profile (judgement judging) t holder parent (row_at rows places e)

-- What it finds among the children of element i as entry e.
abbrev pub WalksAll : (s tree : List ℕ) (rows places : List (List ℕ)) (judging : Judging) (i e : ℕ) → Result Unit Fault → Type 0
WalksAll s tree rows places judging i e r =
    (profile : Profile) → Stands profile rows places → (h : Head) (next : ℕ) → Entry s tree i h next → (ts : Elements) → LaidAll s tree ts (i + 1) next
    → refusal_found r ≡ walk_all profile (judgement judging) ts (holding_elements h ts) (of_entry rows e 0)
    (from_here (places_of rows places e)) h.close
