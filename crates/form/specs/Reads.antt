-- What the functions of `form` say: how the machine of `paper` runs on over elements, and where their numbers are put down.
use Rattle.std.specs.Prelude.{ℕ, ◌+◌, ◌*◌, ◌%◌, ◌≤◌, ◌<◌, List, [], Bool, true, false, ◌≡◌, length, get_or, set, Result, Ok, Err, IfOk}
use Rattle.paper.specs.Bytes.{bytes, white, value_character, text_byte, Every}
use Rattle.paper.specs.Form.{Element, Elements, Head, holding_text, holding_elements, []ᵉ, ◌∷ᵉ◌, end_tag}
use Rattle.paper.specs.Rows.{head_of}
use Rattle.paper.specs.Computed.Reading.{Open, closed, State, opening, before, after, angle, blank, want}
use Rattle.tree.specs.Laid.{between, Numbers}
use Rattle.form_scans.specs.Scans.{Scan, Scanned, Along, Tag}
use Rattle.form_scans.specs.declared.Stop.{Stop}
use Rattle.form.specs.declared.Read.{Read}
use Rattle.form.specs.declared.Held.{Held}
use Rattle.form.specs.declared.Kind.{Kind}
use Rattle.form.specs.declared.Kind.TheVariants.{Any, White, Values}

-- Only numbers of element i and of those after it change.
pub record Kept (before after : List ℕ) (i : ℕ) : Type 0 where
  pub length_kept : length after ≡ length before
  pub kept : (k : ℕ) → k < i * 6 → get_or after k 0 ≡ get_or before k 0

-- The six numbers of element i.
unfoldable pub put : List ℕ → (i lt number start close next known : ℕ) → List ℕ
put b i lt number start close next known =
    set (set (set (set (set (set b (i * 6) lt) (i * 6 + 1) number) (i * 6 + 2) start) (i * 6 + 3) close) (i * 6 + 4) next) (i * 6 + 5) known

pub record PutDown (before after : List ℕ) (i lt number start close next known : ℕ) : Type 0 where
  pub room : i < 4700
      → after ≡ put before i (lt % 65536) (number % 65536) (start % 65536) (close % 65536) (next % 65536) (known % 65536)
  pub no_room : 4700 ≤ i → after ≡ before

-- Elements have their numbers in the buffer, from i up to `next`.
mutual
  pub data Numbered (s tree : List ℕ) : Element → (i next : ℕ) → Type 0 where
    numbered_text : {h : Head} {w : List ℕ} {i next : ℕ} → Numbers s tree i h next → next ≡ i + 1 → Numbered s tree (holding_text h w) i next
    numbered_elements : {h : Head} {ts : Elements} {i next : ℕ} → Numbers s tree i h next → i + 1 < next → AllNumbered s tree ts (i + 1) next
        → Numbered s tree (holding_elements h ts) i next

  pub data AllNumbered (s tree : List ℕ) : Elements → (i next : ℕ) → Type 0 where
    none_numbered : {i next : ℕ} → i ≡ next → AllNumbered s tree []ᵉ i next
    more_numbered : {t : Element} {ts : Elements} {i middle next : ℕ} → Numbered s tree t i middle → AllNumbered s tree ts middle next
        → AllNumbered s tree (t ∷ᵉ ts) i next

-- The buffer has room for every element of the message.
pub record Roomy (s tree : List ℕ) : Type 0 where
  pub short : length s ≤ 32768
  pub long : 28200 ≤ length tree

-- whether a `<` at an offset is followed by a byte other than `/`
pub record Child (s : List ℕ) (at : ℕ) : Type 0 where
  pub angled : get_or s at 0 ≡ 60
  pub within : at + 1 < length s
  pub no_slash : get_or s (at + 1) 0 ≡ 47 → ⊥

pub record ChildAt (s : List ℕ) (at : ℕ) (r : Bool) : Type 0 where
  pub there : r ≡ true → Child s at
  pub not_there : r ≡ false → Child s at → ⊥

-- the number that tells what is known of a text
abbrev pub known_number : Kind → ℕ
known_number Any = 0
known_number White = 1
known_number Values = 3

-- what the code finds known of a text, by the offsets at which its white space, the characters of values behind it, and itself end
pub record TextKnown (start p values close : ℕ) (text : Kind) : Type 0 where
  pub white_known : text ≡ White → close ≡ p
  pub values_known : text ≡ Values → (p ≡ start) × (close ≡ values)

-- What is known of the text between two offsets.
pub record Known (s : List ℕ) (start close known : ℕ) : Type 0 where
  pub small : known < 65536
  pub white_known : known ≡ 1 → Every white (between start close s)
  pub values_known : known ≡ 3 → Every value_character (between start close s)

-- What stands behind white space that ends at p and that no child follows: nothing more where there are children, otherwise text.
pub record HeldTo (s : List ℕ) (start at p close known : ℕ) : Type 0 where
  pub behind_children : (at ≡ start → ⊥) → close ≡ p
  pub text : at ≡ start → Along s p close × (close < length s → text_byte (get_or s close 0) ≡ false)
  pub is_known : ((k : ℕ) → start ≤ k → k < p → white (get_or s k 0) ≡ true) → start ≤ p → at ≡ start → Known s start close known
  pub nothing_known : (at ≡ start → ⊥) → known ≡ 0

unfoldable pub HeldAt : (s : List ℕ) (start at p next : ℕ) → Held → Type 0
HeldAt s start at p next held = (held.next ≡ next) × HeldTo s start at p held.close (known_number held.text)

-- How far it was read, and the number of the next element.
unfoldable pub held_scan : Result Held Stop → Scan
held_scan (Ok held) = Ok held.close
held_scan (Err stop) = Err stop

unfoldable pub held_next : Result Held Stop → ℕ
held_next (Ok held) = held.next
held_next (Err stop) = 0

unfoldable pub read_scan : Result Read Stop → Scan
read_scan (Ok read) = Ok read.at
read_scan (Err stop) = Err stop

unfoldable pub read_next : Result Read Stop → ℕ
read_next (Ok read) = read.next
read_next (Err stop) = 0

-- What an element holds has its numbers: a text none, elements theirs.
unfoldable pub Holds : (s tree : List ℕ) → Element → (i next : ℕ) → Type 0
Holds s tree (holding_text h w) i next = next ≡ i
Holds s tree (holding_elements h ts) i next = (i < next) × AllNumbered s tree ts i next

-- An open element that turns out to be this one, once its end tag begins.
pub record Whole (s tree : List ℕ) (o : Open) (close i next : ℕ) : Type 0 where
  pub element : Element
  pub its_head : head_of element ≡ closed o close
  pub holds : Roomy s tree → Holds s tree element i next

-- the offset of the end tag
unfoldable pub close_of : Result Held Stop → ℕ
close_of (Ok held) = held.close
close_of (Err stop) = stop.at

-- What an element holds is read up to its end tag, from the state behind its start tag. Its depth and what is left of it make 12.
pub record ContentRead (s before after : List ℕ) (start i left : ℕ) (r : Result Held Stop) : Type 0 where
  pub kept : Kept before after i
  pub reads : (o : Open) → o.depth + left ≡ 12
      → Scanned s start (blank o []) (λ k (a : Whole s after o (close_of r) i (held_next r)). want (end_tag o.name) (k a.element)) (held_scan r)
  pub goes : IfOk r (λ held. (i ≤ held.next) × (start ≤ held.close) × (held.close ≤ length s) × (7 * held.next + start ≤ 7 * i + held.close)
      × Known s start held.close (known_number held.text))

-- An element that has its numbers.
pub record Placed (s tree : List ℕ) (i next : ℕ) : Type 0 where
  pub element : Element
  pub numbered : Roomy s tree → Numbered s tree element i next

-- A child is read behind its `<`. Its depth and what is left make 13.
pub record ElementRead (s before after : List ℕ) (lt i left : ℕ) (r : Result Read Stop) : Type 0 where
  pub kept : Kept before after i
  pub reads : (depth : ℕ) → depth + left ≡ 13
      → Scanned s (lt + 1) (λ (x : State × (Element → State)). angle depth lt x.0 x.1) (λ x (a : Placed s after i (read_next r)). x.1 a.element) (read_scan r)
  pub goes : IfOk r (λ read. (i < read.next) × (7 * read.next + lt ≤ 7 * i + read.at))

-- The same behind its start tag.
pub record InsideRead (s before after : List ℕ) (lt e start i left : ℕ) (r : Result Read Stop) : Type 0 where
  pub kept : Kept before after i
  pub reads : (depth : ℕ) → depth + left ≡ 13 → (o : Tag (between (lt + 1) e s) depth lt start)
      → Scanned s start (blank o.tag []) (λ k (a : Placed s after i (read_next r)). k a.element) (read_scan r)
  pub goes : IfOk r (λ read. (i < read.next) × (7 * read.next + lt ≤ 7 * i + read.at))

-- the whole message up to a state in which the root is still to come
abbrev pub Prologue : (s : List ℕ) → Scan → Type 0
Prologue s r = Scanned {K = Unit {0}} {A = Unit {0}} s 0 (λ _. opening) (λ _ _. before) r

-- The root, which has its numbers from 0 on.
pub record Root (s tree : List ℕ) : Type 0 where
  pub element : Element
  pub next : ℕ
  pub numbered : Roomy s tree → Numbered s tree element 0 next

-- what the root holds and its end tag, and the root from a state on
abbrev pub InRoot : (s tree : List ℕ) (at start : ℕ) → Scan → Type 0
InRoot s tree at start r =
    (o : Tag (bytes "Document") 1 at start) → Scanned s start (blank o.tag []) (λ k (a : Root s tree). k a.element) r

abbrev pub RootRead : (s tree : List ℕ) (at : ℕ) (q : State) → Scan → Type 0
RootRead s tree at q r = Scanned {K = Unit {0}} s at (λ _. q) (λ _ (a : Root s tree). after a.element) r
