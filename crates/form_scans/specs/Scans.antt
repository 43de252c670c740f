-- What the functions of `form_scans` say: how the machine of `paper` runs on from where they begin to where they end.
use Rattle.std.specs.Prelude.{ℕ, ◌+◌, ◌-◌, ◌≤◌, ◌<◌, List, [], ◌∷◌, Bool, true, false, ◌≡◌, length, get_or, take, drop, Result, Ok, Err}
use Rattle.paper.specs.Bytes.{bytes, white, text_byte, value_character, capital, letter_or_digit}
use Rattle.paper.specs.Form.{Element}
use Rattle.paper.specs.Computed.Reading.{Open, State, want, blank, in_text, naming, capitals, in_amount, run, Reading, stops_at}
use Rattle.form_scans.specs.declared.Stop.{Stop}
use Rattle.paper_grammar.specs.Stays.{Stays}
use Rattle.paper.specs.Values.{lies_from}
use Rattle.form_ranks.specs.Ranks.{rank}

-- A part was read to an offset, or the message stops at one.
abbrev pub Scan : Type 0
Scan = Result ℕ Stop

-- the machine in a state, with the rest of the text from an offset on
unfoldable pub from : List ℕ → State → ℕ → Reading
from s q at = run q at (drop at s)

-- Whatever is to come (`k`), the machine goes from the state before to the state behind, with what was read in between, or stops.
pub data Scanned {K A : Type 0} (s : List ℕ) (at : ℕ) (ahead : K → State) (behind : K → A → State) : Scan → Type 0 where
  to : {p : ℕ} → at ≤ p → p ≤ length s → (a : A) → ((k : K) → from s (ahead k) at ≡ from s (behind k a) p) → Scanned s at ahead behind (Ok p)
  stops : {n : Stop} → ((k : K) → from s (ahead k) at ≡ stops_at n.at) → Scanned s at ahead behind (Err n)

-- these very bytes
pub record Word (s : List ℕ) (at : ℕ) (w : List ℕ) (r : Scan) : Type 0 where
  pub reads : Scanned {A = Unit {0}} s at (λ q. want w q) (λ q _. q) r
  pub goes : (p : ℕ) → r ≡ Ok p → p ≡ at + length w

-- the offset that a scan has come to
unfoldable pub end_of : Scan → ℕ
end_of (Ok p) = p
end_of (Err n) = n.at

-- a start tag of a name, for an element of a depth whose `<` stands at an offset, up to another
pub record Tag (name : List ℕ) (depth lt end : ℕ) : Type 0 where
  pub tag : Open
  pub its_name : tag.name ≡ name
  pub its_depth : tag.depth ≡ depth
  pub its_at : tag.at ≡ lt
  pub its_start : tag.start ≡ end
  pub long : lt + 2 + length name ≤ end

abbrev pub Opened : (s : List ℕ) (at : ℕ) (name : List ℕ) (depth lt : ℕ) → ((Element → State) → State) → Scan → Type 0
Opened s at name depth lt ahead r = Scanned s at ahead (λ k (o : Tag name depth lt (end_of r)). blank o.tag [] k) r

-- the ranks of the bytes from one offset up to another lie from low to high
abbrev pub Ranked : (s : List ℕ) (at r low high : ℕ) → Type 0
Ranked s at r low high = (k : ℕ) → at ≤ k → k < r → lies_from low high (rank (get_or s k 0)) ≡ true

-- a class of bytes is told by its ranks
abbrev pub IsClass : (class : ℕ → Bool) (low high : ℕ) → Type 0
IsClass class low high = (b : ℕ) → class b ≡ lies_from low high (rank b)

-- bytes of a class, up to the first other byte, or up to an offset
pub record Run (s : List ℕ) (at stop : ℕ) (class : ℕ → Bool) (r : ℕ) : Type 0 where
  pub rises : at ≤ r
  pub within : r ≤ stop
  pub all : (k : ℕ) → at ≤ k → k < r → class (get_or s k 0) ≡ true
  pub other : r < stop → class (get_or s r 0) ≡ false

-- white space between two offsets
pub record Through (s : List ℕ) (at r : ℕ) : Type 0 where
  pub rises : at ≤ r
  pub within : r ≤ length s
  pub stays : (q : State) → Stays q → from s q at ≡ from s q r
  pub blanks : (o : Open) (w : List ℕ) → (w' : List ℕ) × ((k : Element → State) → from s (blank o w k) at ≡ from s (blank o w' k) r)
  pub all_white : (k : ℕ) → at ≤ k → k < r → white (get_or s k 0) ≡ true

-- white space up to the first other byte
pub record White (s : List ℕ) (at r : ℕ) : Type 0 where
  pub through : Through s at r
  pub other : r < length s → white (get_or s r 0) ≡ false

-- a name, or its beginning, between two offsets
pub record Spelt (s : List ℕ) (at r : ℕ) : Type 0 where
  pub rises : at < r
  pub within : r ≤ length s
  pub short : r ≤ at + 32
  pub names : (depth lt : ℕ) (k : Element → State)
      → from s (naming depth lt (get_or s at 0 ∷ []) 31 k) (at + 1) ≡ from s (naming depth lt (take (r - at) (drop at s)) (at + 32 - r) k) r

-- a name up to the first other byte, or up to its greatest length
pub record Name (s : List ℕ) (at r : ℕ) : Type 0 where
  pub spelt : Spelt s at r
  pub other : r < length s → letter_or_digit (get_or s r 0) ≡ true → r ≡ at + 32

-- whether a capital stands at an offset
pub record CapitalAt (s : List ℕ) (at : ℕ) (r : Bool) : Type 0 where
  pub there : r ≡ true → (at < length s) × (capital (get_or s at 0) ≡ true)
  pub not_there : r ≡ false → at < length s → capital (get_or s at 0) ≡ false

-- the three letters of a currency
pub record Letters : Type 0 where
  pub letters : List ℕ
  pub three : length letters ≡ 3

pub record Capitals (s : List ℕ) (at : ℕ) (r : Scan) : Type 0 where
  pub reads : Scanned s at (λ k. capitals 2 [] k) (λ k (l : Letters). k l.letters) r
  pub goes : (p : ℕ) → r ≡ Ok p → p ≡ at + 3

-- behind `<InstdAmt ` of an element of a depth, whose `<` stands at an offset
unfoldable pub opens_currency : (depth lt : ℕ) → (Element → State) → State
opens_currency depth lt k = want (bytes "Ccy=\"") (capitals 2 [] (in_amount depth lt k))

-- text between two offsets
pub record Along (s : List ℕ) (at r : ℕ) : Type 0 where
  pub rises : at ≤ r
  pub within : r ≤ length s
  pub texts : (o : Open) (w : List ℕ) → (w' : List ℕ) × ((k : Element → State) → from s (in_text o w k) at ≡ from s (in_text o w' k) r)

-- characters of values up to the first other byte, which are text
pub record Values (s : List ℕ) (at r : ℕ) : Type 0 where
  pub along : Along s at r
  pub in_set : (k : ℕ) → at ≤ k → k < r → value_character (get_or s k 0) ≡ true

-- text up to the first other byte
pub record Text (s : List ℕ) (at r : ℕ) : Type 0 where
  pub along : Along s at r
  pub other : r < length s → text_byte (get_or s r 0) ≡ false
