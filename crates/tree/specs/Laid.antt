-- The tree of a message, laid out as numbers: six for each element, in the order of the file. They are the offset of its `<`, the number of its name, the offset
-- of what it holds, that of its end tag, the number of the first element that stands after it, and what is known of its text: 1, it is white space alone;
-- 3, it is of the characters of values alone; any other number, nothing.
use Rattle.std.specs.Prelude.{ℕ, ◌+◌, ◌*◌, ◌-◌, ◌≤◌, ◌<◌, List, ◌≡◌, length, get_or, take, drop}
use Rattle.paper.specs.Bytes.{bytes, white, value_character, Every}
use Rattle.paper.specs.Form.{Head, Element, Elements, holding_text, holding_elements, []ᵉ, ◌∷ᵉ◌}
use Rattle.form_names.specs.Names.{name_number}

-- number k of element i
abbrev pub cell_of : List ℕ → (i k : ℕ) → ℕ
cell_of tree i k = get_or tree (i * 6 + k) 0

-- a part of a text, from one offset to another
abbrev pub between : (from to : ℕ) → List ℕ → List ℕ
between from to s = take (to - from) (drop from s)

-- The numbers of element i are those of this head, and `next` is the first element after it.
pub record Numbers (s tree : List ℕ) (i : ℕ) (h : Head) (next : ℕ) : Type 0 where
  pub few : next ≤ 4700
  pub after_it : i < next
  pub at_is : cell_of tree i 0 ≡ h.at
  pub name_is : cell_of tree i 1 ≡ name_number h.name
  pub start_is : cell_of tree i 2 ≡ h.start
  pub close_is : cell_of tree i 3 ≡ h.close
  pub next_is : cell_of tree i 4 ≡ next
  pub white_known : cell_of tree i 5 ≡ 1 → Every white (between h.start h.close s)
  pub values_known : cell_of tree i 5 ≡ 3 → Every value_character (between h.start h.close s)

-- Where a head stands in the bytes of the message.
pub record Written (s : List ℕ) (h : Head) : Type 0 where
  pub at_first : h.at < h.start
  pub start_first : h.start ≤ h.close
  pub close_inside : h.close < length s
  pub currency_inside : h.name ≡ bytes "InstdAmt" → h.at + 18 ≤ h.start
  pub currency_is : h.name ≡ bytes "InstdAmt" → between (h.at + 15) (h.at + 18) s ≡ h.currency

-- Element i has this head, and `next` is the first element after it.
pub record Entry (s tree : List ℕ) (i : ℕ) (h : Head) (next : ℕ) : Type 0 where
  pub numbers : Numbers s tree i h next
  pub written : Written s h

-- An element is laid out from i up to `next`; elements are laid out one after the other.
mutual
  pub data Laid (s tree : List ℕ) : Element → (i next : ℕ) → Type 0 where
    laid_text : {h : Head} {w : List ℕ} {i next : ℕ} → Entry s tree i h next → next ≡ i + 1 → w ≡ between h.start h.close s
        → Laid s tree (holding_text h w) i next
    laid_elements : {h : Head} {ts : Elements} {i next : ℕ} → Entry s tree i h next → i + 1 < next → LaidAll s tree ts (i + 1) next
        → Laid s tree (holding_elements h ts) i next

  pub data LaidAll (s tree : List ℕ) : Elements → (i next : ℕ) → Type 0 where
    laid_none : {i next : ℕ} → i ≡ next → LaidAll s tree []ᵉ i next
    laid_more : {t : Element} {ts : Elements} {i middle next : ℕ} → Laid s tree t i middle → LaidAll s tree ts middle next
        → LaidAll s tree (t ∷ᵉ ts) i next

-- An element is laid out at i.
pub record LaidAt (s tree : List ℕ) (i : ℕ) (t : Element) : Type 0 where
  pub next : ℕ
  pub laid : Laid s tree t i next
