-- What it is that an element stands in a message where its head says.
use Prim.Native.Nat.{ℕ, ◌+◌, ◌-◌, ◌≤◌, ◌<◌}
use mathlib.Core.List.{List}
use mathlib.Core.Path.{◌≡◌}
use lib.ListN.{length, take, drop}
use Rattle.paper.specs.Bytes.{bytes}
use Rattle.paper.specs.Form.{Head, Element, Elements, holding_text, holding_elements, []ᵉ, ◌∷ᵉ◌, end_tag}
use Rattle.paper.specs.Form.{IsStartTag}
use Rattle.paper.specs.Rows.{head_of}

-- Both tags of an element stand in the message s where its head says: the start tag from `at` up to `start`, the end tag from `close` on.
pub record TagsInPlace (s : List ℕ) (h : Head) : Type 0 where
  pub angle : take 1 (drop h.at s) ≡ bytes "<"
  pub depth : ℕ
  pub opening : List ℕ
  pub is_start_tag : IsStartTag depth opening h.name h.currency
  pub opening_there : take (h.start - h.at) (drop h.at s) ≡ opening
  pub closing_there : take (length (end_tag h.name)) (drop h.close s) ≡ end_tag h.name
  pub at_first : h.at < h.start
  pub start_first : h.start ≤ h.close
  pub within : h.close + length (end_tag h.name) ≤ length s

-- the offset behind an element's end tag
unfoldable pub end_of : Element → ℕ
end_of t = (head_of t).close + length (end_tag (head_of t).name)

-- An element stands in the message: its tags do, and what it holds stands between them. A text is the bytes from `start` up to `close`; elements stand in their order,
-- each behind the one before.
mutual
  pub data InPlace (s : List ℕ) : Element → Type 0 where
    text_in_place : {h : Head} {w : List ℕ} → TagsInPlace s h → take (h.close - h.start) (drop h.start s) ≡ w → InPlace s (holding_text h w)
    elements_in_place : {h : Head} {ts : Elements} → TagsInPlace s h → AllInPlace s h.start h.close ts → InPlace s (holding_elements h ts)

  pub data AllInPlace (s : List ℕ) : (from to : ℕ) → Elements → Type 0 where
    none_in_place : {from to : ℕ} → from ≤ to → AllInPlace s from to []ᵉ
    more_in_place : {from to : ℕ} {t : Element} {ts : Elements} → from ≤ (head_of t).at → InPlace s t → AllInPlace s (end_of t) to ts
        → AllInPlace s from to (t ∷ᵉ ts)
