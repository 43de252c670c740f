-- The written form (docs/RULES.md, 2), as a grammar. Each rule gives a text and what it is the text of: an element with its offsets.
use Rattle.std.specs.Prelude.{ℕ, suc, ◌+◌, ◌≤◌, ◌<◌, List, [], ◌∷◌, ◌++◌, true, ◌≡◌, ◌≢◌, length, take}
use Rattle.paper.specs.Bytes.{bytes, white, text_byte, capital, letter, letter_or_digit, Every}

-- What is known of an element besides what it holds: its name, the currency if it is an `InstdAmt`, and three offsets in the message:
-- of its `<`, of what it holds, and of its end tag.
pub record Head : Type 0 where
  pub name : List ℕ
  pub currency : List ℕ
  pub at : ℕ
  pub start : ℕ
  pub close : ℕ

-- An element holds either text or elements.
mutual
  pub data Element : Type 0 where
    holding_text : Head → List ℕ → Element
    holding_elements : Head → Elements → Element

  pub data Elements : Type 0 where
    []ᵉ : Elements
    ◌∷ᵉ◌ : Element → Elements → Elements

infixr 50 ◌∷ᵉ◌
-- A name is a letter and up to 31 letters or digits.
pub data IsName : List ℕ → Type 0 where
  letter_and : {b : ℕ} {bs : List ℕ} → letter b ≡ true → Every letter_or_digit bs → length bs ≤ 31 → IsName (b ∷ bs)

unfoldable pub root_tag : List ℕ
root_tag = bytes "<Document xmlns=\"urn:iso:std:iso:20022:tech:xsd:pain.001.001.09\">"

unfoldable pub start_tag : List ℕ → List ℕ
start_tag name = bytes "<" ++ (name ++ bytes ">")

unfoldable pub amount_tag : List ℕ → List ℕ
amount_tag currency = bytes "<InstdAmt Ccy=\"" ++ (currency ++ bytes "\">")

unfoldable pub end_tag : List ℕ → List ℕ
end_tag name = bytes "</" ++ (name ++ bytes ">")

-- The start tag of an element at a depth: the tag, the name and the currency. The root's depth is 1.
pub data IsStartTag : (depth : ℕ) (tag name currency : List ℕ) → Type 0 where
  of_root : IsStartTag 1 root_tag (bytes "Document") []
  of_amount : {depth : ℕ} {a b c : ℕ} → 1 < depth → Every capital (a ∷ b ∷ c ∷ [])
      → IsStartTag depth (amount_tag (a ∷ b ∷ c ∷ [])) (bytes "InstdAmt") (a ∷ b ∷ c ∷ [])
  of_any_other : {depth : ℕ} {name : List ℕ} → 1 < depth → IsName name → name ≢ bytes "InstdAmt" → IsStartTag depth (start_tag name) name []

-- the head of an element at an offset, by its start tag and the length of what it holds
unfoldable pub head : (name currency : List ℕ) (at : ℕ) (tag held : List ℕ) → Head
head name currency at tag held =
    record { name = name; currency = currency; at = at; start = at + length tag; close = at + length tag + length held }

-- An element at a depth, at most 12, and an offset; and a run of elements, with white space around each.
mutual
  pub data IsElement : (depth at : ℕ) → List ℕ → Element → Type 0 where
    of_text : {depth at : ℕ} {tag name currency text : List ℕ} → depth ≤ 12 → IsStartTag depth tag name currency → Every text_byte text
        → IsElement depth at (tag ++ (text ++ end_tag name)) (holding_text (head name currency at tag text) text)
    of_elements : {depth at : ℕ} {tag name currency inner : List ℕ} {t : Element} {ts : Elements} → depth ≤ 12
        → IsStartTag depth tag name currency → AreElements (suc depth) (at + length tag) inner (t ∷ᵉ ts)
        → IsElement depth at (tag ++ (inner ++ end_tag name)) (holding_elements (head name currency at tag inner) (t ∷ᵉ ts))

  pub data AreElements : (depth at : ℕ) → List ℕ → Elements → Type 0 where
    no_more : {depth at : ℕ} {space : List ℕ} → Every white space → AreElements depth at space []ᵉ
    one_more : {depth at : ℕ} {space one others : List ℕ} {t : Element} {ts : Elements} → Every white space
        → IsElement depth (at + length space) one t → AreElements depth (at + length space + length one) others ts
        → AreElements depth at (space ++ (one ++ others)) (t ∷ᵉ ts)

-- The optional declaration at offset 0.
unfoldable pub declaration : List ℕ
declaration = bytes "<?xml version=\"1.0\" encoding=\"UTF-8\"?>"

pub data IsDeclaration : List ℕ → Type 0 where
  no_declaration : IsDeclaration []
  one_declaration : IsDeclaration declaration

-- A message of the form, and its root: perhaps a declaration, white space, the root, white space.
pub data IsMessage : List ℕ → Element → Type 0 where
  whole : {opening before one after : List ℕ} {t : Element} → IsDeclaration opening → Every white before
      → IsElement 1 (length opening + length before) one t → Every white after → IsMessage (opening ++ (before ++ (one ++ after))) t

unfoldable pub OfTheForm : List ℕ → Type 0
OfTheForm s = (t : Element) × IsMessage s t

-- these bytes begin some text of the form, of any length
unfoldable pub Begins : List ℕ → Type 0
Begins s = (rest : List ℕ) × OfTheForm (s ++ rest)

-- The offset of refusal 2: the first byte after which the bytes so far begin no text of this form; if there is none, the length.
pub record FirstImpossible (s : List ℕ) (n : ℕ) : Type 0 where
  pub not_of_the_form : OfTheForm s → ⊥
  pub within : n ≤ length s
  pub possible_before : Begins (take n s)
  pub impossible_after : n < length s → Begins (take (suc n) s) → ⊥
