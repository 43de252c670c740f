-- The written form, read from left to right: the root's element where the text is of the form, and otherwise the offset of refusal 2. Nothing here need be
-- believed (Computed.antt says why).
use Rattle.std.specs.Prelude.{ℕ, zero, suc, ◌+◌, List, [], ◌∷◌, ◌++◌, length, drop, eqb, leb, if◌then◌else◌}
use Prim.Native.Char.{code}
use Rattle.std.proofs.Math.Option.{Option, none, some}
use Rattle.paper.specs.Bytes.{bytes, is, white, text_byte, capital, letter, letter_or_digit, same}
use Rattle.paper.specs.Form.{Head, Element, Elements, holding_text, holding_elements, []ᵉ, ◌∷ᵉ◌, root_tag, amount_tag, declaration}

-- An element whose start tag has been read.
pub record Open : Type 0 where
  pub name : List ℕ
  pub currency : List ℕ
  pub at : ℕ
  pub start : ℕ
  pub depth : ℕ

-- its head, once its end tag begins at an offset
unfoldable pub closed : Open → ℕ → Head
closed o close = record { name = o.name; currency = o.currency; at = o.at; start = o.start; close = close }

-- What has been read is told by what may come next. Where an element may come, `k` says what comes after it.
pub data State : Type 0 where
  -- this byte, these bytes, and then what the state says
  fixed : ℕ → List ℕ → State → State
  -- nothing has been read; a `<` at offset 0; behind the declaration or white space, where the root may begin
  opening opened before : State
  -- a `<` at an offset, behind which the end tag or a child of this depth goes on
  angle : (depth at : ℕ) → State → (Element → State) → State
  -- the name of a start tag, which has room for so many bytes more
  naming : (depth at : ℕ) → List ℕ → (room : ℕ) → (Element → State) → State
  -- the letters of a currency, of which one and so many more are to come
  capitals : ℕ → List ℕ → (List ℕ → State) → State
  -- in an element: nothing or white space so far; text that is not all white space; at least one child (the function puts those read so far before those
  -- to come)
  blank : Open → List ℕ → (Element → State) → State
  in_text : Open → List ℕ → (Element → State) → State
  after_child : Open → (Elements → Elements) → (Element → State) → State
  -- the root has ended
  after : Element → State

unfoldable pub want : List ℕ → State → State
want [] q = q
want (b ∷ bs) q = fixed b bs q

-- behind `</` of an open element that turns out to be `t`
unfoldable pub ending : Open → Element → (Element → State) → State
ending o t k = want (o.name ++ bytes ">") (k t)

-- in the root, whose `<` stands at an offset
unfoldable pub in_root : ℕ → State
in_root at = blank (record { name = bytes "Document"; currency = []; at = at; start = at + length root_tag; depth = 1 }) [] after

-- behind the currency of an `InstdAmt` whose `<` stands at offset `from`
unfoldable pub in_amount : (depth from : ℕ) → (Element → State) → List ℕ → State
in_amount depth from k currency =
    want (bytes "\">")
    (blank
    (record {
      name = bytes "InstdAmt";
      currency = currency;
      at = from;
      start = from + length (amount_tag currency);
      depth = depth;
    }) [] k)

-- behind the name of a start tag that began at offset `from`: its end, or the currency of an `InstdAmt`
unfoldable pub behind_name : (depth from : ℕ) → List ℕ → (Element → State) → (at b : ℕ) → Option State
behind_name depth from name k at b =
    if is ">" b then
    (if same name (bytes "InstdAmt") then none else
    some (blank (record { name = name; currency = []; at = from; start = suc at; depth = depth }) [] k))
    else
    if is " " b then
    (if same name (bytes "InstdAmt") then some (want (bytes "Ccy=\"") (capitals 2 [] (in_amount depth from k))) else none)
    else none

-- the next state by the next byte, which stands at offset `at`
unfoldable pub step : State → (at b : ℕ) → Option State
step (fixed c [] q) at b = if eqb b c then some q else none
step (fixed c (d ∷ ds) q) at b = if eqb b c then some (fixed d ds q) else none
step opening at b = if white b then some before else if is "<" b then some opened else none
step opened at b =
    if is "?" b then some (want (drop 2 declaration) before) else
    if is "D" b then some (want (drop 2 root_tag) (in_root 0)) else none
step before at b = if white b then some before else if is "<" b then some (want (drop 1 root_tag) (in_root at)) else none
step (angle depth from q k) at b =
    if letter b then (if leb depth 12 then some (naming depth from (b ∷ []) 31 k) else none) else
    if is "/" b then some q else none
step (naming depth from name zero k) at b = if letter_or_digit b then none else behind_name depth from name k at b
step (naming depth from name (suc room) k) at b =
    if letter_or_digit b then some (naming depth from (name ++ (b ∷ [])) room k) else behind_name depth from name k at b
step (capitals zero letters k) at b = if capital b then some (k (letters ++ (b ∷ []))) else none
step (capitals (suc n) letters k) at b = if capital b then some (capitals n (letters ++ (b ∷ [])) k) else none
step (blank o w k) at b =
    if white b then some (blank o (w ++ (b ∷ [])) k) else
    if is "<" b then
    some (angle (suc o.depth) at (ending o (holding_text (closed o at) w) k) (λ t. after_child o (λ ts. t ∷ᵉ ts) k))
    else
    if text_byte b then some (in_text o (w ++ (b ∷ [])) k) else none
step (in_text o w k) at b =
    if text_byte b then some (in_text o (w ++ (b ∷ [])) k) else
    if is "<" b then some (fixed (code "/") [] (ending o (holding_text (closed o at) w) k)) else none
step (after_child o before_these k) at b =
    if white b then some (after_child o before_these k) else
    if is "<" b then
    some
    (angle (suc o.depth) at (ending o (holding_elements (closed o at) (before_these []ᵉ)) k)
    (λ t. after_child o (λ ts. before_these (t ∷ᵉ ts)) k))
    else none
step (after t) at b = if white b then some (after t) else none

unfoldable pub ended : State → Option Element
ended (after t) = some t
ended (fixed b bs q) = none
ended opening = none
ended opened = none
ended before = none
ended (angle depth from q k) = none
ended (naming depth from name room k) = none
ended (capitals n letters k) = none
ended (blank o w k) = none
ended (in_text o w k) = none
ended (after_child o before_these k) = none

-- What the text is: of the form, with its root; or refused at an offset.
pub data Reading : Type 0 where
  root_is : Element → Reading
  stops_at : ℕ → Reading

unfoldable pub run : State → ℕ → List ℕ → Reading
run q at [] = elim (ended q) [ some t ↦ root_is t | none ↦ stops_at at ]
run q at (b ∷ s) = elim (step q at b) [ some next ↦ run next (suc at) s | none ↦ stops_at at ]

unfoldable pub read : List ℕ → Reading
read s = run opening 0 s
