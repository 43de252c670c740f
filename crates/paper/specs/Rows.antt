-- The rows (docs/RULES.md, 3). Children stand in this order; ? (`opt`) is at most one, + (`plus`) is one or more, / (`either`) is a choice of exactly one,
-- the rest (`one`) exactly one. A number after a leaf is its longest length in bytes.
use Rattle.std.specs.Prelude.{ℕ, Bool, ◌&&◌, ◌||◌, ◌≡◌, eqb, if◌then◌else◌}
use Prim.Native.String.{String}
use mathlib.Core.List.{List, [], ◌∷◌, ◌++◌, Memᴰ}
use Rattle.std.proofs.Math.Option.{Option, some}
use Rattle.paper.specs.Bytes.{bytes, white, Every}
use Rattle.paper.specs.Form.{Head, Element, Elements, holding_text, holding_elements, []ᵉ, ◌∷ᵉ◌}

-- A place in a group's order, and the rows that may take it.
pub data Place : Type 0 where
  one opt plus : ℕ → Place
  either : List ℕ → Place

pub data Contents : Type 0 where
  text : (longest : ℕ) → Contents
  elements : List Place → Contents

-- A row: its number, its name and what it holds. Where that depends on the group above, `under` is that group's row; elsewhere it is 0.
pub record Row : Type 0 where
  pub row : ℕ
  pub under : ℕ
  pub name : List ℕ
  pub holds : Contents

unfoldable pub leaf : ℕ → String → ℕ → Row
leaf row name longest = record { row = row; under = 0; name = bytes name; holds = text longest }

unfoldable pub group : ℕ → String → List Place → Row
group row name places = record { row = row; under = 0; name = bytes name; holds = elements places }

unfoldable pub group_under : ℕ → ℕ → String → List Place → Row
group_under under row name places = record { row = row; under = under; name = bytes name; holds = elements places }

unfoldable pub rows : List Row
rows =
    group 1 "Document" (one 2 ∷ []) ∷
    group 2 "CstmrCdtTrfInitn" (one 3 ∷ plus 10 ∷ []) ∷
    group 3 "GrpHdr" (one 4 ∷ one 5 ∷ one 6 ∷ one 7 ∷ one 8 ∷ []) ∷
    leaf 4 "MsgId" 35 ∷
    leaf 5 "CreDtTm" 19 ∷
    leaf 6 "NbOfTxs" 15 ∷
    leaf 7 "CtrlSum" 18 ∷
    group 8 "InitgPty" (one 9 ∷ []) ∷
    leaf 9 "Nm" 70 ∷
    group 10 "PmtInf"
    (one 11 ∷ one 12 ∷ opt 13 ∷ one 14 ∷ one 15 ∷ opt 16 ∷ one 22 ∷ one 24 ∷ one 26 ∷ one 29 ∷ opt 34 ∷ opt 36 ∷ plus 37 ∷ []) ∷
    leaf 11 "PmtInfId" 35 ∷
    leaf 12 "PmtMtd" 3 ∷
    leaf 13 "BtchBookg" 5 ∷
    leaf 14 "NbOfTxs" 15 ∷
    leaf 15 "CtrlSum" 18 ∷
    group 16 "PmtTpInf" (opt 17 ∷ one 18 ∷ opt 20 ∷ []) ∷
    leaf 17 "InstrPrty" 4 ∷
    group 18 "SvcLvl" (one 19 ∷ []) ∷
    leaf 19 "Cd" 4 ∷
    group 20 "CtgyPurp" (one 21 ∷ []) ∷
    leaf 21 "Cd" 4 ∷
    group 22 "ReqdExctnDt" (one 23 ∷ []) ∷
    leaf 23 "Dt" 10 ∷
    group 24 "Dbtr" (one 25 ∷ []) ∷
    leaf 25 "Nm" 70 ∷
    group 26 "DbtrAcct" (one 27 ∷ []) ∷
    group 27 "Id" (one 28 ∷ []) ∷
    leaf 28 "IBAN" 34 ∷
    group 29 "DbtrAgt" (one 30 ∷ []) ∷
    group_under 29 30 "FinInstnId" (either (31 ∷ 32 ∷ []) ∷ []) ∷
    leaf 31 "BICFI" 11 ∷
    group 32 "Othr" (one 33 ∷ []) ∷
    leaf 33 "Id" 35 ∷
    group 34 "UltmtDbtr" (one 35 ∷ []) ∷
    leaf 35 "Nm" 70 ∷
    leaf 36 "ChrgBr" 4 ∷
    group 37 "CdtTrfTxInf"
    (one 38 ∷ opt 16 ∷ one 41 ∷ opt 36 ∷ opt 34 ∷ opt 43 ∷ one 44 ∷ one 45 ∷ opt 46 ∷ opt 47 ∷ opt 48 ∷ []) ∷
    group 38 "PmtId" (opt 39 ∷ one 40 ∷ []) ∷
    leaf 39 "InstrId" 35 ∷
    leaf 40 "EndToEndId" 35 ∷
    group 41 "Amt" (one 42 ∷ []) ∷
    leaf 42 "InstdAmt" 18 ∷
    group 43 "CdtrAgt" (one 30 ∷ []) ∷
    group_under 43 30 "FinInstnId" (one 31 ∷ []) ∷
    group 44 "Cdtr" (one 25 ∷ []) ∷
    group 45 "CdtrAcct" (one 27 ∷ []) ∷
    group 46 "UltmtCdtr" (one 35 ∷ []) ∷
    group 47 "Purp" (one 21 ∷ []) ∷
    group 48 "RmtInf" (either (49 ∷ 50 ∷ []) ∷ []) ∷
    leaf 49 "Ustrd" 140 ∷
    group 50 "Strd" (one 51 ∷ []) ∷
    group 51 "CdtrRefInf" (one 52 ∷ one 55 ∷ []) ∷
    group 52 "Tp" (one 53 ∷ opt 54 ∷ []) ∷
    group 53 "CdOrPrtry" (one 19 ∷ []) ∷
    leaf 54 "Issr" 35 ∷
    leaf 55 "Ref" 35 ∷ []

-- The instant profile has these rows instead of those of the same number: row 16 with a local instrument, row 22 with a choice. Three are new.
unfoldable pub instant_changes : List Row
instant_changes =
    group 16 "PmtTpInf" (opt 17 ∷ one 18 ∷ one 56 ∷ opt 20 ∷ []) ∷
    group 22 "ReqdExctnDt" (either (23 ∷ 58 ∷ []) ∷ []) ∷
    group 56 "LclInstrm" (one 57 ∷ []) ∷
    leaf 57 "Cd" 35 ∷
    leaf 58 "DtTm" 25 ∷ []

-- some rows, with a row in place of the one of its number (under the same group), or behind them all where there is none; with each of several
unfoldable pub with_row : Row → List Row → List Row
with_row r [] = r ∷ []
with_row r (q ∷ qs) = if eqb q.row r.row && eqb q.under r.under then r ∷ qs else q ∷ with_row r qs

unfoldable pub with_rows : (changes : List Row) → List Row → List Row
with_rows [] rs = rs
with_rows (r ∷ changes) rs = with_rows changes (with_row r rs)

unfoldable pub instant_rows : List Row
instant_rows = with_rows instant_changes rows

-- A profile is what a message is read by: rows, and those of them that are withdrawn, which the message may not hold. The caller names one of two lists of rows, `rows` or
-- `instant_rows`, and says whether the message is archived. Of a new one row 32 is withdrawn, of an archived one no row is; so each of the two is here twice.
pub record Profile : Type 0 where
  pub rows : List Row
  pub withdrawn : List ℕ

unfoldable pub for_new : List Row → Profile
for_new rs = record { rows = rs; withdrawn = 32 ∷ [] }

unfoldable pub for_archived : List Row → Profile
for_archived rs = record { rows = rs; withdrawn = [] }

unfoldable pub profile_by : (instant archived : Bool) → Profile
profile_by instant archived = if archived then for_archived rs else for_new rs
  where
    rs : List Row
    rs = if instant then instant_rows else rows

-- the first and the instant one, for new messages
unfoldable pub first_profile : Profile
first_profile = for_new rows

unfoldable pub instant_profile : Profile
instant_profile = for_new instant_rows

-- the profile of the same rows where the message is archived, and where it is new
unfoldable pub as_archived : Profile → Profile
as_archived profile = for_archived profile.rows

unfoldable pub as_new : Profile → Profile
as_new profile = for_new profile.rows

-- A row's name goes by its number alone, in either profile. (That both lists give a row one name is computed: crates/form_names/proofs/Laws.antt, `rows_right`. A number that is
-- no row's has the empty name, which no element has.)
unfoldable pub every_row : List Row
every_row = rows ++ instant_changes

unfoldable pub name_in : List Row → ℕ → List ℕ
name_in [] k = []
name_in (r ∷ rs) k = if eqb r.row k then r.name else name_in rs k

unfoldable pub name : ℕ → List ℕ
name k = name_in every_row k

-- What row k is under a parent, among some rows and in a profile. (A number that is no row's, which no place has, would be a leaf for which no text has a right value.)
unfoldable pub row_in : List Row → (parent k : ℕ) → Row
row_in [] parent k = record { row = k; under = parent; name = []; holds = text 0 }
row_in (r ∷ rs) parent k =
    if eqb r.row k && (eqb r.under 0 || eqb r.under parent) then r else row_in rs parent k

unfoldable pub row_of : Profile → (parent k : ℕ) → Row
row_of profile parent k = row_in profile.rows parent k

-- the longest length of a leaf's text
unfoldable pub longest_of : Contents → ℕ
longest_of (text longest) = longest
longest_of (elements places) = 0

-- The rows of a group's children, in their order, are arranged as its places say.
pub data Arranged : List Place → List ℕ → Type 0 where
  end : Arranged [] []
  exactly_one : {k : ℕ} {ps : List Place} {ks : List ℕ} → Arranged ps ks → Arranged (one k ∷ ps) (k ∷ ks)
  there : {k : ℕ} {ps : List Place} {ks : List ℕ} → Arranged ps ks → Arranged (opt k ∷ ps) (k ∷ ks)
  not_there : {k : ℕ} {ps : List Place} {ks : List ℕ} → Arranged ps ks → Arranged (opt k ∷ ps) ks
  the_last : {k : ℕ} {ps : List Place} {ks : List ℕ} → Arranged ps ks → Arranged (plus k ∷ ps) (k ∷ ks)
  one_before : {k : ℕ} {ps : List Place} {ks : List ℕ} → Arranged (plus k ∷ ps) ks → Arranged (plus k ∷ ps) (k ∷ ks)
  chosen : {k : ℕ} {choice : List ℕ} {ps : List Place} {ks : List ℕ} → Memᴰ k choice → Arranged ps ks → Arranged (either choice ∷ ps) (k ∷ ks)

unfoldable pub head_of : Element → Head
head_of (holding_text h w) = h
head_of (holding_elements h ts) = h

-- An element conforms to a row, in a profile: it is right for that row where it stands, a leaf holds text, and a group holds children of rows that are arranged as it says,
-- each named as its row and conforming to it. It stands in a holder, which is of row `parent`; the root stands in none, and its parent is 0.
module _ (profile : Profile) (Right : (holder : Option Element) (parent : ℕ) → Row → Element → Type 0) where
  unfoldable mutual
    pub Conforms : Element → (holder : Option Element) (parent : ℕ) → Row → Type 0
    Conforms (holding_text h w) holder parent r =
        elim r.holds [
          | text longest ↦ Right holder parent r (holding_text h w)
          | elements places ↦ Right holder parent r (holding_text h w) × Every white w × Arranged places []
        ]
    Conforms (holding_elements h ts) holder parent r =
        elim r.holds [
          | text longest ↦ ⊥
          | elements places ↦
              Right holder parent r (holding_elements h ts) × (ks : List ℕ) × Arranged places ks × Conform ts (holding_elements h ts) r.row ks
        ]

    pub Conform : Elements → (holder : Element) (parent : ℕ) → List ℕ → Type 0
    Conform []ᵉ holder parent ks = ks ≡ []
    Conform (t ∷ᵉ ts) holder parent ks =
        elim ks [
          | [] ↦ ⊥
          | k ∷ others ↦
              ((head_of t).name ≡ name k) × Conforms t (some holder) parent (row_of profile parent k) × Conform ts holder parent others
        ]
