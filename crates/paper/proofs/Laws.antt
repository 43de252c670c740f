-- Laws about the paper's definitions of texts and lists: what a test says, as a statement.
use Prim.Native.Nat.{ℕ, ◌*◌}
use mathlib.Core.List.Memᴰ
use mathlib.Core.List.{List, [], ◌∷◌, ◌++◌, append_assoc, append-nil, Memᴰ}
use mathlib.Core.Bool.{Bool, true, false, ◌&&◌, ◌||◌}
use mathlib.Core.Option.{Option, none, some}
use mathlib.Core.Path.{◌≡◌, refl, sym, subst, ap, ◌∙◌}
use mathlib.Core.Logic.{⊎_elim}
use native.Mathlib.Nat.{mul-suc}
use native.Mathlib.Omega.{arith}
use borrow.Author.Tests.{eqb-true, eq-eqb}
use lib.ListN.{length, length-append}
use lib.Dec.{eqb}
use Rattle.paper.specs.Bytes.{Every, every_none, every_more, every, same, each}
use Rattle.paper.specs.Form.{Element}
use Rattle.paper.specs.Values.{among, cents}
use Rattle.paper.specs.Payments.{child, follow, either_of, text_of, instructed_amount, amount_of}
use Rattle.paper.specs.Computed.Reading.{Reading, root_is, stops_at, read}
use Rattle.paper.specs.Refusals.{Refusal, ◌or_else◌, size_refusal, accepted_with, unless_refused, of_reading}
use Rattle.paper.specs.Accepted.{All, all_none, all_more}

-- two values that can't be equal
pub false_not_true : {A : Type 0} → false ≡ true → A
false_not_true e = let z : ◌≡◌ {A = ℕ} 0 1 = cc in absurd (omega arith)

pub some_not_none : {A B : Type 0} {a : A} → some a ≡ none → B
some_not_none e = let z : ◌≡◌ {A = ℕ} 0 1 = cc in absurd (omega arith)

-- the second of two tests
pub or_right : (a : Bool) {b : Bool} → b ≡ true → (a || b) ≡ true
or_right true e = refl
or_right false e = e

-- both of two tests
pub both_left : (a b : Bool) → (a && b) ≡ true → a ≡ true
both_left true b e = refl
both_left false b e = e

pub both_right : (a b : Bool) → (a && b) ≡ true → b ≡ true
both_right true b e = e
both_right false b e = false_not_true e

pub both : {a b : Bool} → a ≡ true → b ≡ true → (a && b) ≡ true
both p q = rw (p, q)

-- `every` is the test of `Every`
pub every_says : (p : ℕ → Bool) (w : List ℕ) → every p w ≡ true → Every p w
unfolding every
every_says p [] e = every_none
every_says p (b ∷ w) e = every_more (both_left (p b) _ e) (every_says p w (both_right (p b) _ e))

pub every_tests : {p : ℕ → Bool} {w : List ℕ} → Every p w → every p w ≡ true
unfolding every
every_tests every_none = refl
every_tests (every_more e h) = both e (every_tests h)

-- `same` is the test of equality
pub same_says : (v w : List ℕ) → same v w ≡ true → v ≡ w
unfolding same
same_says [] [] e = refl
same_says [] (c ∷ w) e = false_not_true e
same_says (b ∷ v) [] e = false_not_true e
same_says (b ∷ v) (c ∷ w) e = cons (eqb-true b c (both_left (eqb b c) _ e)) (same_says v w (both_right (eqb b c) _ e))
  where
    cons : b ≡ c → v ≡ w → b ∷ v ≡ c ∷ w
    cons p q = cc

pub same_tests : (w : List ℕ) → same w w ≡ true
unfolding same
same_tests [] = refl
same_tests (b ∷ w) = both (eq-eqb b b refl) (same_tests w)

pub same_differs : (v w : List ℕ) → (v ≡ w → ⊥) → same v w ≡ false
same_differs v w n = go (same v w) refl
  where
    go : (t : Bool) → same v w ≡ t → t ≡ false
    go true e = absurd (n (same_says v w e))
    go false e = refl

-- `All` of a list and its members
pub all_member : {A : Type 0} {P : A → Type 0} {a : A} {l : List A} → All P l → Memᴰ a l → P a
all_member {P = P} (all_more p h) m = ⊎_elim (λ e. subst P (sym e) p) (λ n. all_member h n) (Memᴰ.cases_cons m)
all_member all_none m = absurd (Memᴰ.not-nil m)

pub all_map : {A : Type 0} {P Q : A → Type 0} {l : List A} → ((a : A) → P a → Q a) → All P l → All Q l
all_map f all_none = all_none
all_map f (all_more p h) = all_more (f _ p) (all_map f h)

pub all_from : {A : Type 0} {P : A → Type 0} {l : List A} → ((a : A) → Memᴰ a l → P a) → All P l
all_from {l = []} f = all_none
all_from {l = a ∷ l} f = all_more (f a (Memᴰ.head refl)) (all_from (λ b m. f b (Memᴰ.tail m)))

-- a number is among numbers
pub among_says : (n : ℕ) (ks : List ℕ) → among n ks ≡ true → Memᴰ n ks
unfolding among
among_says n [] e = false_not_true e
among_says n (k ∷ ks) e = go (eqb n k) refl e (λ f. among_says n ks f)
  where
    go : (t : Bool) → eqb n k ≡ t → (t || among n ks) ≡ true → (among n ks ≡ true → Memᴰ n ks) → Memᴰ n (k ∷ ks)
    go true p q below = Memᴰ.head (eqb-true n k p)
    go false p q below = Memᴰ.tail (below q)

pub among_member : {n : ℕ} {ks : List ℕ} → Memᴰ n ks → among n ks ≡ true
unfolding among
among_member {n} (Memᴰ.head {x = k} e) = rw (eq-eqb n k e)
among_member {n} (Memᴰ.tail {x = k} m) = or_right (eqb n k) (among_member m)

pub among_not : (n : ℕ) (ks : List ℕ) → (Memᴰ n ks → ⊥) → among n ks ≡ false
among_not n ks m = go (among n ks) refl
  where
    go : (t : Bool) → among n ks ≡ t → t ≡ false
    go true e = absurd (m (among_says n ks e))
    go false e = refl

-- of two lists, one after the other
pub all_joined : {A : Type 0} {P : A → Type 0} {l m : List A} → All P l → All P m → All P (l ++ m)
all_joined all_none k = k
all_joined (all_more p h) k = all_more p (all_joined h k)

-- a refusal's number and offset, 0 where there is none
unfoldable pub number_of : Option Refusal → ℕ
number_of none = 0
number_of (some r) = r.number

unfoldable pub offset_of : Option Refusal → ℕ
offset_of none = 0
offset_of (some r) = r.offset

-- several, each written: one after others, and how long they are where each is as long
pub each_more : {A : Type 0} (f : A → List ℕ) (l : List A) (a : A) → each f (l ++ (a ∷ [])) ≡ each f l ++ f a
unfolding each
each_more f [] a = append-nil (f a)
each_more f (b ∷ l) a = ap (λ (w : List ℕ). f b ++ w) (each_more f l a) ∙ sym (append_assoc (f b) (each f l) (f a))

pub each_length : {A : Type 0} (f : A → List ℕ) (n : ℕ) → ((a : A) → length (f a) ≡ n) → (l : List A) → length (each f l) ≡ n * length l
unfolding each
each_length f n h [] = omega arith
each_length f n h (a ∷ l) = length-append (f a) (each f l) ∙ rw (mul-suc n (length l)) (omega (arith, h a, each_length f n h l))

-- of two that may be absent, where the second is
pub either_none : (o : Option Element) → either_of o none ≡ o
unfolding either_of
either_none none = refl
either_none (some t) = refl

-- the first of two that refuses, where one does not
pub none_or_else : {a b : Option Refusal} → a ≡ none → a or_else b ≡ b
unfolding ◌or_else◌
none_or_else e = rw e

pub or_else_none : (a : Option Refusal) → a or_else none ≡ a
unfolding ◌or_else◌
or_else_none none = refl
or_else_none (some x) = refl

-- a child is at the end of a route of one row
pub follow_one : (k : ℕ) (t : Element) → follow (k ∷ []) t ≡ child k t
unfolding follow
follow_one k t = go (child k t)
  where
    go : (o : Option Element) → ◌≡◌ {A = Option Element} (elim o [ none ↦ none | some u ↦ some u ]) o
    go none = refl
    go (some u) = refl

-- the amount of a payment where one stands, and where none does
pub amount_is : (t : Element) {u : Element} → instructed_amount t ≡ some u → amount_of t ≡ cents (text_of u)
unfolding amount_of
amount_is t e = go e
  where
    go : {o : Option Element} {u : Element} → o ≡ some u → ◌≡◌ {A = ℕ} (elim o [ none ↦ 0 | some v ↦ cents (text_of v) ]) (cents (text_of u))
    go e = rw e

pub no_amount : (t : Element) → instructed_amount t ≡ none → amount_of t ≡ 0
unfolding amount_of
no_amount t e = go e
  where
    go : {o : Option Element} → o ≡ none → ◌≡◌ {A = ℕ} (elim o [ none ↦ 0 | some v ↦ cents (text_of v) ]) 0
    go e = rw e

-- two ways to refuse a tree that agree on the tree of a message give it one outcome
pub outcomes_same : (one other : Element → Option Refusal) (s : List ℕ) → ((root : Element) → read s ≡ root_is root → one root ≡ other root)
    → unless_refused (size_refusal s) (of_reading one (read s)) ≡ unless_refused (size_refusal s) (of_reading other (read s))
unfolding of_reading
outcomes_same one other s same_refusal = ap (unless_refused (size_refusal s)) (go (read s) refl)
  where
    go : (r : Reading) → read s ≡ r → of_reading one r ≡ of_reading other r
    go (stops_at n) e = refl
    go (root_is root) e = ap (λ (o : Option Refusal). unless_refused o (accepted_with root)) (same_refusal root e)
