-- On lists alone: one list can be paired with another, each element of the first used once, exactly where each value stands equally often in both.
use Rattle.std.specs.Prelude.{if◌then◌else◌}
use Prim.Native.Nat.{ℕ, zero, suc, ◌-◌, ◌≤◌, ◌<◌}
use native.Mathlib.Omega.{arith}
use native.Mathlib.Decide.{ℕ_discrete}
use mathlib.Core.List.Memᴰ
use mathlib.Core.List.{List, [], ◌∷◌, map, Memᴰ}
use mathlib.Core.Bool.{Bool, true, false}
use mathlib.Core.Path.{◌≡◌, refl, sym, ◌∙◌, ap, subst}
use mathlib.Core.Logic.{⊎_elim}
use lib.ListN.{length, get_or, length-map}
use lib.Dec.{ltb}
use borrow.Author.Tests.{ltb-true, ltb-false, lt-ltb, le-ltb}
use Rattle.paper.specs.Accepted.{All, all_none, all_more, Distinct, distinct_none, distinct_more}
use Rattle.paper.proofs.Laws.{all_member, all_map, all_from}

-- where another element stands in the shorter list, and back
down : (i o : ℕ) → ℕ
down i o = if ltb i o then o - 1 else o

up : (i o : ℕ) → ℕ
up i o = if ltb o i then o else suc o

up_down : (i o : ℕ) → (o ≡ i → ⊥) → up i (down i o) ≡ o
unfolding up down
up_down i o n = go (ltb i o) refl
  where
    go : (t : Bool) → ltb i o ≡ t → up i (if ltb i o then o - 1 else o) ≡ o
    go true e = let l = ltb-true i o e in rw (e, le-ltb (o - 1) i (omega (arith, l))) (omega (arith, l))
    go false e = let l = ltb-false i o e in rw (e, lt-ltb o i (omega (arith, l, n)))

up_not : (i o : ℕ) → up i o ≡ i → ⊥
unfolding up
up_not i o = go (ltb o i) refl
  where
    go : (t : Bool) → ltb o i ≡ t → (if t then o else suc o) ≡ i → ⊥
    go true e f = let l = ltb-true o i e in omega (arith, l, f)
    go false e f = let l = ltb-false o i e in omega (arith, l, f)

up_apart : (i a b : ℕ) → up i a ≡ up i b → a ≡ b
unfolding up
up_apart i a b = go (ltb a i) (ltb b i) refl refl
  where
    go : (s t : Bool) → ltb a i ≡ s → ltb b i ≡ t → (if s then a else suc a) ≡ (if t then b else suc b) → a ≡ b
    go true true p q e = e
    go true false p q e = let l = ltb-true a i p in let m = ltb-false b i q in omega (arith, l, m, e)
    go false true p q e = let l = ltb-false a i p in let m = ltb-true b i q in omega (arith, l, m, e)
    go false false p q e = omega (arith, e)

up_below : (i o n : ℕ) → i ≤ n → o < n → up i o < suc n
unfolding up
up_below i o n h k = go (ltb o i)
  where
    go : (t : Bool) → (if t then o else suc o) < suc n
    go true = omega arith
    go false = omega arith

down_below : (i o n : ℕ) → i < suc n → o < suc n → (o ≡ i → ⊥) → down i o < n
unfolding down
down_below i o n h k d = go (ltb i o) refl
  where
    go : (t : Bool) → ltb i o ≡ t → (if t then o - 1 else o) < n
    go true e = let l = ltb-true i o e in omega (arith, l)
    go false e = let l = ltb-false i o e in omega (arith, l, d)

member_map : {f : ℕ → ℕ} {o : ℕ} {os : List ℕ} → Memᴰ o (map f os) → (p : ℕ) × (o ≡ f p) × Memᴰ p os
member_map {os = []} m = absurd (Memᴰ.not-nil m)
member_map {f} {o} {os = p ∷ os} m =
    ⊎_elim (λ e. (p, e, Memᴰ.head refl)) (λ n. let r = member_map {f = f} {os = os} n in (r.0, r.1, Memᴰ.tail r.2)) (Memᴰ.cases_cons m)

all_mapped : {P : ℕ → Type 0} (f : ℕ → ℕ) {os : List ℕ} → All (λ o. P (f o)) os → All P (map f os)
all_mapped f all_none = all_none
all_mapped f (all_more p h) = all_more p (all_mapped f h)

all_both : {P Q R : ℕ → Type 0} → ((o : ℕ) → P o → Q o → R o) → {os : List ℕ} → All P os → All Q os → All R os
all_both f all_none all_none = all_none
all_both f (all_more p h) (all_more q k) = all_more (f _ p q) (all_both f h k)

distinct_mapped : {Q : ℕ → Type 0} (f : ℕ → ℕ) → ((a b : ℕ) → Q a → Q b → f a ≡ f b → a ≡ b) → {os : List ℕ} → All Q os → Distinct os → Distinct (map f os)
distinct_mapped f inj all_none distinct_none = distinct_none
distinct_mapped {Q} f inj (all_more {a = o} {rest = os} q h) (distinct_more n d) =
    distinct_more (λ m. let r = member_map {f = f} {o = f o} {os = os} m in n (here o os r.0 (inj o r.0 q (all_member h r.2) r.1) r.2))
    (distinct_mapped f inj h d)
  where
    here : (o : ℕ) (os : List ℕ) (p : ℕ) → o ≡ p → Memᴰ p os → Memᴰ o os
    here o os p e m = subst (λ (x : ℕ). Memᴰ x os) (sym e) m

not_the_first : {o : ℕ} {os : List ℕ} → (Memᴰ o os → ⊥) → All (λ p. p ≡ o → ⊥) os
not_the_first {o} {os} n = all_from (λ p m e. n (subst (λ (x : ℕ). Memᴰ x os) e m))

-- Ordinals below n, no two alike and n of them, are all of them.
pub every_ordinal : (n : ℕ) (os : List ℕ) → length os ≡ n → All (λ o. o < n) os → Distinct os → (k : ℕ) → k < n → Memᴰ k os
every_ordinal zero os e h d k l = absurd (omega arith)
every_ordinal (suc n) [] e h d k l = absurd (omega (arith, e))
every_ordinal (suc n) (o ∷ os) e (all_more b h) (distinct_more m d) k l =
    go (ℕ_discrete k o) (λ j i.
    every_ordinal n (map (down o) os) (length-map os (down o) ∙ omega (arith, e)) (all_mapped (down o) (all_both (λ p x y. down_below o p n b x y) h (not_the_first m)))
    (distinct_mapped (down o) (λ x y u v w. sym (up_down o x u) ∙ ap (up o) w ∙ up_down o y v) (not_the_first m) d) j i)
  where
    go : Dec (k ≡ o) → ((j : ℕ) → j < n → Memᴰ j (map (down o) os)) → Memᴰ k (o ∷ os)
    go (yes f) below = Memᴰ.head f
    go (no f) below =
        let r = member_map {f = down o} {o = down o k} {os = os} (below (down o k) (down_below o k n b l f)) in
        let same_one : k ≡ r.0 = sym (up_down o k f) ∙ ap (up o) r.1 ∙ up_down o r.0 (all_member (not_the_first m) r.2) in
        Memᴰ.tail (subst (λ (x : ℕ). Memᴰ x os) (sym same_one) r.2)

module _ {A : Type 0} (same : A → A → Bool) (says : (a b : A) → same a b ≡ true → a ≡ b) (tests : (a : A) → same a a ≡ true) where
  unfoldable pub count : A → List A → ℕ
  count a [] = 0
  count a (b ∷ l) = if same a b then suc (count a l) else count a l

  -- the list without its element i
  without : ℕ → List A → List A
  without i [] = []
  without zero (a ∷ l) = l
  without (suc i) (a ∷ l) = a ∷ without i l

  length_without : (i : ℕ) (l : List A) → i < length l → suc (length (without i l)) ≡ length l
  unfolding without
  length_without i [] h = absurd (omega arith)
  length_without zero (a ∷ l) h = refl
  length_without (suc i) (a ∷ l) h = ap suc (length_without i l (omega arith))

  -- one of its elements counted apart
  count_without : (a d : A) (i : ℕ) (l : List A) → i < length l → count a l ≡ (if same a (get_or l i d) then suc (count a (without i l)) else count a (without i l))
  unfolding count without
  count_without a d i [] h = absurd (omega arith)
  count_without a d zero (b ∷ l) h = refl
  count_without a d (suc i) (b ∷ l) h = go (same a b) (same a (get_or l i d)) (count_without a d i l (omega arith))
    where
      go : (s t : Bool) → count a l ≡ (if t then suc (count a (without i l)) else count a (without i l))
          → (if s then suc (count a l) else count a l) ≡
          (if t then suc (if s then suc (count a (without i l)) else count a (without i l)) else (if s then suc (count a (without i l)) else count a (without i l)))
      go true true e = ap suc e
      go true false e = ap suc e
      go false true e = e
      go false false e = e

  get_or-without : (d : A) (i o : ℕ) (l : List A) → i < length l → get_or (without i l) o d ≡ get_or l (up i o) d
  unfolding without up
  get_or-without d i o [] h = absurd (omega arith)
  get_or-without d zero o (a ∷ l) h = rw (le-ltb o 0 (omega arith))
  get_or-without d (suc i) zero (a ∷ l) h = rw (lt-ltb 0 (suc i) (omega arith))
  get_or-without d (suc i) (suc o) (a ∷ l) h = go (ltb o i) refl (get_or-without d i o l (omega arith))
    where
      go : (t : Bool) → ltb o i ≡ t → get_or (without i l) o d ≡ get_or l (if ltb o i then o else suc o) d
          → get_or (without i l) o d ≡ get_or (a ∷ l) (if ltb (suc o) (suc i) then suc o else suc (suc o)) d
      go true e f = rw (lt-ltb (suc o) (suc i) (omega (arith, ltb-true o i e))) (f ∙ rw e)
      go false e f = rw (le-ltb (suc o) (suc i) (omega (arith, ltb-false o i e))) (f ∙ rw e)

  -- each ordinal names, in the first list, what stands in the second
  pub data Names (d : A) (xs : List A) : (os : List ℕ) (ys : List A) → Type 0 where
    names_none : Names d xs [] []
    names_more : {o : ℕ} {os : List ℕ} {y : A} {ys : List A} → get_or xs o d ≡ y → Names d xs os ys → Names d xs (o ∷ os) (y ∷ ys)

  pub record Pairs (d : A) (xs : List A) (os : List ℕ) (ys : List A) : Type 0 where
    pub as_many : length os ≡ length xs
    pub within : All (λ o. o < length xs) os
    pub once : Distinct os
    pub names : Names d xs os ys

  names_down : (d : A) (xs : List A) (o : ℕ) → o < length xs → {os : List ℕ} {ys : List A} → All (λ p. p ≡ o → ⊥) os → Names d xs os ys
      → Names d (without o xs) (map (down o) os) ys
  names_down d xs o h all_none names_none = names_none
  names_down d xs o h (all_more {a = p} n k) (names_more e m) =
      names_more (get_or-without d o (down o p) xs h ∙ ap (λ (i : ℕ). get_or xs i d) (up_down o p n) ∙ e) (names_down d xs o h k m)

  names_up : (d : A) (xs : List A) (o : ℕ) → o < length xs → {os : List ℕ} {ys : List A} → Names d (without o xs) os ys → Names d xs (map (up o) os) ys
  names_up d xs o h names_none = names_none
  names_up d xs o h (names_more {o = p} e m) = names_more (sym (get_or-without d o p xs h) ∙ e) (names_up d xs o h m)

  -- A pairing without its first pair, and with one more.
  pairs_rest : (d : A) (xs : List A) (o : ℕ) (os : List ℕ) (y : A) (ys : List A) → Pairs d xs (o ∷ os) (y ∷ ys)
      → (o < length xs) × (get_or xs o d ≡ y) × Pairs d (without o xs) (map (down o) os) ys
  pairs_rest d xs o os y ys p = go p.within p.once p.names
    where
      go : All (λ p. p < length xs) (o ∷ os) → Distinct (o ∷ os) → Names d xs (o ∷ os) (y ∷ ys)
          → (o < length xs) × (get_or xs o d ≡ y) × Pairs d (without o xs) (map (down o) os) ys
      go (all_more h k) (distinct_more n e) (names_more f m) =
          let others = not_the_first n in
          let l = length_without o xs h in (
            h,
            f,
            record {
              as_many = length-map os (down o) ∙ omega (arith, l, p.as_many);
              within = all_mapped (down o) (all_both (λ p a b. below p a b l h) k others);
              once = distinct_mapped (down o) (λ a b u v w. sym (up_down o a u) ∙ ap (up o) w ∙ up_down o b v) others e;
              names = names_down d xs o h others m;
            },
          )
        where
          below : (p : ℕ) → p < length xs → (p ≡ o → ⊥) → suc (length (without o xs)) ≡ length xs → o < length xs → down o p < length (without o xs)
          below p a b c e = down_below o p (length (without o xs)) (omega (arith, c)) (omega (arith, c)) b

  pairs_more : (d : A) (xs : List A) (o : ℕ) (y : A) (os : List ℕ) (ys : List A) → o < length xs → get_or xs o d ≡ y → Pairs d (without o xs) os ys
      → Pairs d xs (o ∷ map (up o) os) (y ∷ ys)
  pairs_more d xs o y os ys h e p =
      let l = length_without o xs h in
      record {
        as_many = ap suc (length-map os (up o) ∙ p.as_many) ∙ l;
        within = all_more h (all_mapped (up o) (all_map (λ q k. subst (λ (n : ℕ). up o q < n) l (up_below o q (length (without o xs)) (omega (arith, l)) k)) p.within));
        once = distinct_more (λ m. let r = member_map {f = up o} {o = o} {os = os} m in up_not o r.0 (sym r.1))
            (distinct_mapped {Q = λ q. Unit {0}} (up o) (λ a b u v w. up_apart o a b w) (all_from (λ q m. tt)) p.once);
        names = names_more e (names_up d xs o h p.names);
      }

  -- What is paired stands equally often in both.
  pub paired_counts : (d : A) (xs : List A) (os : List ℕ) (ys : List A) → Pairs d xs os ys → (v : A) → count v xs ≡ count v ys
  unfolding count
  paired_counts d xs os [] p v = go xs os p.as_many p.names
    where
      go : (xs : List A) (os : List ℕ) → length os ≡ length xs → Names d xs os [] → count v xs ≡ 0
      go [] os e n = refl
      go (x ∷ xs) [] e n = absurd (omega (arith, e))
      go (x ∷ xs) (o ∷ os) e n = elim n [ ]
  paired_counts d xs os (y ∷ ys) p v = go os p (λ zs ps q. paired_counts d zs ps ys q v)
    where
      go : (os : List ℕ) → Pairs d xs os (y ∷ ys) → ((zs : List A) (ps : List ℕ) → Pairs d zs ps ys → count v zs ≡ count v ys) → count v xs ≡ (if same v y then suc (count v ys) else count v ys)
      go [] p below = elim p.names [ ]
      go (o ∷ os) p below =
          let r = pairs_rest d xs o os y ys p in
          count_without v d o xs r.0 ∙ rw (r.1, below (without o xs) (map (down o) os) r.2)

  -- an element that is counted stands somewhere
  stands : (d y : A) (xs : List A) (n : ℕ) → count y xs ≡ suc n → (o : ℕ) × (o < length xs) × (get_or xs o d ≡ y)
  unfolding count
  stands d y [] n e = absurd (omega (arith, e))
  stands d y (x ∷ xs) n e = go (same y x) refl e (λ f. stands d y xs n f)
    where
      go : (t : Bool) → same y x ≡ t → (if t then suc (count y xs) else count y xs) ≡ suc n
          → (count y xs ≡ suc n → (o : ℕ) × (o < length xs) × (get_or xs o d ≡ y)) → (o : ℕ) × (o < suc (length xs)) × (get_or (x ∷ xs) o d ≡ y)
      go true s f below = (0, omega arith, sym (says y x s))
      go false s f below = let r = below f in (suc r.0, omega (arith, r.1), r.2)

  -- What stands equally often in both can be paired.
  pub counts_paired : (d : A) (xs ys : List A) → ((v : A) → count v xs ≡ count v ys) → (os : List ℕ) × Pairs d xs os ys
  unfolding count
  counts_paired d xs [] h = go xs h
    where
      go : (xs : List A) → ((v : A) → count v xs ≡ 0) → (os : List ℕ) × Pairs d xs os []
      go [] h = ([], record { as_many = refl; within = all_none; once = distinct_none; names = names_none })
      go (x ∷ xs) h = let e : suc (count x xs) ≡ 0 = rw (tests x) at (h x) in absurd (omega (arith, e))
  counts_paired d xs (y ∷ ys) h =
      let s = stands d y xs (count y ys) (h y ∙ rw (tests y)) in
      let r = counts_paired d (without s.0 xs) ys (λ v. fewer v s.0 s.1 s.2) in
      (s.0 ∷ map (up s.0) r.0, pairs_more d xs s.0 y r.0 ys s.1 s.2 r.1)
    where
      fewer : (v : A) (o : ℕ) → o < length xs → get_or xs o d ≡ y → count v (without o xs) ≡ count v ys
      fewer v o l e = go (same v y) (sym (count_without v d o xs l ∙ rw e) ∙ h v)
        where
          go : (t : Bool) → (if t then suc (count v (without o xs)) else count v (without o xs)) ≡ (if t then suc (count v ys) else count v ys) → count v (without o xs) ≡ count v ys
          go true f = omega (arith, f)
          go false f = f
