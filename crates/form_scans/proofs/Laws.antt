-- How the machine runs on over a message in place: what one byte, the end of the message, and each loop of the code come to.
use Prim.Native.Nat.{ℕ, zero, suc, ◌+◌, ◌-◌, ◌≤◌, ◌<◌}
use mathlib.Core.List.{List, [], ◌∷◌, ◌++◌}
use mathlib.Core.Option.{none, some}
use mathlib.Core.Bool.{Bool, true, false, false≢true}
use mathlib.Core.Path.{◌≡◌, refl, sym, ap, subst, ◌∙◌}
use native.Mathlib.Numerals.{add-one}
use native.Mathlib.Omega.{arith}
use native.Mathlib.Decide.{dec_le}
use lib.ListN.{length, get_or, take, drop, length-append, length-drop, drop_of_length-le}
use lib.Seq.{drop-cons, take-suc, get_or-drop}
use lib.Dec.{eqb}
use borrow.Author.Tests.{eq-eqb, ne_eqb, eqb-true, eqb-false, le-leb, leb-true}
use Rattle.paper.specs.Bytes.{white, text_byte, value_character, letter_or_digit}
use Rattle.paper.specs.Form.{Element}
use Rattle.paper.specs.Computed.Reading.{Open, State, naming, blank, in_text, want, step, ended, run, stops_at}
use Rattle.paper_grammar.specs.Stays.{Stays}
use Rattle.form_scans.specs.Scans.{Scan, from, Scanned, to, stops, Word, end_of, Through, IsClass, Run, White, Along, Spelt, Name}
use Rattle.form_scans.specs.declared.Stop.{Stop}
use Rattle.std.specs.Prelude.{Ok, Err}
use Rattle.form_ranks.specs.Ranks.{rank}
use Rattle.form_ranks.proofs.Classes.{text_from, value_from, name_from, up_to_all}
use Rattle.paper_grammar.proofs.Leads.{run_next, run_stuck}

pub from_next : (s : List ℕ) (q : State) (at : ℕ) {r : State} → at < length s → step q at (get_or s at 0) ≡ some r → from s q at ≡ from s r (at + 1)
unfolding from
from_next s q at h e = rw (drop-cons s at 0 h, add-one) (run_next q at (get_or s at 0) e (drop (suc at) s))

pub from_stuck : (s : List ℕ) (q : State) (at : ℕ) → at < length s → step q at (get_or s at 0) ≡ none → from s q at ≡ stops_at at
unfolding from
from_stuck s q at h e = rw (drop-cons s at 0 h) (run_stuck q at (get_or s at 0) e (drop (suc at) s))

pub from_short : (s : List ℕ) (q : State) (at : ℕ) → length s ≤ at → ended q ≡ none → from s q at ≡ stops_at at
unfolding from run
from_short s q at h e = rw (drop_of_length-le s h, e, run)

-- What is known of a scan that went on, and of one that stopped.
pub record Reached {K A : Type 0} (s : List ℕ) (at : ℕ) (ahead : K → State) (behind : K → A → State) (p : ℕ) : Type 0 where
  pub rises : at ≤ p
  pub within : p ≤ length s
  pub got : A
  pub runs : (k : K) → from s (ahead k) at ≡ from s (behind k got) p

module _ {K A : Type 0} {s : List ℕ} {at : ℕ} {ahead : K → State} {behind : K → A → State} where
  pub went : {p : ℕ} → at ≤ p → p ≤ length s → (a : A) → ((k : K) → from s (ahead k) at ≡ from s (behind k a) p) → Scanned s at ahead behind (Ok p)
  went l h a e = to l h a e

  on_to : {p : ℕ} → Scanned s at ahead behind (Ok p) → Reached s at ahead behind p
  on_to (to l h a e) = record { rises = l; within = h; got = a; runs = e }

  stop_of : {n : Stop} → Scanned s at ahead behind (Err n) → (k : K) → from s (ahead k) at ≡ stops_at n.at
  stop_of (stops e) = e

  pub reached : {r : Scan} {p : ℕ} → Scanned s at ahead behind r → r ≡ Ok p → Reached s at ahead behind p
  reached h e = on_to (rw e at h)

  pub halted : {r : Scan} {n : Stop} → Scanned s at ahead behind r → r ≡ Err n → (k : K) → from s (ahead k) at ≡ stops_at n.at
  halted h e = stop_of (rw e at h)

  -- where a part stops, the whole does
  pub halts : {B : Type 0} {other : K → B → State} {r : Scan} {n : Stop} → Scanned s at ahead behind r → r ≡ Err n
      → Scanned s at ahead other (Err n)
  halts h e = stops (halted h e)

  -- what comes first may be told apart
  pub first : {earlier : K → State} {m : ℕ} {r : Scan} → m ≤ at → ((k : K) → from s (earlier k) m ≡ from s (ahead k) at) → Scanned s at ahead behind r
      → Scanned s m earlier behind r
  first {m} l f (to {p} l' h a e) = let z : m ≤ p = omega arith in to z h a (λ k. f k ∙ e k)
  first l f (stops e) = stops (λ k. f k ∙ e k)

  -- what was got may be told in another way
  pub giving : {B : Type 0} {other : K → B → State} (f : A → B) → ((k : K) (a : A) → behind k a ≡ other k (f a)) → {r : Scan}
      → Scanned s at ahead behind r → Scanned s at ahead other r
  giving f g (to {p} l h a e) = to l h (f a) (λ k. e k ∙ ap (λ q. from s q p) (g k a))
  giving f g (stops e) = stops e

  -- the same with the offset that it goes to
  pub giving_at : {B : Type 0} {other : K → B → State} {r : Scan} (f : (p : ℕ) → r ≡ Ok p → A → B)
      → ((k : K) (p : ℕ) (e : r ≡ Ok p) (a : A) → behind k a ≡ other k (f p e a)) → Scanned s at ahead behind r → Scanned s at ahead other r
  giving_at f g (to {p} l h a e) = to l h (f p refl a) (λ k. e k ∙ ap (λ q. from s q p) (g k p refl a))
  giving_at f g (stops e) = stops e

  -- what is to come may be told more closely
  pub via : {L : Type 0} (f : L → K) {r : Scan} → Scanned s at ahead behind r → Scanned s at (λ l. ahead (f l)) (λ l. behind (f l)) r
  via f (to l h a e) = to l h a (λ k. e (f k))
  via f (stops e) = stops (λ k. e (f k))

-- one part after the other
pub chain : {K A B : Type 0} {s : List ℕ} {at : ℕ} {ahead : K → State} {behind : K → A → State} {last : K → B → State} {r z : Scan} {p : ℕ}
    → Scanned s at ahead behind r → r ≡ Ok p → ((a : A) → Scanned s p (λ k. behind k a) last z) → Scanned s at ahead last z
chain h e f = let g = reached h e in first g.rises g.runs (f g.got)

-- fixed bytes
pub want_step : (c : ℕ) (cs : List ℕ) (q : State) (at b : ℕ) → b ≡ c → step (want (c ∷ cs) q) at b ≡ some (want cs q)
unfolding step want
want_step c [] q at b e = rw (eq-eqb b c e)
want_step c (d ∷ ds) q at b e = rw (eq-eqb b c e)

pub want_stuck : (c : ℕ) (cs : List ℕ) (q : State) (at b : ℕ) → (b ≡ c → ⊥) → step (want (c ∷ cs) q) at b ≡ none
unfolding step want
want_stuck c [] q at b e = rw (ne_eqb b c e)
want_stuck c (d ∷ ds) q at b e = rw (ne_eqb b c e)

module _ (s w : List ℕ) (i p : ℕ) (q : State) where
  pub word_next : i < length w → p < length s → get_or s p 0 ≡ get_or w i 0 → from s (want (drop i w) q) p ≡ from s (want (drop (i + 1) w) q) (p + 1)
  word_next h k e = rw (drop-cons w i 0 h, add-one i) (from_next s _ p k (want_step (get_or w i 0) (drop (suc i) w) q p (get_or s p 0) e))

  pub word_stuck : i < length w → p < length s → (get_or s p 0 ≡ get_or w i 0 → ⊥) → from s (want (drop i w) q) p ≡ stops_at p
  word_stuck h k e = rw (drop-cons w i 0 h) (from_stuck s _ p k (want_stuck (get_or w i 0) (drop (suc i) w) q p (get_or s p 0) e))

  pub word_short : i < length w → length s ≤ p → from s (want (drop i w) q) p ≡ stops_at p
  unfolding want ended
  word_short h k = rw (drop-cons w i 0 h) (from_short s _ p k refl)

  pub word_end : length w ≤ i → from s (want (drop i w) q) p ≡ from s q p
  unfolding want
  word_end h = rw (drop_of_length-le w h)

-- what was read of fixed bytes
pub no_to : {n : Stop} {p : ℕ} → ◌≡◌ {A = Scan} (Err n) (Ok p) → ⊥
no_to e = cc

module _ {s w : List ℕ} {at : ℕ} where
  pub word_to : {p : ℕ} → at ≤ p → p ≤ length s → p ≡ at + length w → ((q : State) → from s (want w q) at ≡ from s q p) → Word s at w (Ok p)
  unfolding end_of
  word_to {p} l h g e = record { reads = to l h tt e; goes = λ m z. sym (ap end_of z) ∙ g }

  pub word_stops : {n : Stop} → ((q : State) → from s (want w q) at ≡ stops_at n.at) → Word s at w (Err n)
  word_stops e = record { reads = stops e; goes = λ m z. absurd (no_to z) }

-- bytes one after the other
want_append-run : (v w : List ℕ) (q : State) (at : ℕ) (s : List ℕ) → run (want (v ++ w) q) at s ≡ run (want v (want w q)) at s
unfolding want run ended
want_append-run [] w q at s = refl
want_append-run (c ∷ cs) w q at [] = refl
want_append-run (c ∷ cs) w q at (b ∷ s) = go (eqb b c) refl (want_append-run cs w q (suc at) s)
  where
    go : (t : Bool) → eqb b c ≡ t → run (want (cs ++ w) q) (suc at) s ≡ run (want cs (want w q)) (suc at) s
        → run (want (c ∷ (cs ++ w)) q) at (b ∷ s) ≡ run (want (c ∷ cs) (want w q)) at (b ∷ s)
    go true t ih = let e = eqb-true b c t in run_next _ at b (want_step c (cs ++ w) q at b e) s ∙ (ih ∙ sym (run_next _ at b (want_step c cs (want w q) at b e) s))
    go false t ih = let n = eqb-false b c t in run_stuck _ at b (want_stuck c (cs ++ w) q at b n) s ∙ sym (run_stuck _ at b (want_stuck c cs (want w q) at b n) s)

pub want_append : (s v w : List ℕ) (at : ℕ) (q : State) → from s (want (v ++ w) q) at ≡ from s (want v (want w q)) at
unfolding from
want_append s v w at q = want_append-run v w q at (drop at s)

-- fixed bytes, and then others
module _ {s : List ℕ} {at : ℕ} (v w : List ℕ) where
  pub word_halts : {r : Scan} {n : Stop} → Word s at v r → r ≡ Err n → Word s at (v ++ w) (Err n)
  word_halts h e = word_stops (λ q. want_append s v w at q ∙ halted h.reads e (want w q))

  pub word_then : {r z : Scan} {p : ℕ} → Word s at v r → r ≡ Ok p → Word s p w z → Word s at (v ++ w) z
  word_then {r} {z} {p} h e g =
      let y = reached h.reads e in
      let m = h.goes p e in
      record {
        reads = first y.rises (λ q. want_append s v w at q ∙ y.runs (want w q)) g.reads;
        goes = λ x i. let j = g.goes x i in omega (arith, j, m, length-append v w);
      }

-- what holds of every byte up to one offset, and from there up to another
pub and_then : (P : ℕ → Type 0) (s : List ℕ) (at i r : ℕ) → ((k : ℕ) → at ≤ k → k < i → P (get_or s k 0)) → ((k : ℕ) → i ≤ k → k < r → P (get_or s k 0))
    → (k : ℕ) → at ≤ k → k < r → P (get_or s k 0)
and_then P s at i r f g k l u = go (dec_le i k)
  where
    go : Dec (i ≤ k) → P (get_or s k 0)
    go (yes m) = g k m u
    go (no m) = f k l (omega (arith, m))

-- it goes one byte further
pub one_further : (P : ℕ → Type 0) (s : List ℕ) (at i : ℕ) → ((k : ℕ) → at ≤ k → k < i → P (get_or s k 0)) → P (get_or s i 0)
    → (k : ℕ) → at ≤ k → k < i + 1 → P (get_or s k 0)
one_further P s at i f e = and_then P s at i (i + 1) f (λ k m u. let z : i ≡ k = omega (arith, m, u) in subst (λ z. P (get_or s z 0)) z e)

-- what holds of four bytes
pub of_four : (P : ℕ → Type 0) (s : List ℕ) (at : ℕ) → P (get_or s at 0) → P (get_or s (at + 1) 0) → P (get_or s (at + 2) 0) → P (get_or s (at + 3) 0)
    → (k : ℕ) → at ≤ k → k < at + 4 → P (get_or s k 0)
of_four P s at a b c d k l u =
    let none : (k : ℕ) → at ≤ k → k < at → P (get_or s k 0) = λ k l u. absurd (omega (arith, l, u)) in
    let one = one_further P s at at none a in
    let two = one_further P s at (at + 1) one b in
    let three = one_further P s at (at + 2) (λ k l u. two k l (omega (arith, u))) c in
    one_further P s at (at + 3) (λ k l u. three k l (omega (arith, u))) d k l (omega (arith, u))

-- what holds up to one offset, and goes on from each to the next, holds up to another
pub climb : (P : ℕ → Type 0) (at r : ℕ) → at ≤ r → P at → ((i : ℕ) → at ≤ i → i < r → P i → P (i + 1)) → P r
climb P at r h p f = let z : at + (r - at) ≡ r = omega arith in subst P z (go (r - at) (omega arith))
  where
    go : (m : ℕ) → at + m ≤ r → P (at + m)
    go zero l = subst P (omega arith) p
    go (suc m) l = subst P (omega arith) (f (at + m) (omega arith) (omega arith) (go m (omega arith)))

-- white space
pub through_start : (s : List ℕ) (at : ℕ) → at ≤ length s → Through s at at
through_start s at h = record {
  rises = omega arith;
  within = h;
  stays = λ q _. refl;
  blanks = λ o w. (w, λ k. refl);
  all_white = λ k l u. absurd (omega (arith, l, u));
}

blank_step : (o : Open) (w : List ℕ) (k : Element → State) (at b : ℕ) → white b ≡ true → step (blank o w k) at b ≡ some (blank o (w ++ (b ∷ [])) k)
unfolding step
blank_step o w k at b e = rw e

pub through_next : {s : List ℕ} {at : ℕ} (i : ℕ) → Through s at i → i < length s → white (get_or s i 0) ≡ true → Through s at (i + 1)
unfolding Stays
through_next {s} {at} i t h e = record {
  rises = omega arith;
  within = omega arith;
  stays = λ q f. t.stays q f ∙ from_next s q i h (f i (get_or s i 0) e);
  blanks = λ o w. let (w', f) = t.blanks o w in (w' ++ (get_or s i 0 ∷ []), λ k. f k ∙ from_next s _ i h (blank_step o w' k i (get_or s i 0) e));
  all_white = λ k l u. one_further (λ z. white z ≡ true) s at i t.all_white e k l u;
}

-- text
pub along_start : (s : List ℕ) (at : ℕ) → at ≤ length s → Along s at at
along_start s at h = record { rises = omega arith; within = h; texts = λ o w. (w, λ k. refl) }

pub text_step : (o : Open) (w : List ℕ) (k : Element → State) (at b : ℕ) → text_byte b ≡ true → step (in_text o w k) at b ≡ some (in_text o (w ++ (b ∷ [])) k)
unfolding step
text_step o w k at b e = rw e

pub along_next : {s : List ℕ} {at : ℕ} (i : ℕ) → Along s at i → i < length s → text_byte (get_or s i 0) ≡ true → Along s at (i + 1)
along_next {s} {at} i t h e = record {
  rises = omega arith;
  within = omega arith;
  texts = λ o w. let (w', f) = t.texts o w in (w' ++ (get_or s i 0 ∷ []), λ k. f k ∙ from_next s _ i h (text_step o w' k i (get_or s i 0) e));
}

-- a name
pub spelt_start : (s : List ℕ) (at : ℕ) → at < length s → Spelt s at (at + 1)
spelt_start s at h =
    let one : at + 1 - at ≡ 1 = omega arith in
    let room : at + 32 - (at + 1) ≡ 31 = omega arith in
    record {
      rises = omega arith;
      within = omega arith;
      short = omega arith;
      names = λ depth lt k. rw (one, room, drop-cons s at 0 h);
    }

name_step : (depth lt : ℕ) (name : List ℕ) (room : ℕ) (k : Element → State) (at b : ℕ) → letter_or_digit b ≡ true
    → step (naming depth lt name (suc room) k) at b ≡ some (naming depth lt (name ++ (b ∷ [])) room k)
unfolding step
name_step depth lt name room k at b e = rw e

longer : (s : List ℕ) (at i : ℕ) → at ≤ i → i < length s → take (i + 1 - at) (drop at s) ≡ take (i - at) (drop at s) ++ (get_or s i 0 ∷ [])
longer s at i l h =
    let m : i + 1 - at ≡ suc (i - at) = omega arith in
    let j : at + (i - at) ≡ i = omega arith in
    rw (m, take-suc (drop at s) (i - at) 0 (rw length-drop (omega arith)), get_or-drop at s (i - at) 0, j)

pub spelt_next : {s : List ℕ} {at : ℕ} (i : ℕ) → Spelt s at i → i < length s → (i ≡ at + 32 → ⊥) → letter_or_digit (get_or s i 0) ≡ true → Spelt s at (i + 1)
spelt_next {s} {at} i t h n e =
    let a = t.rises in
    let z = t.short in
    let room : at + 32 - i ≡ suc (at + 32 - (i + 1)) = omega arith in
    record {
      rises = omega arith;
      within = omega arith;
      short = omega arith;
      names = λ depth lt k.
          t.names depth lt k
          ∙ rw (longer s at i (omega arith) h, room)
          (from_next s _ i h (name_step depth lt (take (i - at) (drop at s)) (at + 32 - (i + 1)) k i (get_or s i 0) e));
    }

-- A run of bytes of a class.
module _ {s : List ℕ} {at stop r : ℕ} {class : ℕ → Bool} (t : Run s at stop class r) (h : stop ≤ length s) where
  -- It is text, where the class is.
  pub along_run : ((b : ℕ) → class b ≡ true → text_byte b ≡ true) → Along s at r
  along_run f =
      let a = t.rises in
      let b = t.within in
      climb (Along s at) at r a (along_start s at (omega (arith, a, b, h)))
      (λ i l u along. along_next i along (omega (arith, u, b, h)) (f (get_or s i 0) (t.all i l u)))

-- It is white space.
pub white_run : {s : List ℕ} {at r : ℕ} → Run s at (length s) white r → White s at r
white_run {s} {at} {r} t =
    let a = t.rises in
    let b = t.within in
    record {
      through = climb (Through s at) at r a (through_start s at (omega (arith, a, b)))
          (λ i l u through. through_next i through (omega (arith, u, b)) (t.all i l u));
      other = t.other;
    }

-- the characters of values are text
pub value_is_text : (b : ℕ) → value_character b ≡ true → text_byte b ≡ true
value_is_text b e = let l = leb-true 3 (rank b) (sym (value_from b) ∙ e) in text_from b ∙ le-leb 1 (rank b) (omega (arith, l))

-- a name, of which the first byte has been read
pub name_run : {s : List ℕ} {at stop r : ℕ} → Run s (at + 1) stop letter_or_digit r → stop ≤ length s → stop ≤ at + 32
    → (stop < at + 32 → stop ≡ length s) → Name s at r
name_run {s} {at} {stop} {r} t h u f =
    let a = t.rises in
    let b = t.within in
    record {
      spelt = climb (Spelt s at) (at + 1) r a (spelt_start s at (omega (arith, a, b, h)))
          (λ i l v spelt. spelt_next i spelt (omega (arith, v, b, h)) (λ e. omega (arith, e, v, b, u)) (t.all i l v));
      other = λ l e. further l e (dec_le stop r) (dec_le (at + 32) stop);
    }
  where
    further : r < length s → letter_or_digit (get_or s r 0) ≡ true → Dec (stop ≤ r) → Dec (at + 32 ≤ stop) → r ≡ at + 32
    further l e (yes m) (yes n) = let b = t.within in omega (arith, m, n, b, u)
    further l e (yes m) (no n) = let z = f (omega (arith, n)) in absurd (omega (arith, l, m, z))
    further l e (no m) d = absurd (false≢true (sym (t.other (omega (arith, m))) ∙ e))

-- The classes of the scans, by their ranks.
pub text_class : IsClass text_byte 1 255
text_class b = text_from b ∙ up_to_all 1 b

pub value_class : IsClass value_character 3 255
value_class b = value_from b ∙ up_to_all 3 b

pub name_class : IsClass letter_or_digit 5 255
name_class b = name_from b ∙ up_to_all 5 b
