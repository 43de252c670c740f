-- The first child of each name: what is known of it while the children are walked, and once all are passed.
use Prim.Native.Nat.{ℕ, ◌+◌, ◌≤◌, ◌<◌}
use mathlib.Core.List.{List}
use mathlib.Core.Bool.{Bool, true, false, not}
use mathlib.Core.Path.{◌≡◌, refl, sym, ap, ◌∙◌, subst}
use native.Mathlib.Omega.{arith}
use lib.ListN.{length, get_or, set, length-set}
use lib.Seq.{get_or-set_same, get_or-set_other}
use borrow.Author.Tests.{eqb-true, eqb-false}
use Rattle.paper.specs.Bytes.{same}
use Rattle.paper.specs.Form.{Element, Elements, ◌∷ᵉ◌}
use Rattle.paper.specs.Rows.{head_of, name}
use Rattle.paper.specs.Payments.{listed, all_named, all_of, child}
use Rattle.form_names.specs.Names.{name_number, is_sought}
use Rattle.form_names.proofs.Laws.{number_below}
use Rattle.tree.specs.Laid.{LaidAll, LaidAt, laid_none, laid_more}
use Rattle.tree.proofs.Laws.{Cell, named, name_cell, next_cell, few_enough, entry_of, entry_at}
use Rattle.std.specs.Prelude.{Some, None}
use Rattle.std.specs.Prelude as code
use Rattle.std.specs.Option.{is_some}
use Rattle.tree_routes.specs.Finds.{Finds, found_at, found_nothing, ByName, ChildrenOf}
use Rattle.tree_routes.proofs.Laws.{all_takes, all_passes, all_ends, all_inside, child_none, child_first, inside, laid_inside, goes_on, stuck}

-- the first children of each name, and where that of row k's name stands, if one was met so far
abbrev pub Firsts : Type 0
Firsts = List (code.Option ℕ)

abbrev first_of : Firsts → ℕ → code.Option ℕ
first_of firsts k = get_or firsts (name_number (name k)) None

-- Row k, where some children are left to be passed: its name was not met so far, or the first child that has it is known.
pub data SoFar (s tree : List ℕ) (firsts : Firsts) (t : Element) (left : Elements) (k : ℕ) : Type 0 where
  not_met : first_of firsts k ≡ None → all_of k t ≡ all_named k (listed left) → SoFar s tree firsts t left k
  met : (first_of firsts k ≡ None → ⊥) → Finds s tree (child k t) (first_of firsts k) → SoFar s tree firsts t left k

-- The children up to the one at `at` are passed.
pub record Passed (s tree : List ℕ) (firsts : Firsts) (t : Element) (at stop : ℕ) : Type 0 where
  pub left : Elements
  pub left_laid : LaidAll s tree left at stop
  pub so_far : (k : ℕ) → is_sought k ≡ true → SoFar s tree firsts t left k

-- what the test says of a place
pub is_none : {o : code.Option ℕ} {b : Bool} → is_some o ≡ not b → b ≡ true → o ≡ None
is_none {o = None} e h = refl
is_none {o = Some i} {b} e h = cc

pub is_there : {o : code.Option ℕ} {b : Bool} → is_some o ≡ not b → b ≡ false → o ≡ None → ⊥
is_there {o} {b} e h z = cc

-- The same of the children of whatever element is laid out at i.
pub record Walk (tree : List ℕ) (i : ℕ) (firsts : Firsts) (at stop : ℕ) : Type 0 where
  pub long : length firsts ≡ 59
  pub passed : (s : List ℕ) (t : Element) → LaidAt s tree i t → Passed s tree firsts t at stop

-- the walk begins inside the element
pub walk_begins : {tree : List ℕ} {firsts : Firsts} {i stop : ℕ} → length firsts ≡ 59 → ((n : ℕ) → n < 59 → get_or firsts n None ≡ None) → Cell tree i 4 stop
    → Walk tree i firsts (i + 1) stop
walk_begins e z c =
    record {
      long = e;
      passed = λ s t l.
          record {
            left = (inside l.laid).inner;
            left_laid = laid_inside l.laid c;
            so_far = λ k y. not_met (z (name_number (name k)) (number_below (name k))) (all_inside k (inside l.laid));
          };
    }

-- it ends where no child is left
all_passed : {s tree : List ℕ} {firsts : Firsts} {t : Element} {at stop : ℕ} → stop ≤ at → Passed s tree firsts t at stop → ByName s tree t firsts
all_passed {s} {tree} {firsts} {t} {at} {stop} h p = record { finds = λ k y. go k p.left_laid (p.so_far k y) }
  where
    go : (k : ℕ) {us : Elements} → LaidAll s tree us at stop → SoFar s tree firsts t us k → Finds s tree (child k t) (first_of firsts k)
    go k (laid_none p) (not_met z e) = rw (z, child_none k t (e ∙ all_ends k)) found_nothing
    go k (laid_none p) (met d f) = f
    go k (laid_more one all) m = absurd (omega (arith, (entry_of one).numbers.after_it, goes_on all))

pub walk_ends : {tree : List ℕ} {firsts : Firsts} {i at stop : ℕ} → stop ≤ at → Walk tree i firsts at stop → ChildrenOf tree i firsts
walk_ends h w s t l = all_passed h (w.passed s t l)

-- One child of the walk, and row k: it has row k's name, and its number is that name's; or it has not.
module _ {s tree : List ℕ} {u : Element} {i number : ℕ} (l : LaidAt s tree i u) (c : Cell tree i 1 number) where
  pub number_fits : number < 59
  number_fits = omega (arith, name_cell (entry_at l) c, number_below (head_of u).name)

  module _ (k : ℕ) (y : is_sought k ≡ true) where
    has_name : same (head_of u).name (name k) ≡ true → number ≡ name_number (name k)
    has_name e = eqb-true number (name_number (name k)) (named (entry_at l) k y c refl ∙ e)

    has_another : same (head_of u).name (name k) ≡ false → number ≡ name_number (name k) → ⊥
    has_another e = eqb-false number (name_number (name k)) (named (entry_at l) k y c refl ∙ e)

    -- the first of its name was met before
    pub row_passes : {firsts : Firsts} {t : Element} {us : Elements} → (get_or firsts number None ≡ None → ⊥)
        → SoFar s tree firsts t (u ∷ᵉ us) k → SoFar s tree firsts t us k
    row_passes {firsts} {t} {us} n m = go (same (head_of u).name (name k)) refl m
      where
        go : (b : Bool) → same (head_of u).name (name k) ≡ b → SoFar s tree firsts t (u ∷ᵉ us) k → SoFar s tree firsts t us k
        go b e (met x g) = met x g
        go true e (not_met z g) = absurd (n (ap (λ (m : ℕ). get_or firsts m None) (has_name e) ∙ z))
        go false e (not_met z g) = not_met z (g ∙ all_passes k u us e)

    -- it is the first of its name, and is put down
    module _ (firsts : Firsts) {new : Firsts} (long : length firsts ≡ 59) (p : new ≡ set firsts number (Some i)) where
      put_same : number ≡ name_number (name k) → first_of new k ≡ Some i
      put_same e =
          let h : number < length firsts = omega (arith, number_fits) in
          ap (λ (m : ℕ). get_or new m None) (sym e) ∙ (ap (λ (w : Firsts). get_or w number None) p ∙ get_or-set_same firsts number (Some i) None h)

      put_other : (number ≡ name_number (name k) → ⊥) → first_of new k ≡ first_of firsts k
      put_other d = ap (λ (w : Firsts). get_or w (name_number (name k)) None) p ∙ get_or-set_other firsts number (name_number (name k)) (Some i) None (λ e. d (sym e))

      pub row_puts : {t : Element} {us : Elements} → get_or firsts number None ≡ None → SoFar s tree firsts t (u ∷ᵉ us) k → SoFar s tree new t us k
      row_puts {t} {us} n m = go (same (head_of u).name (name k)) refl m
        where
          go : (b : Bool) → same (head_of u).name (name k) ≡ b → SoFar s tree firsts t (u ∷ᵉ us) k → SoFar s tree new t us k
          go true e (met x g) = absurd (x (ap (λ (m : ℕ). get_or firsts m None) (sym (has_name e)) ∙ n))
          go true e (not_met z g) =
              let q = put_same (has_name e) in
              met (λ x. let z : ◌≡◌ {A = code.Option ℕ} None (Some i) = sym x ∙ q in cc) (rw (q, child_first k t (g ∙ all_takes k u us e)) (found_at l))
          go false e (met x g) = let q = put_other (has_another e) in met (λ z. x (sym q ∙ z)) (rw q g)
          go false e (not_met z g) = not_met (put_other (has_another e) ∙ z) (g ∙ all_passes k u us e)

-- A child is passed: the one at `at`.
module _ {tree : List ℕ} {firsts : Firsts} {i at stop number : ℕ} (h : at < stop) (c : Cell tree at 1 number) where
  walk_on : {new : Firsts} {next : ℕ} → Cell tree at 4 next → length new ≡ length firsts
      → ((s : List ℕ) (t u : Element) (us : Elements) → LaidAt s tree at u → (k : ℕ) → is_sought k ≡ true → SoFar s tree firsts t (u ∷ᵉ us) k → SoFar s tree new t us k)
      → Walk tree i firsts at stop → Walk tree i new next stop
  walk_on {new} {next} d e on w = record { long = e ∙ w.long; passed = λ s t l. go (w.passed s t l).left_laid (w.passed s t l).so_far }
    where
      go : {s : List ℕ} {t : Element} {us : Elements} → LaidAll s tree us at stop → ((k : ℕ) → is_sought k ≡ true → SoFar s tree firsts t us k)
          → Passed s tree new t next stop
      go (laid_none p) f = absurd (omega arith)
      go {s} {t} (laid_more {t = u} {ts = us} {middle = middle} one all) f =
          record {
            left = us;
            left_laid = subst (λ (m : ℕ). LaidAll s tree us m stop) (sym (next_cell (entry_of one) d)) all;
            so_far = λ k y. on s t u us (record { next = middle; laid = one }) k y (f k y);
          }

  module _ {next : ℕ} (d : Cell tree at 4 next) where
    pub walk_passes : (get_or firsts number None ≡ None → ⊥) → Walk tree i firsts at stop → Walk tree i firsts next stop
    walk_passes n = walk_on d refl (λ s t u us l k y. row_passes l c k y n)

    pub walk_puts : {new : Firsts} {r : code.Option ℕ} → new ≡ set firsts number r → (at < 65536 → r ≡ Some at) → get_or firsts number None ≡ None
        → Walk tree i firsts at stop → Walk tree i new next stop
    walk_puts {r = r} p e n w =
        walk_on d (ap length p ∙ length-set firsts number r)
        (λ s t u us l k y.
        let b = few_enough (entry_at l) in
        row_puts l c k y firsts w.long (p ∙ ap (set firsts number) (e (omega (arith, b)))) n) w

    -- no name has such a number
    pub walk_never : 59 ≤ number → Walk tree i firsts at stop → Walk tree i firsts next stop
    walk_never b = walk_on d refl (λ s t u us l k y m. absurd (omega (arith, number_fits l c, b)))

  pub walk_stuck : {A : Type 0} {next : ℕ} {s : List ℕ} {t : Element} → Cell tree at 4 next → next ≤ at → Walk tree i firsts at stop → LaidAt s tree i t → A
  walk_stuck {s = s} {t = t} d b w l = stuck h d b (w.passed s t l).left_laid

-- those of an element that are known are this one's, where it is the same
pub children_again : {tree : List ℕ} {children : Firsts} {i known : ℕ} → known ≡ i → ChildrenOf tree known children → ChildrenOf tree i children
children_again {tree} {children} e f = subst (λ (j : ℕ). ChildrenOf tree j children) e f

-- What is read from the first children of each name.
module _ {s tree : List ℕ} {t : Element} {children : Firsts} {n : ℕ} (k : ℕ) (y : is_sought k ≡ true) (e : n ≡ name_number (name k)) (b : ByName s tree t children) where
  pub finds_there : Finds s tree (child k t) (get_or children n None)
  finds_there = rw e (b.finds k y)

  pub number_of_row : {A : Type 0} → 59 ≤ n → A
  number_of_row h = absurd (omega (arith, e, number_below (name k)))
