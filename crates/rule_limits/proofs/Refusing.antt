-- A refusal at a leaf that may be absent; a stage that refuses is the answer, and one that finds nothing leaves the answer to the next.
use Prim.Native.Nat.{ℕ}
use mathlib.Core.List.{List}
use mathlib.Core.Option.{Option, some}
use mathlib.Core.Bool.{Bool, true, false}
use mathlib.Core.Path.{◌≡◌, refl, sym, ap, ◌∙◌}
use Rattle.paper.specs.Form.{Element}
use Rattle.paper.specs.Payments.{text_of}
use Rattle.paper.specs.Refusals.{Refusal, refuse, unless, ◌or_else◌, limits_refusal}
use Rattle.paper.specs.Answers.{refusal_found, refusal_of, numbered}
use Rattle.paper.specs.declared.Fault.{Fault}
use Rattle.paper.specs.declared.Fault.TheVariants.{TooMany}
use Rattle.std.specs.Prelude.{Result, Ok, Err, Some, None}
use Rattle.std.specs.Prelude as code
use Rattle.std.specs.Result.{IsErrAnd}
use Rattle.std.proofs.lemmas.Result.{err_from_is_err_and}
use Rattle.paper.proofs.Findings.{found_first}
use Rattle.tree.specs.Laid.{LaidAt}
use Rattle.tree.proofs.Laws.{Cell, at_cell, entry_at}
use Rattle.tree_routes.specs.Finds.{Finds}
use Rattle.tree_routes.proofs.WhatIsFound.{found_none, found_some}
use Rattle.rule_limits.specs.Ordered.{Limited, is_within, is_excess}
use Rattle.rule_limits.specs.declared.Many.{Many}

-- the leaf is absent; its text is right; it is not
module _ (right : List ℕ → Bool) (number row : ℕ) {s tree : List ℕ} {o : Option Element} {f : code.Option ℕ} (found : Finds s tree o f) where
  pub leaf_absent : (fault : Fault) → f ≡ None → refusal_of fault ≡ numbered number row 0 → refusal_found (Err fault) ≡ unless right number row o
  unfolding refusal_found unless refuse numbered
  leaf_absent fault e d = sym (rw (found_none found e) (sym (ap some d)))

  pub leaf_right : {i : ℕ} → f ≡ Some i → ((t : Element) → LaidAt s tree i t → o ≡ some t → right (text_of t) ≡ true)
      → refusal_found (Ok tt) ≡ unless right number row o
  unfolding refusal_found unless
  leaf_right e h = let t = found_some found e in sym (rw (t.is_it, h t.it t.laid t.is_it))

  pub leaf_wrong : {i at : ℕ} (fault : Fault) → f ≡ Some i → ((t : Element) → LaidAt s tree i t → o ≡ some t → right (text_of t) ≡ false) → Cell tree i 0 at
      → refusal_of fault ≡ numbered number row at → refusal_found (Err fault) ≡ unless right number row o
  unfolding refusal_found unless refuse numbered
  leaf_wrong fault e h c d =
      let t = found_some found e in
      sym (rw (t.is_it, h t.it t.laid t.is_it) (sym (ap some (d ∙ ap (numbered number row) (at_cell (entry_at t.laid) c)))))

-- where nothing was found, what comes later decides
pub later : {a : Option Refusal} {f : Result Unit Fault} (b : Option Refusal) → refusal_found f ≡ a → f ≡ Ok tt → a or_else b ≡ b
unfolding refusal_found ◌or_else◌
later b e d = rw (← e, d)

-- an element in excess, as a fault
pub excess_found : {s tree order : List ℕ} {root : Element} {r : Result Many Fault} {fault : Fault} → Limited s tree order root r → r ≡ Err fault
    → limits_refusal root ≡ some (refusal_of fault)
unfolding refusal_of refuse numbered
excess_found (is_within p q r o) e = cc
excess_found {fault = fault} (is_excess {element = element} {offset = offset} p) e = let z : fault ≡ TooMany element offset = cc in rw (p, z) refl

-- a stage that refuses, left by `?`
pub leaves : {a : Option Refusal} {f : Result Unit Fault} {fault : Fault} (r : Result Unit Fault) (b : Option Refusal) → refusal_found f ≡ a → f ≡ Err fault
    → IsErrAnd r (λ d. d ≡ fault) → refusal_found r ≡ a or_else b
leaves {a = a} {f = f} r b e w x =
    let p = err_from_is_err_and r x in
    ap refusal_found (p.1 ∙ ap Err p.2 ∙ sym w) ∙ found_first a b f e w
