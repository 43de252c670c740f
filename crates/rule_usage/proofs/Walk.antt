-- The walk of 9 and 10 over the payments: those from payment k on decide what is found.
use Prim.Native.Nat.{ℕ, ◌+◌, ◌≤◌, ◌<◌}
use native.Mathlib.Omega.{arith}
use mathlib.Core.List.{List, ◌∷◌}
use mathlib.Core.Path.{◌≡◌, refl, sym, ap, ◌∙◌}
use lib.ListN.{length}
use Rattle.paper.specs.Form.{Element}
use Rattle.paper.specs.Payments.{Payment, payments}
use Rattle.paper.specs.Refusals.{◌or_else◌, usage_of, usage, usage_refusal}
use Rattle.paper.specs.Answers.{refusal_found}
use Rattle.paper.specs.declared.Fault.{Fault}
use Rattle.std.specs.Prelude.{Result, Ok, Err}
use Rattle.std.specs.Prelude as code
use Rattle.std.specs.Result.{IsErrAnd}
use Rattle.tree.specs.Laid.{LaidAt}
use Rattle.tree_routes.specs.Finds.{ByName, ChildrenOf}
use Rattle.rule_limits.specs.declared.PaymentAt.{PaymentAt}
use Rattle.rule_limits.specs.Ordered.{PaymentsAt, payment_in, Ordered}
use Rattle.rule_limits.proofs.First.{FirstPayment, first_payment, no_payment_left, payment_there, one_fewer}
use Rattle.rule_limits.proofs.Refusing.{leaves, later}

usage_first : (p : Payment) (ps : List Payment) → usage (p ∷ ps) ≡ usage_of p or_else usage ps
unfolding usage
usage_first p ps = refl

pub record Left (s tree order : List ℕ) (root : Element) (many k : ℕ) : Type 0 where
  pub rest : List Payment
  pub stand : PaymentsAt s tree order k rest
  pub decide : usage_refusal root ≡ usage rest
  pub as_many : many ≡ k + length rest

pub at_start : {s tree order : List ℕ} {root : Element} (many : ℕ) → Ordered s tree order root → many ≡ length (payments root) → Left s tree order root many 0
unfolding usage_refusal
at_start {root = root} many o e = record { rest = payments root; stand = o.payments_at; decide = refl; as_many = omega (arith, e) }

module _ {s tree order : List ℕ} {root : Element} {many k : ℕ} (l : Left s tree order root many k) where
  pub none_left : many ≤ k → refusal_found (Ok tt) ≡ usage_refusal root
  unfolding refusal_found usage
  none_left h = sym (l.decide ∙ ap usage (no_payment_left l.stand l.as_many h))

  -- What is found in payment k, whose block has these first children.
  module _ (more : k < many) {at : PaymentAt} (at_is : at ≡ payment_in order k) {block : List (code.Option ℕ)} (children : ChildrenOf tree at.block block) (f : Result Unit Fault)
      (found : (s : List ℕ) (p : Payment) → LaidAt s tree at.own p.own → ByName s tree p.block block → refusal_found f ≡ usage_of p) where
    first : FirstPayment s tree order k l.rest
    first = first_payment l.stand l.as_many more

    here : refusal_found f ≡ usage_of first.one
    here = let p = payment_there at_is first.one_there in found s first.one p.own_is (children s first.one.block p.block_is)

    split : usage_refusal root ≡ usage_of first.one or_else usage first.others
    split = l.decide ∙ ap usage first.first_is ∙ usage_first first.one first.others

    pub refused : (r : Result Unit Fault) {fault : Fault} → f ≡ Err fault → IsErrAnd r (λ d. d ≡ fault) → refusal_found r ≡ usage_refusal root
    refused r e is = leaves r (usage first.others) here e is ∙ sym split

    pub passed : f ≡ Ok tt → Left s tree order root many (k + 1)
    passed e =
        record {
          rest = first.others;
          stand = first.others_at;
          decide = split ∙ later (usage first.others) here e;
          as_many = one_fewer k l.as_many first.first_is;
        }
