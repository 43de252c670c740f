use Rattle.move_pairs.proofs.Pairs.{at_start, at_end, answers_18, answers_19, answers_20, goes_on}
use native.Mathlib.Omega.{arith}
use Rattle.paper.specs.Regrouping.{all_values}
use Rattle.move_pairs.specs.Pairs.{pairs_say}
use Rattle.move_pairs.proofs.pairing.Goals as goal

pub loop-k-init : goal.loop-k-init
loop-k-init c =
    (c.nowhere-first.ensures, c.nowhere-second.ensures, λ root1 root2 ks a b f l. at_start (all_values root1) (all_values root2) ks)

pub returns-then-payments-o : goal.returns-then-payments-o
unfolding pairs_say
returns-then-payments-o c =
    λ root1 root2 ks a b f l.
    let held = c.loop-k.invariant in
    answers_18 ks a b l (held.2 root1 root2 ks a b f l) (omega arith) (c.ordinal-o.ensures ks f) (omega arith)

pub returns-then-mark : goal.returns-then-mark
unfolding pairs_say
returns-then-mark c =
    λ root1 root2 ks a b f l.
    let held = c.loop-k.invariant in
    answers_19 ks a b l (held.2 root1 root2 ks a b f l) (omega arith) (c.ordinal-o.ensures ks f) (omega arith) c.mark.ensures c.if-mark.true

pub returns-in-Some : goal.returns-in-Some
unfolding pairs_say
returns-in-Some c =
    λ root1 root2 ks a b f l.
    let small = c.if-payments-o.false in
    let ordinal = c.ordinal-o.ensures ks f in
    let held = c.loop-k.invariant in
    let routes = c.routes-routes.ensures in
    let marked = c.mark.ensures in
    let named = c.if-mark.false in
    let one = (c.payment-first.ensures held.0).1 in
    let two = (c.payment-second.ensures held.1).1 in
    let compares = c.differing_pair-compared.ensures in
    answers_20 ks a b l (held.2 root1 root2 ks a b f l) (omega arith) ordinal (omega (arith, small)) marked named one two routes _ compares c.in-Some.is

pub loop-k-preserved : goal.loop-k-preserved
loop-k-preserved c =
    let held = c.loop-k.invariant in
    let one = c.payment-first.ensures held.0 in
    let two = c.payment-second.ensures held.1 in (
      one.0,
      two.0,
      λ root1 root2 ks a b f l.
          let small = c.if-payments-o.false in
          let ordinal = c.ordinal-o.ensures ks f in
          let routes = c.routes-routes.ensures in
          let marked = c.mark.ensures in
          let named = c.if-mark.false in
          let compares = c.differing_pair-compared.ensures in
          goes_on ks a b l (held.2 root1 root2 ks a b f l) (omega arith) ordinal (omega (arith, small)) marked named one.1 two.1 routes _ compares c.in_default.is,
    )

pub returns : goal.returns
unfolding pairs_say
returns c =
    λ root1 root2 ks a b f l. at_end ks a b l (c.loop-k.invariant.2 root1 root2 ks a b f l) (omega arith)
