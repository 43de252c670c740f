-- Two answers that keep the promise of `limits_refusal` agree.
use Prim.Native.Nat.{ℕ}
use mathlib.Core.List.{List}
use mathlib.Core.Path.{◌≡◌, sym, ap, ◌∙◌}
use Rattle.paper.specs.Form.{Element}
use Rattle.paper.specs.Refusals.{Refusal, refuse}
use Rattle.paper.proofs.Laws.{some_not_none}
use Rattle.std.specs.Prelude.{Result}
use Rattle.paper.specs.declared.Fault.{Fault}
use Rattle.paper.specs.declared.Fault.TheVariants.{TooMany}
use Rattle.rule_limits.specs.declared.Many.{Many}
use Rattle.rule_limits.specs.Ordered.{Limited, is_within, is_excess}

same_excess : (e o e' o' : ℕ) → refuse 5 e o ≡ refuse 5 e' o' → TooMany e o ≡ TooMany e' o'
unfolding refuse
same_excess e o e' o' p =
    let x : ◌≡◌ {A = Refusal} (record { number = 5; element = e; offset = o }) (record { number = 5; element = e'; offset = o' }) = cc in
    let y : e ≡ e' = ap (λ (r : Refusal). r.element) x in
    let z : o ≡ o' = ap (λ (r : Refusal). r.offset) x in
    cc

pub limits_agree : {s tree order other : List ℕ} {root : Element} {l m : Result Many Fault} → Limited s tree order root l → Limited s tree other root m → l ≡ m
unfolding refuse
limits_agree (is_within p q r o) (is_within p' q' r' o') = cc
limits_agree (is_within p q r o) (is_excess p') = some_not_none (sym p' ∙ p)
limits_agree (is_excess p) (is_within p' q' r' o') = some_not_none (sym p ∙ p')
limits_agree (is_excess p) (is_excess p') = let z = same_excess _ _ _ _ (sym p ∙ p') in cc
