-- What is said where one element of two payments is compared.
use Rattle.std.specs.Prelude.{[], ◌∷◌}
use Rattle.std.proofs.Math.Option.{Option}
use Rattle.paper.specs.Form.{Element}
use Rattle.paper.specs.Payments.{Payment, in_payment}

-- what remittance is made of
abbrev pub free_of : Payment → Option Element
free_of p = in_payment (48 ∷ 49 ∷ []) p

abbrev pub issuer_of : Payment → Option Element
issuer_of p = in_payment (48 ∷ 50 ∷ 51 ∷ 52 ∷ 54 ∷ []) p

abbrev pub reference_of : Payment → Option Element
reference_of p = in_payment (48 ∷ 50 ∷ 51 ∷ 55 ∷ []) p

-- the amount
abbrev pub amount_in : Payment → Option Element
amount_in p = in_payment (41 ∷ 42 ∷ []) p
