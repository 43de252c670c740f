use Rattle.verdict_reader.proofs.Parts.{no_such_payment, no_field, the_field}
use lib.ListN.{length-replicate}
use mathlib.Core.Path.{refl}
use Prim.Native.Nat.{ℕ}
use native.Mathlib.Omega.{arith}
use borrow.Author.Rules.{rules}
use Rattle.verdict_reader.proofs.field.Goals as goal

pub returns-in_default : goal.returns-in_default
returns-in_default c =
    no_field c.args.payment c.args.field
    (c.in_default.ensures (omega (arith, length-replicate {A = ℕ} 28200 0)) (omega (arith, length-replicate {A = ℕ} 208 0)))
    (record { bytes_are = refl; in_the_message = refl; at_its_place = search rules })

pub returns-then-accepted-payment : goal.returns-then-accepted-payment
returns-then-accepted-payment c =
    no_such_payment c.args.payment c.args.field
    (c.in-Ok.ensures (omega (arith, length-replicate {A = ℕ} 28200 0)) (omega (arith, length-replicate {A = ℕ} 208 0)))
    c.if-accepted-payment.true
    (record { bytes_are = refl; in_the_message = refl; at_its_place = search rules })

pub returns : goal.returns
returns c =
    the_field c.args.payment c.args.field
    (c.in-Ok.ensures (omega (arith, length-replicate {A = ℕ} 28200 0)) (omega (arith, length-replicate {A = ℕ} 208 0)))
    c.if-accepted-payment.false
    c.field_in.ensures
