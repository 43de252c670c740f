use Rattle.verdict_reader.proofs.Verdicts.{too_short, refused_promise, accepted_promise}
use lib.ListN.{length-replicate}
use Prim.Native.Nat.{ℕ}
use native.Mathlib.Omega.{arith}
use Rattle.verdict_reader.proofs.verdict.Goals as goal

pub returns-then-table-lt-LEAST_TABLE : goal.returns-then-table-lt-LEAST_TABLE
returns-then-table-lt-LEAST_TABLE c = too_short _ c.args.message.now c.args.table.now c.if-table-lt-LEAST_TABLE.true

pub returns-in_err-accepted : goal.returns-in_err-accepted
returns-in_err-accepted c =
    refused_promise c.if-table-lt-LEAST_TABLE.false
    (c.in_err-accepted.ensures (omega (arith, length-replicate {A = ℕ} 28200 0)) (omega (arith, length-replicate {A = ℕ} 208 0)))
    c.from_residual.ensures.1

pub returns : goal.returns
returns c =
    accepted_promise c.if-table-lt-LEAST_TABLE.false
    (c.in_ok-accepted.ensures (omega (arith, length-replicate {A = ℕ} 28200 0)) (omega (arith, length-replicate {A = ℕ} 208 0)))
    c.fill.ensures
