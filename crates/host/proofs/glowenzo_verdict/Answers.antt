use Prim.Native.Nat.{ℕ}
use native.Mathlib.Omega.{arith}
use mathlib.Core.Path.{sym, ◌∙◌}
use lib.ListN.{length-replicate}
use lib.Seq.{length-take-le}
use Rattle.paper.specs.Sizes.{least_table}
use Rattle.host.proofs.Laws.{too_short, room, refused-bytes, accepted-bytes, in_profile}
use Rattle.host.proofs.glowenzo_verdict.Goals as goal
use Rattle.host.proofs.glowenzo_verdict.Goals.{in-Ok, in_default}

pub returns-then-table-lt-LEAST_BYTES : goal.returns-then-table-lt-LEAST_BYTES
returns-then-table-lt-LEAST_BYTES c = too_short _ _ c.args.message.now c.args.table.now c.if-table-lt-LEAST_BYTES.true c.from.ensures

pub overflow_mul-numbers : goal.overflow_mul-numbers
overflow_mul-numbers c =
    let own = length-replicate {A = ℕ} least_table 0 in
    record { fits = omega (arith, room _ _ c.args.message.now c.args.table.now c.if-table-lt-LEAST_BYTES.false own (in_profile _ _ c.profile_of.ensures c.verdict-verdict.ensures) c.in-Ok.is (c.verdict-verdict.auto.table ∙ own)) }

pub slice_bounds-numbers-end : goal.slice_bounds-numbers-end
slice_bounds-numbers-end c =
    let own = length-replicate {A = ℕ} least_table 0 in
    let filled = c.verdict-verdict.auto.table ∙ own in
    omega (arith, filled, room _ _ c.args.message.now c.args.table.now c.if-table-lt-LEAST_BYTES.false own (in_profile _ _ c.profile_of.ensures c.verdict-verdict.ensures) c.in-Ok.is filled)

pub slice_bounds-write-end : goal.slice_bounds-write-end
slice_bounds-write-end c =
    let own = length-replicate {A = ℕ} least_table 0 in
    let filled = c.verdict-verdict.auto.table ∙ own in
    sym (length-take-le _ c.verdict-verdict.new.table (omega (arith, filled, room _ _ c.args.message.now c.args.table.now c.if-table-lt-LEAST_BYTES.false own (in_profile _ _ c.profile_of.ensures c.verdict-verdict.ensures) c.in-Ok.is filled)))

pub returns : goal.returns
returns c =
    let own = length-replicate {A = ℕ} least_table 0 in
    let told = in_profile _ _ c.profile_of.ensures c.verdict-verdict.ensures in
    elim c.match-verdict.branch [
      | in-Ok w ↦ rw w.table-is (accepted-bytes _ _ c.args.message.now c.args.table.now c.if-table-lt-LEAST_BYTES.false own told w.in-Ok.is (c.from-2.ensures ∙ rw (w.verdict-is, w.in-Ok.is)) w.write.ensures)
      | in_default w ↦ rw w.table-is (refused-bytes _ _ c.args.message.now c.args.table.now c.if-table-lt-LEAST_BYTES.false own told w.in_default.is (c.from-2.ensures ∙ rw w.verdict-is))
    ]
