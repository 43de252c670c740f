use native.Mathlib.Omega.{arith}
use lib.ListN.{length}
use mathlib.Core.Path.{ap, ◌∙◌}
use Rattle.paper.specs.Answers.{refusal_found, refusal_of, numbered}
use Rattle.paper.specs.Refusals.{refuse}
use Rattle.tree.proofs.Laws.{close_cell}
use Rattle.rows_places.specs.Numbers.{places_left, places_of}
use Rattle.rows_contents.proofs.Leaves.{white_there, black_refused, white_ends, offset_in, part_within}
use Rattle.rows_contents.proofs.text_in_group.Goals as goal

pub returns-in-Some : goal.returns-in-Some
unfolding refusal_found refusal_of numbered refuse
returns-in-Some c = λ h next e.
    let text_is = c.held-text.ensures h next e in
    let black = c.in-Some.ensures (white_there e text_is c.cell.ensures) in
    black_refused _ h _ text_is black (c.from.ensures ∙ c.of_entry.ensures)
    (offset_in e c.cell-in-Some.ensures (omega (arith, black.0, ap length text_is, part_within h.start h.close c.args.s.now)) (omega arith) c.saturating_add.ensures)

pub returns : goal.returns
unfolding places_left places_of
returns c = λ h next e.
    let text_is = c.held-text.ensures h next e in
    white_ends _ h _ text_is (c.in_default.ensures (white_there e text_is c.cell.ensures))
    (rw (close_cell e c.cell-2.ensures, c.of_entry-2.ensures, c.of_entry-3.ensures) at c.ended.ensures)
