use mathlib.Core.Path.{refl}
use Rattle.paper.specs.Bytes.{bytes}
use Rattle.paper.specs.Rows.{rows, instant_changes, with_row, with_rows, instant_rows, every_row, leaf, group, group_under}
use Rattle.rows_profile.specs.Profile.{entry_of, place_numbers, places_under, all_places}
use Rattle.rows_profile.proofs.places.Goals as goal

pub returns : goal.returns
unfolding all_places places_under place_numbers entry_of rows instant_changes with_row with_rows instant_rows every_row leaf group group_under bytes
returns c = refl
