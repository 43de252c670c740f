use mathlib.Core.Path.{refl}
use Rattle.paper.specs.Bytes.{bytes, same}
use Rattle.paper.specs.Rows.{rows, instant_changes, every_row, leaf, group, group_under}
use Rattle.form_names.specs.Names.{number_in, name_number}
use Rattle.rows_profile.specs.Profile.{entries, with_entry, with_entries, no_entry, entries_of}
use Rattle.rows_profile.proofs.Entries.{as_said}
use Rattle.rows_profile.proofs.rows.Goals as goal

pub returns-then-profile : goal.returns-then-profile
unfolding entries_of entries with_entry with_entries name_number number_in same rows instant_changes every_row leaf group group_under bytes
returns-then-profile c = as_said c.if-profile.true refl

pub returns : goal.returns
unfolding entries_of entries no_entry name_number number_in same rows instant_changes every_row leaf group group_under bytes
returns c = as_said c.if-profile.false refl
