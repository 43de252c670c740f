use mathlib.Core.Path.{refl}
use Rattle.paper.specs.Bytes.{bytes, same}
use Rattle.paper.specs.Rows.{leaf, group, group_under, rows, instant_changes, every_row, name_in, name}
use Rattle.form_names.specs.Names.{number_in, name_number, slot_of}
use Rattle.form_names.proofs.Laws.{each_number, slot_right, row_there, table_right, names_are}
use Rattle.form_names.proofs.names.Goals as goal

pub returns : goal.returns
unfolding table_right each_number slot_right row_there name_number number_in slot_of name rows instant_changes every_row group same name_in bytes leaf group_under
returns c = names_are _ refl
