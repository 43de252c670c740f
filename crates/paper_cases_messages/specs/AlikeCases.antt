-- Cases that both profiles answer alike: the form, which goes before the rows, and the rows of the header. The lists hold under the first profile, and all of this under the instant one.
use Rattle.std.specs.Prelude.{List, ◌++◌}
use Rattle.paper_cases_messages.specs.Changed.{Case}
use Rattle.paper_cases_messages.specs.FormCases.{short_cases, root_cases, depth_cases}
use Rattle.paper_cases_messages.specs.RowCases.{header_row_cases}

unfoldable pub alike_cases : List Case
alike_cases = short_cases ++ (root_cases ++ (depth_cases ++ header_row_cases))
