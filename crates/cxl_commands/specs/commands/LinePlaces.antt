-- The line of a record, by the windows of its table in order.
use Rattle.std.specs.Prelude.{ℕ, Option, Some, None, List, [], slice_get}
use Rattle.cxl_table.specs.declared.cedt.Record.{Record}
use Rattle.cxl_table.specs.declared.cedt.Record.TheVariants.{Chbs, Cfmws, Cxims, Other}
use Rattle.cxl_window.specs.Fields.{WindowFields}
use Rattle.cxl_commands.specs.commands.Lines.{chbs_line, window_line, cxims_line, other_line}

-- the line of a window, where there is one
abbrev pub window_line_at : Option WindowFields → ℕ → List ℕ
window_line_at None qtg = []
window_line_at (Some w) qtg = window_line w qtg

-- the line of a record, before which so many windows stand
abbrev pub line_at : List WindowFields → ℕ → Record → List ℕ
line_at windows place (Chbs c) = chbs_line c
line_at windows place (Cfmws c) = window_line_at (slice_get windows place) c.qtg
line_at windows place (Cxims c) = cxims_line c
line_at windows place (Other c) = other_line c
