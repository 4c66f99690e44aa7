use Rattle.std.proofs.Common.{◌≡◌, drop}
use Rattle.cxl_window.specs.Judging.{tables_behind}
use Rattle.cxl_window.specs.Windows.{first_maps}
use Rattle.cxl_window.proofs.judge.Judge.maps_of.Given as goal

-- the tables from here on decide
abbrev pub invariant-loop-table : goal.invariant-loop-table
invariant-loop-table l = first_maps l.gran (tables_behind (drop l.table-index l.table-items)) ≡ first_maps l.gran (tables_behind l.table-items)
