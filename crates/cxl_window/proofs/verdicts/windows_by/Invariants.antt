use Rattle.std.specs.Option.{option_copied}
use Rattle.cxl_window.specs.Judging.{windows_behind}
use Rattle.cxl_window.proofs.WindowLists.{IsSoFar}
use Rattle.cxl_window.proofs.verdicts.windows_by.Given as goal

-- the windows of the records so far, each of which is one
abbrev pub invariant-loop-cfmws : goal.invariant-loop-cfmws
invariant-loop-cfmws l = IsSoFar l.records (option_copied l.uids) (windows_behind l.cfmws-items) l.cfmws-index l.windows.items
