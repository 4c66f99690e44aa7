use Rattle.std.proofs.Common.{take}
use Rattle.cxl_commands.specs.commands.Route.{IsNowhere}
use Rattle.cxl_commands.proofs.commands.selection.select.Given as goal

-- no window so far holds the address
abbrev pub invariant-loop-window : goal.invariant-loop-window
invariant-loop-window l = IsNowhere (take l.window-index l.windows) l.h
