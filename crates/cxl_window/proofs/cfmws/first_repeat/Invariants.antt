use Rattle.std.proofs.Common.{◌≡◌, [], take, drop}
use Rattle.cxl_window.specs.Windows.{first_repeat}
use Rattle.cxl_window.proofs.cfmws.first_repeat.Given as goal

-- the targets from i on decide
abbrev pub invariant-loop-i : goal.invariant-loop-i
invariant-loop-i l = first_repeat (take l.i l.targets) (drop l.i l.targets) ≡ first_repeat [] l.targets
