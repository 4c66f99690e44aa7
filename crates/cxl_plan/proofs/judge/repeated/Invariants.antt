use Rattle.std.proofs.Common.{◌≡◌, [], take, drop}
use Rattle.cxl_window.specs.Windows.{first_repeat}
use Rattle.cxl_plan.proofs.judge.repeated.Given as goal

-- the endpoints from i on decide
abbrev pub invariant-loop-i : goal.invariant-loop-i
invariant-loop-i l = first_repeat (take l.i l.endpoints) (drop l.i l.endpoints) ≡ first_repeat [] l.endpoints
