use Rattle.std.proofs.Common.{◌+◌, ◌-◌, ◌≤◌, length, take}
use Rattle.cxl_pipe.specs.Talk.{answer_limit}
use Rattle.cxl_pipe.proofs.Lines.{HasCome}
use Rattle.cxl_pipe.proofs.pipes.read_line.Given as goal

-- so many bytes came, and no line ended within them
abbrev pub invariant-turns : goal.invariant-turns
invariant-turns g l =
    HasCome (take l.at l.line) (g.S.Source.state l.fn.from) (g.S.Source.state l.from)
    × (l.at ≤ answer_limit + 1)
    × (answer_limit + 1 ≤ length l.line)

abbrev pub decreases-turns : goal.decreases-turns
decreases-turns g l = answer_limit + 1 - l.at
