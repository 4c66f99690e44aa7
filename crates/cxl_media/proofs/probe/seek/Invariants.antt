use Rattle.std.proofs.Common.{ℕ, ◌<◌, ◌≤◌}
use Rattle.cxl_media.specs.Table.{StopsProbe, cell_at}
use Rattle.cxl_media.proofs.probe.seek.Given as goal

-- a probe stops at none of the cells so far
abbrev pub invariant-loop-at : goal.invariant-loop-at
invariant-loop-at l = (m : ℕ) → l.home ≤ m → m < l.at → ¬ (StopsProbe (l.ep, l.number) (cell_at l.cells.cells m))
