use Rattle.std.proofs.Common.{ℕ, ◌-◌}
use Rattle.cxl_poison.specs.Live.{IsSpanOf}
use Rattle.cxl_poison.specs.inner.Cuts.{first_stretch, first_cuts, AddsRuns}
use Rattle.cxl_poison.proofs.cutting.put_runs.Given as goal

-- the runs of the stretches so far
abbrev pub invariant-loop-n : goal.invariant-loop-n
invariant-loop-n l = (endpoint : ℕ) → IsSpanOf l.found endpoint l.span → AddsRuns l.found l.window endpoint l.span (first_cuts l.touched (l.n - first_stretch l.touched)) l.initial.parts.items l.parts.items
