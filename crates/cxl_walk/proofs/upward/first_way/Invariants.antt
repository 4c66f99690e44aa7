use Rattle.std.proofs.Common.{ℕ, ◌<◌}
use Rattle.cxl_model.specs.System.{system_of}
use Rattle.cxl_walk.specs.Hosts.{ComesTo}
use Rattle.cxl_walk.specs.inner.WaysUp.{way_address}
use Rattle.cxl_walk.proofs.upward.first_way.Given as goal

abbrev pub invariant-loop-way : goal.invariant-loop-way
invariant-loop-way l = (k : ℕ) → k < l.way → (first : ℕ) → ComesTo (system_of l.image l.topo l.windows) l.ep l.dpa first (way_address l.byte.decoder l.byte.along k) → ⊥
