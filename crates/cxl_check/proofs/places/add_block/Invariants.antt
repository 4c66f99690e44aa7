use Rattle.cxl_model.specs.Hosts.{as_system}
use Rattle.cxl_model.specs.Accepted.{breaks_block}
use Rattle.cxl_check.specs.inner.Listed.{AreSpotsBefore}
use Rattle.cxl_check.proofs.places.add_block.Given as goal

-- the places before decoder i
abbrev pub invariant-loop-i : goal.invariant-loop-i
invariant-loop-i l = AreSpotsBefore (breaks_block (as_system l.host) l.rule) l.rule l.node l.i l.spots.items
