use Rattle.cxl_model.specs.Hosts.{as_system}
use Rattle.cxl_model.specs.Accepted.{breaks_block}
use Rattle.cxl_check.specs.inner.Listed.{AreSpotsBefore}
use Rattle.cxl_check.proofs.places.blocks_spots.Given as goal

-- the places of the nodes so far
abbrev pub invariant-loop-node : goal.invariant-loop-node
invariant-loop-node l = AreSpotsBefore (breaks_block (as_system l.host) l.rule) l.rule l.node 0 l.spots.items
