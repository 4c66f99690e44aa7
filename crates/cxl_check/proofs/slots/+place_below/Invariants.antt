use Rattle.std.proofs.Common.{◌-◌, length}
use Rattle.cxl_check.proofs.slots.+place_below.Given as goal

abbrev pub decreases-place_below : goal.decreases-place_below
decreases-place_below l = length l.host.now.topo.now.nodes - l.node
