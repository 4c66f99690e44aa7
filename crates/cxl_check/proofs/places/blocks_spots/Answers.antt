use Rattle.std.proofs.Common.{arith, rules}
use Rattle.cxl_model.specs.Hosts.{as_system}
use Rattle.cxl_model.specs.Accepted.{breaks_block}
use Rattle.cxl_check.proofs.Spots.{no_spots, spots_at}
use Rattle.cxl_check.proofs.places.blocks_spots.Goals as goal

pub loop-node-init : goal.loop-node-init
loop-node-init c = rw c.new-spots.ensures.items (no_spots (breaks_block (as_system c.args.host.now) c.args.rule) c.args.rule)

pub returns : goal.returns
returns c = spots_at (breaks_block (as_system c.args.host.now) c.args.rule) c.args.rule _ _ _ (omega arith) c.loop-node.invariant

pub loop-node-preserved : goal.loop-node-preserved
loop-node-preserved c = search rules depth 3
