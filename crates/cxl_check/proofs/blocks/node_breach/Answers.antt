use Rattle.std.proofs.Common.{arith}
use Rattle.cxl_model.specs.Hosts.{as_system}
use Rattle.cxl_check.proofs.FoundOfNodes.{found_of_node}
use Rattle.cxl_check.proofs.blocks.node_breach.Goals as goal

pub block-requires : goal.block-requires
block-requires c = omega (arith, c.requires.here, c.requires.caps.count)

pub returns : goal.returns
returns c =
    found_of_node (as_system c.args.host.now) c.args.node c.block.result.now c.capacity_at-capacity.result.ram c.capacity_at-capacity.result.pmem
    c.block.ensures.value c.capacity_at-capacity.ensures.ram c.capacity_at-capacity.ensures.pmem c.block_breach.result c.block_breach.ensures.none c.block_breach.ensures.first
