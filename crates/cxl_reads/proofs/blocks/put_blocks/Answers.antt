use Rattle.std.proofs.Common.{arith}
use Rattle.cxl_reads.specs.Decoders.{block_lines}
use Rattle.cxl_reads.proofs.Steps.{item_line, all_lines}
use Rattle.cxl_reads.proofs.blocks.put_blocks.Goals as goal

pub put_block-requires : goal.put_block-requires
put_block-requires c = omega (arith, c.requires.count)

pub loop-node-preserved : goal.loop-node-preserved
loop-node-preserved c =
    item_line (block_lines c.args.topo.now.nodes) c.args.image.now c.loop-node.node c.block.result.now _ _ _ c.block.ensures.value c.loop-node.invariant c.in_ok-put_block.ensures

pub returns : goal.returns
returns c = all_lines (block_lines c.args.topo.now.nodes) c.args.image.now c.loop-node.node _ _ (omega arith) c.loop-node.invariant
