use Rattle.std.proofs.Common.{arith}
use Rattle.cxl_image.proofs.Places.{ends_within, place_few}
use Rattle.cxl_image.proofs.Blocks.{read_none, read_more, all_read}
use Rattle.cxl_image.proofs.reading.sound_image.Goals as goal

pub loop-i-init : goal.loop-i-init
loop-i-init c = record {
  read = read_none c.args.bytes.now c.args.topo.now.nodes c.in_ok-blocks.blocks.items c.in_ok-blocks.ensures.items;
  room = omega (arith, c.in_ok-blocks.ensures.capacity, c.count.ensures.count);
}

pub block_from-requires-clause-legal : goal.block_from-requires-clause-legal
block_from-requires-clause-legal c = c.count-i-end.ensures.tree.caps c.loop-i.i c.node-node.result.now c.node-node.ensures

pub block_from-requires-clause-fits : goal.block_from-requires-clause-fits
block_from-requires-clause-fits c =
    let within = ends_within c.args.topo.now.nodes c.loop-i.i c.node-node.result.now c.node-node.ensures in
    omega (arith, within, c.loop-i.invariant.read.place, c.requires.whole)

pub push_reserved-requires : goal.push_reserved-requires
push_reserved-requires c = omega (arith, c.loop-i.blocks.ok.0, c.loop-i.invariant.read.count, c.loop-i.invariant.room)

pub overflow_add-at : goal.overflow_add-at
overflow_add-at c =
    let few = place_few c.args.topo.now.nodes c.count-i-end.ensures.tree c.loop-i.i c.node-node.result.now c.node-node.ensures in
    omega (arith, few, c.loop-i.invariant.read.place, c.block_size-at.ensures.size)

pub loop-i-preserved : goal.loop-i-preserved
loop-i-preserved c = record {
  read =
      rw (c.push_reserved.ensures.items, c.block_size-at.ensures.size)
      (read_more c.args.bytes.now c.args.topo.now.nodes c.loop-i.blocks.items c.loop-i.i c.loop-i.at c.node-node.result.now c.block_from.result c.loop-i.invariant.read c.node-node.ensures c.block_from.ensures.value c.block_from.ensures.block);
  room = omega (arith, c.push_reserved.ensures.capacity, c.loop-i.invariant.room);
}

pub with_blocks-requires : goal.with_blocks-requires
with_blocks-requires c = record {
  few = omega (arith, c.loop-i.invariant.read.count, c.count-i-end.ensures.count, c.count-i-end.ensures.tree.few_nodes);
  each = c.loop-i.invariant.read.sound;
}

pub returns : goal.returns
returns c =
    rw c.with_blocks.ensures (all_read c.args.bytes.now c.args.topo.now.nodes c.loop-i.blocks.items c.loop-i.i c.loop-i.at c.loop-i.invariant.read (omega arith) c.requires.whole c.requires.agrees)
