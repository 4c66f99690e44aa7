use Rattle.std.proofs.Common.{◌≡◌, subst, arith}
use Rattle.cxl_image.specs.Fields.{start_of, word_from, named_bits}
use Rattle.cxl_image.specs.File.{AgreesUpTo}
use Rattle.cxl_image.proofs.Places.{start_next, block_long, place_few}
use Rattle.cxl_image.proofs.Agreeing.{agrees_next, cut_before, cut_inside}
use Rattle.cxl_image.proofs.judging.block_fault.Goals as goal

pub returns-then-len-at-clause-some : goal.returns-then-len-at-clause-some
returns-then-len-at-clause-some c =
    let agrees = subst (AgreesUpTo c.args.bytes.now c.args.topo.now.nodes) c.requires.place c.requires.agrees in
    cut_before c.args.bytes.now c.args.topo.now.nodes c.args.i c.node-node.result.now c.node-node.ensures agrees (omega (arith, c.requires.place, c.if-len-at.true))

pub returns-then-len-at-2-clause-some : goal.returns-then-len-at-2-clause-some
returns-then-len-at-2-clause-some c =
    let agrees = subst (AgreesUpTo c.args.bytes.now c.args.topo.now.nodes) c.requires.place c.requires.agrees in
    let same : named_bits (word_from c.args.bytes.now (start_of c.args.topo.now.nodes c.args.i)) ≡ named_bits c.node-node.result.now.cap = cc in
    cut_inside c.args.bytes.now c.args.topo.now.nodes c.args.i c.node-node.result.now c.node-node.ensures agrees same (omega (arith, c.requires.place, c.if-len-at-2.true, c.block_size.ensures.size))

pub returns-clause-agrees : goal.returns-clause-agrees
returns-clause-agrees c =
    let agrees = subst (AgreesUpTo c.args.bytes.now c.args.topo.now.nodes) c.requires.place c.requires.agrees in
    let same : named_bits (word_from c.args.bytes.now (start_of c.args.topo.now.nodes c.args.i)) ≡ named_bits c.node-node.result.now.cap = cc in
    agrees_next c.args.bytes.now c.args.topo.now.nodes c.args.i c.node-node.result.now c.node-node.ensures agrees same

pub returns-clause-whole : goal.returns-clause-whole
returns-clause-whole c =
    let next = start_next c.args.topo.now.nodes c.args.i c.node-node.result.now c.node-node.ensures in
    omega (arith, next, c.requires.place, c.if-len-at-2.false, c.block_size.ensures.size)

pub overflow_cast-result : goal.overflow_cast-result
overflow_cast-result c =
    let few = place_few c.args.topo.now.nodes c.requires.tree c.args.i c.node-node.result.now c.node-node.ensures in
    let long = block_long c.node-node.result.now in
    omega (arith, c.requires.place, c.if-len-at.true)

pub overflow_cast-result-then-len-at-2 : goal.overflow_cast-result-then-len-at-2
overflow_cast-result-then-len-at-2 c =
    let few = place_few c.args.topo.now.nodes c.requires.tree c.args.i c.node-node.result.now c.node-node.ensures in
    omega (arith, c.requires.place, c.if-len-at-2.true, c.block_size.ensures.size)
