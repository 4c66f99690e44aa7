use Rattle.std.proofs.Common.{◌≡◌, ◌+◌, length, sym, subst, arith}
use Rattle.cxl_image.specs.Fields.{start_of}
use Rattle.cxl_image.specs.File.{AgreesUpTo}
use Rattle.cxl_image.proofs.Places.{start_next, start_le, end_few}
use Rattle.cxl_image.proofs.judging.first_image_fault.Goals as goal

pub loop-i-preserved : goal.loop-i-preserved
loop-i-preserved c =
    let next = start_next c.args.topo.now.nodes c.loop-i.i c.node.result.now c.node.ensures in
    let place : c.loop-i.at + c.block_size-at.result ≡ start_of c.args.topo.now.nodes (c.loop-i.i + 1) =
    omega (arith, next, c.loop-i.invariant.place, c.block_size-at.ensures.size) in
    record {
      place = place;
      before = omega (arith, place, c.in_default-block_fault.ensures.whole);
      agrees = subst (AgreesUpTo c.args.bytes.now c.args.topo.now.nodes) (sym place) c.in_default-block_fault.ensures.agrees;
    }

pub overflow_cast-result : goal.overflow_cast-result
overflow_cast-result c =
    let few = end_few c.args.topo.now.nodes c.count-i-end.ensures.tree in
    let within = start_le c.args.topo.now.nodes c.loop-i.i (length c.args.topo.now.nodes) (omega (arith, c.count-i-end.ensures.count)) in
    omega (arith, c.loop-i.invariant.place)
