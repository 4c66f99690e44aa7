use Rattle.std.proofs.Common.{◌<◌, length, arith}
use Rattle.cxl_walk.proofs.Marks.{marked_more}
use Rattle.cxl_walk.proofs.marking.marked_ways.Goals as goal

pub mark_way-requires-clause-here : goal.mark_way-requires-clause-here
mark_way-requires-clause-here c = c.requires c.loop-place.place-index (record { endpoint = 0; start = 0 }) (omega arith)

pub mark_way-requires-clause-count : goal.mark_way-requires-clause-count
mark_way-requires-clause-count c = c.loop-place.invariant.count

pub loop-place-preserved : goal.loop-place-preserved
loop-place-preserved c =
    let low : c.loop-place.place-index < length c.args.spans.now = omega arith in
    marked_more c.args.topo.now.nodes c.args.spans.now c.loop-place.place-index (record { endpoint = 0; start = 0 }) c.loop-place.marks.items c.mark_way.new.marks.items low c.loop-place.invariant
    c.mark_way.ensures.count c.mark_way.ensures.kept c.mark_way.ensures.way

pub returns : goal.returns
returns c = λ k d low. c.loop-place.invariant.each k d (omega arith)
