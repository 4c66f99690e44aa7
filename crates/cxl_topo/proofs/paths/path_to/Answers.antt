use Rattle.std.proofs.Common.{arith}
use Rattle.cxl_topo.proofs.PathSteps.{starts, steps, falls}
use Rattle.cxl_topo.proofs.paths.path_to.Goals as goal

pub loop-at-init : goal.loop-at-init
loop-at-init c = starts c.args.nodes.now c.args.i c.requires.sound c.index-nodes-i.result c.requires.below

pub overflow_add-len : goal.overflow_add-len
overflow_add-len c =
    let few = c.loop-at.invariant.few in
    omega arith

pub bounds-nodes-parent : goal.bounds-nodes-parent
bounds-nodes-parent c =
    let way = rw c.in-Some.is at c.loop-at.invariant in
    let low = way.low in
    omega (arith, c.requires.below)

pub bounds-nodes-parent-in-Some : goal.bounds-nodes-parent-in-Some
bounds-nodes-parent-in-Some c =
    let way = rw c.in-Some.is at c.loop-at.invariant in
    let low = way.low in
    omega (arith, c.requires.below)

pub loop-at-preserved : goal.loop-at-preserved
loop-at-preserved c =
    let way = rw c.in-Some.is at c.loop-at.invariant in
    let low = way.low in
    steps c.args.nodes.now c.args.i c.requires.sound c.in-Some.parent c.loop-at.len c.loop-at.room c.index-nodes-parent.result (omega (arith, c.requires.below)) way

pub loop-at-smaller : goal.loop-at-smaller
loop-at-smaller c =
    let way = rw c.in-Some.is at c.loop-at.invariant in
    let low = way.low in
    rw c.in-Some.is (falls c.args.nodes.now c.args.i c.requires.sound c.in-Some.parent c.loop-at.len c.loop-at.room c.index-nodes-parent.result (omega (arith, c.requires.below)) way)
