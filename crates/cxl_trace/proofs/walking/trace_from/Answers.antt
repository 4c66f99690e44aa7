use Rattle.std.proofs.Common.{arith}
use Rattle.cxl_walk.proofs.Ways.{forward_child, forwards_on, step_child, room_left, steps_on, ends}
use Rattle.cxl_trace.specs.Traces.{walk_end}
use Rattle.cxl_trace.proofs.walking.trace_from.Goals as goal

pub down-smaller-in-Down : goal.down-smaller-in-Down
down-smaller-in-Down c =
    let makes = rw c.in-Down.is at c.turn_at.ensures in
    let next = forward_child c.args.image.now c.args.topo.now c.requires.tree (c.tree_laws.ensures.laws c.args.topo.now.nodes c.requires.tree) c.args.h c.args.outset.bridge c.down.at c.in-Down.child makes in
    let later = next.later in
    let below = next.below in
    omega arith

pub down-preserved-in-Down : goal.down-preserved-in-Down
down-preserved-in-Down c =
    forwards_on c.args.image.now c.args.topo.now c.requires.tree (c.tree_laws.ensures.laws c.args.topo.now.nodes c.requires.tree) c.args.h c.args.outset.bridge c.down.at c.in-Down.child c.down.len c.down.steps c.down.invariant (rw c.in-Down.is at c.turn_at.ensures)

pub bounds-steps-len : goal.bounds-steps-len
bounds-steps-len c =
    room_left c.args.image.now c.args.topo.now c.requires.tree (c.tree_laws.ensures.laws c.args.topo.now.nodes c.requires.tree) c.args.h c.args.outset.bridge c.down.at c.in-By.child c.down.len c.in-By.step c.down.steps c.down.invariant (rw c.in-By.is at c.turn_at.ensures)

pub down-smaller : goal.down-smaller
down-smaller c =
    let makes = rw c.in-By.is at c.turn_at.ensures in
    let next = step_child c.args.image.now c.args.topo.now c.requires.tree (c.tree_laws.ensures.laws c.args.topo.now.nodes c.requires.tree) c.args.h c.args.outset.bridge c.down.at c.in-By.child c.in-By.step makes in
    let later = next.later in
    let below = next.below in
    omega arith

pub down-preserved : goal.down-preserved
down-preserved c =
    steps_on c.args.image.now c.args.topo.now c.requires.tree (c.tree_laws.ensures.laws c.args.topo.now.nodes c.requires.tree) c.args.h c.args.outset.bridge c.down.at c.in-By.child c.down.len c.in-By.step c.down.steps c.down.invariant (rw c.in-By.is at c.turn_at.ensures)

pub returns-in-Ends-clause-walk : goal.returns-in-Ends-clause-walk
returns-in-Ends-clause-walk c =
    ends c.args.image.now c.args.topo.now c.requires.tree (c.tree_laws.ensures.laws c.args.topo.now.nodes c.requires.tree) c.args.h c.args.outset.bridge c.down.at c.down.len c.down.steps (walk_end c.in-Ends.end) c.down.invariant (rw c.in-Ends.is at c.turn_at.ensures)
