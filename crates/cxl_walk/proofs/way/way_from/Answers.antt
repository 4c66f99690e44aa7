use Rattle.std.proofs.lemmas.Result.{err_from_is_err_and}
use Rattle.std.proofs.Common.{arith}
use Rattle.cxl_model.specs.Chain as chain
use Rattle.cxl_walk.specs.inner.Calls.{reached}
use Rattle.cxl_walk.proofs.Ways.{forward_child, forwards_on, step_child, room_left, steps_on, ends, fails}
use Rattle.cxl_walk.proofs.way.way_from.Goals as goal

pub returns-in_err-child-clause-miss : goal.returns-in_err-child-clause-miss
returns-in_err-child-clause-miss c =
    let p = err_from_is_err_and c.from_residual.result c.from_residual.ensures.1 in
    rw (p.1, p.2) (fails c.args.image.now c.args.topo.now c.requires.tree (c.tree_laws.ensures.laws c.args.topo.now.nodes c.requires.tree) c.args.h c.args.top c.down.at c.down.len c.down.steps _ c.down.invariant c.in_err-child.ensures.miss)

pub down-smaller-in-Forwards : goal.down-smaller-in-Forwards
down-smaller-in-Forwards c =
    let makes = rw c.in-Forwards.is at c.in_ok-child.ensures.next in
    let next = forward_child c.args.image.now c.args.topo.now c.requires.tree (c.tree_laws.ensures.laws c.args.topo.now.nodes c.requires.tree) c.args.h c.args.top c.down.at c.in-Forwards.child makes in
    let later = next.later in
    let below = next.below in
    omega arith

pub down-preserved-in-Forwards : goal.down-preserved-in-Forwards
down-preserved-in-Forwards c =
    forwards_on c.args.image.now c.args.topo.now c.requires.tree (c.tree_laws.ensures.laws c.args.topo.now.nodes c.requires.tree) c.args.h c.args.top c.down.at c.in-Forwards.child c.down.len c.down.steps c.down.invariant (rw c.in-Forwards.is at c.in_ok-child.ensures.next)

pub bounds-steps-len : goal.bounds-steps-len
bounds-steps-len c =
    room_left c.args.image.now c.args.topo.now c.requires.tree (c.tree_laws.ensures.laws c.args.topo.now.nodes c.requires.tree) c.args.h c.args.top c.down.at c.in-Steps.child c.down.len c.in-Steps.step c.down.steps c.down.invariant (rw c.in-Steps.is at c.in_ok-child.ensures.next)

pub down-smaller : goal.down-smaller
down-smaller c =
    let makes = rw c.in-Steps.is at c.in_ok-child.ensures.next in
    let next = step_child c.args.image.now c.args.topo.now c.requires.tree (c.tree_laws.ensures.laws c.args.topo.now.nodes c.requires.tree) c.args.h c.args.top c.down.at c.in-Steps.child c.in-Steps.step makes in
    let later = next.later in
    let below = next.below in
    omega arith

pub down-preserved : goal.down-preserved
down-preserved c =
    steps_on c.args.image.now c.args.topo.now c.requires.tree (c.tree_laws.ensures.laws c.args.topo.now.nodes c.requires.tree) c.args.h c.args.top c.down.at c.in-Steps.child c.down.len c.in-Steps.step c.down.steps c.down.invariant (rw c.in-Steps.is at c.in_ok-child.ensures.next)

pub returns-in-Arrives-clause-way : goal.returns-in-Arrives-clause-way
returns-in-Arrives-clause-way c =
    ends c.args.image.now c.args.topo.now c.requires.tree (c.tree_laws.ensures.laws c.args.topo.now.nodes c.requires.tree) c.args.h c.args.top c.down.at c.down.len c.down.steps (chain.Arrives (reached c.in-Arrives.byte)) c.down.invariant (rw c.in-Arrives.is at c.in_ok-child.ensures.next)
