use Rattle.std.proofs.Common.{arith}
use Rattle.cxl_topo.proofs.Judged.{parent_before, deep_by_len, NoneBefore-less}
use Rattle.cxl_topo.proofs.judge.is_too_deep.Goals as goal

pub path_to-requires-clause-below : goal.path_to-requires-clause-below
path_to-requires-clause-below c =
    let earlier = parent_before c.args.nodes.now c.args.i c.args.node.now c.in-Switch-Some.parent c.requires.sound c.requires.here c.in-Switch-Some.is-1 in
    omega (arith, c.requires.below)

pub path_to-requires-clause-sound : goal.path_to-requires-clause-sound
path_to-requires-clause-sound c =
    let earlier = parent_before c.args.nodes.now c.args.i c.args.node.now c.in-Switch-Some.parent c.requires.sound c.requires.here c.in-Switch-Some.is-1 in
    NoneBefore-less c.args.nodes.now _ _ (omega arith) c.requires.sound

pub returns-in-Switch-Some : goal.returns-in-Switch-Some
returns-in-Switch-Some c = rw c.path_to.ensures.len (deep_by_len c.args.nodes.now c.args.i c.args.node.now c.in-Switch-Some.parent c.requires.sound c.requires.here c.in-Switch-Some.is-0 c.in-Switch-Some.is-1)
