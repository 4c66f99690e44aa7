use Rattle.std.proofs.Common.{sym, ◌∙◌, length, arith}
use Rattle.cxl_topo.proofs.PathsDown.{child_later, lands_further, lands_here, lands_nowhere}
use Rattle.cxl_topo.proofs.paths.landing.Goals as goal

pub loop-at-smaller : goal.loop-at-smaller
loop-at-smaller c =
    let child = sym (c.least.ensures.child (length c.args.nodes.now) c.args.nodes.now c.requires.listed c.loop-at.invariant.below) ∙ c.in_ok-at.was in
    let next = child_later c.args.nodes.now c.requires.tree c.loop-at.at c.in_ok-at.at child in
    let later = next.later in
    let below = next.below in
    omega arith

pub loop-at-preserved : goal.loop-at-preserved
loop-at-preserved c =
    let child = sym (c.least.ensures.child (length c.args.nodes.now) c.args.nodes.now c.requires.listed c.loop-at.invariant.below) ∙ c.in_ok-at.was in
    let next = child_later c.args.nodes.now c.requires.tree c.loop-at.at c.in_ok-at.at child in
    record {
      below = next.below;
      same = lands_further c.args.nodes.now c.requires.tree c.loop-at.at c.in_ok-at.at c.index-nodes-at.result c.loop-at.invariant.below c.loop-at-test.true child ∙ c.loop-at.invariant.same;
    }

pub returns : goal.returns
returns c = sym (lands_here c.args.nodes.now c.requires.tree c.loop-at.at c.index-nodes-at.result c.loop-at.invariant.below c.loop-at-test.false) ∙ c.loop-at.invariant.same

pub returns-in_err-at : goal.returns-in_err-at
returns-in_err-at c =
    let none = sym (c.least.ensures.child (length c.args.nodes.now) c.args.nodes.now c.requires.listed c.loop-at.invariant.below) ∙ c.in_err-at.was in
    c.from_residual.ensures ∙ sym (lands_nowhere c.args.nodes.now c.requires.tree c.loop-at.at c.index-nodes-at.result c.loop-at.invariant.below c.loop-at-test.true none) ∙ c.loop-at.invariant.same
