use Rattle.std.proofs.Common.{arith}
use Rattle.cxl_topo.proofs.Decoding.{above, passes_on, lower, decodes_there, decodes_here}
use Rattle.cxl_topo.proofs.paths.decoding_port.Goals as goal

pub loop-at-init : goal.loop-at-init
loop-at-init c = above c.args.nodes.now c.requires.tree c.args.i c.index-nodes-i.result c.requires.below

pub returns-then-not-above-clause-port : goal.returns-then-not-above-clause-port
returns-then-not-above-clause-port c =
    let at = rw c.in-Some.is at c.loop-at.invariant in
    let low = at.low in
    decodes_here c.args.nodes.now c.requires.tree c.args.i c.in-Some.parent c.index-nodes-parent.result c.index-nodes-parent.is (omega (arith, c.requires.below)) at c.if-not-above.true

pub returns-then-not-above-clause-decodes : goal.returns-then-not-above-clause-decodes
returns-then-not-above-clause-decodes c =
    let at = rw c.in-Some.is at c.loop-at.invariant in
    let low = at.low in
    decodes_there c.args.nodes.now c.requires.tree c.args.i c.in-Some.parent c.index-nodes-parent.result c.index-nodes-parent.is (omega (arith, c.requires.below)) at c.if-not-above.true

pub loop-at-smaller : goal.loop-at-smaller
loop-at-smaller c =
    let at = rw c.in-Some.is at c.loop-at.invariant in
    let low = at.low in
    rw c.in-Some.is (lower c.args.nodes.now c.requires.tree c.args.i c.in-Some.parent c.index-nodes-parent.result c.index-nodes-parent.is (omega (arith, c.requires.below)) at)

pub loop-at-preserved : goal.loop-at-preserved
loop-at-preserved c =
    let at = rw c.in-Some.is at c.loop-at.invariant in
    let low = at.low in
    passes_on c.args.nodes.now c.requires.tree c.args.i c.in-Some.parent c.index-nodes-parent.result c.index-nodes-parent.is (omega (arith, c.requires.below)) at c.if-not-above.false
