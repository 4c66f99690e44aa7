use Rattle.std.proofs.Common.{◌≡◌, ◌≢◌, ◌∙◌, ap, Some}
use Rattle.std.proofs.lemmas.Result.{on_ok_weaker, IfErr-weaker}
use Rattle.cxl_topo.specs.declared.fault.TreeFault.TheVariants.{Memory}
use Rattle.cxl_topo.specs.Faults.{IsFirstTreeFault}
use Rattle.cxl_topo.specs.inner.Judging.{first_of, tests_of}
use Rattle.cxl_topo.proofs.Judged.{none_at, some_at, node_is}
use Rattle.cxl_topo.proofs.There.{node_there}
use Rattle.cxl_topo.proofs.judge.judge.Goals as goal

pub returns-clause-none : goal.returns-clause-none
returns-clause-none c =
    let nodes = c.args.nodes.now in
    let node = c.index-nodes-i in
    let there = node_there nodes c.args.i c.requires.below in
    let same = node_is nodes c.args.i there.0 node.result c.requires.below node.is there.1 in
    on_ok_weaker c.admit.result (none_at nodes c.args.i node.result (there.1 ∙ ap Some same) c.requires.earlier) c.admit.ensures.none

pub returns-clause-fault : goal.returns-clause-fault
returns-clause-fault c =
    let nodes = c.args.nodes.now in
    let node = c.index-nodes-i in
    let there = node_there nodes c.args.i c.requires.below in
    let same = node_is nodes c.args.i there.0 node.result c.requires.below node.is there.1 in
    IfErr-weaker c.admit.result (λ fault. fault ≢ Memory → first_of (tests_of nodes c.args.i node.result) ≡ Some fault) (λ fault. fault ≢ Memory → IsFirstTreeFault nodes fault)
    (λ fault holds other. some_at nodes c.args.i node.result (there.1 ∙ ap Some same) c.requires.earlier fault (holds other)) c.admit.ensures.fault
