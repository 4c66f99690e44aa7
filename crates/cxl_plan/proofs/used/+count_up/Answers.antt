use Rattle.std.proofs.Common.{Some, None, length, arith}
use Rattle.cxl_topo.proofs.Trees.{KnownTree, parent_is_port}
use Rattle.cxl_topo.proofs.There.{parent_there}
use Rattle.cxl_plan.proofs.Counting.{more, recounted, more_at_root, more_above}
use Rattle.cxl_enc.proofs.Options.{on_ok}
use Rattle.cxl_plan.proofs.used.+count_up.Goals as goal

pub count_up-requires : goal.count_up-requires
count_up-requires t c =
    let nodes = c.args.topo.now.nodes in
    let tree : KnownTree nodes = record { tree = c.count-count.ensures.tree; laws = c.tree_laws.ensures.laws nodes c.count-count.ensures.tree } in
    let up = parent_there nodes c.args.node c.node.result.now (Some c.in-Some.parent) c.node.ensures c.in-Some.is in
    let before = (parent_is_port tree c.args.node c.in-Some.parent up).0 in
    (omega (arith, c.decreases), (omega (arith, c.requires.here), c.in_ok-count_one.ensures.same))

pub returns-in-Some-clause-counted : goal.returns-in-Some-clause-counted
returns-in-Some-clause-counted t c =
    let nodes = c.args.topo.now.nodes in
    let tree : KnownTree nodes = record { tree = c.count-count.ensures.tree; laws = c.tree_laws.ensures.laws nodes c.count-count.ensures.tree } in
    let up = parent_there nodes c.args.node c.node.result.now (Some c.in-Some.parent) c.node.ensures c.in-Some.is in
    on_ok c.count_up.result _ _ c.count_up.ensures.counted
    (λ counted f known.
    recounted _ _ (length nodes) _ _ (more_above nodes tree f c.args.node c.in-Some.parent up) (counted (more f c.args.node) (c.in_ok-count_one.ensures.counted f (length nodes) c.requires.here known)))

pub returns-in-None-clause-counted : goal.returns-in-None-clause-counted
returns-in-None-clause-counted t c f known =
    let nodes = c.args.topo.now.nodes in
    let tree : KnownTree nodes = record { tree = c.count-count.ensures.tree; laws = c.tree_laws.ensures.laws nodes c.count-count.ensures.tree } in
    let none = parent_there nodes c.args.node c.node.result.now None c.node.ensures c.in-None.is in
    recounted _ _ (length nodes) _ _ (more_at_root nodes tree f c.args.node none) (c.in_ok-count_one.ensures.counted f (length nodes) c.requires.here known)
