use Rattle.std.proofs.Common.{◌≡◌, ℕ, ◌*◌, length, ap, arith, rules}
use Rattle.cxl_topo.proofs.Trees.{KnownTree}
use Rattle.cxl_check.proofs.Entering.{none_entered, all_entered}
use Rattle.cxl_check.proofs.children.all_children.Goals as goal

pub returns : goal.returns
returns c =
    let nodes = c.args.topo.now.nodes in
    let tree = c.count-count.ensures.tree in
    let known : KnownTree nodes = record { tree = tree; laws = c.tree_laws.ensures.laws nodes tree } in
    let whole : c.loop-node.node ≡ length nodes = omega (arith, c.count-node-end.ensures.count) in
    all_entered nodes known c.loop-node.children.items (rw whole at c.loop-node.invariant)

pub loop-node-init : goal.loop-node-init
loop-node-init c = none_entered c.args.topo.now.nodes (8 * c.count-count.result) c.in_ok-children.children.items (ap (λ (n : ℕ). 8 * n) c.count-count.ensures.count) (c.in_ok-children.ensures.items_if_clones_equal (search rules))
