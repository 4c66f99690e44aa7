use Rattle.std.proofs.Common.{ℕ, ◌<◌, Some, subst, sym}
use Rattle.cxl_topo.proofs.There.{parent_there}
use Rattle.cxl_topo.proofs.Trees.{KnownTree}
use Rattle.cxl_walk.proofs.Marks.{set_marked, more_way}
use Rattle.cxl_walk.proofs.marking.+mark_way.Goals as goal

pub returns-in-Some-clause-way : goal.returns-in-Some-clause-way
returns-in-Some-clause-way t c =
    let nodes = c.args.topo.now.nodes in
    let known : KnownTree nodes = record { tree = c.count-count.ensures.tree; laws = c.tree_laws.ensures.laws nodes c.count-count.ensures.tree } in
    let up = parent_there nodes c.args.node c.node.result.now (Some c.in-Some.parent) c.node.ensures c.in-Some.is in
    let within = subst (λ (n : ℕ). c.args.node < n) (sym c.requires.count) c.requires.here in
    more_way known c.mark_way.new.marks.items c.args.node c.in-Some.parent up (c.mark_way.ensures.kept c.args.node (set_marked c.args.marks.now.items c.args.node within)) c.mark_way.ensures.way
