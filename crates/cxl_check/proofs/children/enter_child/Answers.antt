use Rattle.std.proofs.Common.{◌≡◌, ℕ, ◌+◌, ◌*◌, ◌≤◌, List, Option, Some, set, ap, sym, subst, ◌∙◌, arith}
use Rattle.std.proofs.lemmas.Option.{same_Some}
use Rattle.cxl_topo.specs.declared.node.Parent.{Parent}
use Rattle.cxl_topo.proofs.There.{parent_there}
use Rattle.cxl_topo.proofs.Trees.{KnownTree, parent_is_port}
use Rattle.cxl_check.proofs.Entering.{none_more, one_more}
use Rattle.cxl_check.proofs.children.enter_child.Goals as goal

pub returns-then-parent-ge8 : goal.returns-then-parent-ge8
returns-then-parent-ge8 c =
    let nodes = c.args.topo.now.nodes in
    let known : KnownTree nodes = record { tree = c.count-count.ensures.tree; laws = c.tree_laws.ensures.laws nodes c.count-count.ensures.tree } in
    let own = parent_there nodes c.args.node c.node.result.now (Some c.in-Some.parent) c.node.ensures c.in-Some.is in
    none_more nodes known c.args.node c.args.children.now.items c.requires.entered
    (λ parent up. subst (λ (p : Parent). 8 ≤ p.port) (same_Some c.in-Some.parent parent (sym own ∙ up)) c.if-parent-ge8.true)

pub index_mut-requires : goal.index_mut-requires
index_mut-requires c =
    let nodes = c.args.topo.now.nodes in
    let known : KnownTree nodes = record { tree = c.count-count.ensures.tree; laws = c.tree_laws.ensures.laws nodes c.count-count.ensures.tree } in
    let own = parent_there nodes c.args.node c.node.result.now (Some c.in-Some.parent) c.node.ensures c.in-Some.is in
    let before = (parent_is_port known c.args.node c.in-Some.parent own).0 in
    let count = c.requires.entered.count in
    let long = c.args.children.now.ok.0 in
    omega (arith, before, count, long)

pub returns : goal.returns
returns c =
    let nodes = c.args.topo.now.nodes in
    let known : KnownTree nodes = record { tree = c.count-count.ensures.tree; laws = c.tree_laws.ensures.laws nodes c.count-count.ensures.tree } in
    let parent : Parent = c.in-Some.parent in
    let own = parent_there nodes c.args.node c.node.result.now (Some parent) c.node.ensures c.in-Some.is in
    let before = (parent_is_port known c.args.node parent own).0 in
    let old : List (Option ℕ) = c.args.children.now.items in
    let place : 8 * parent.node + c.from.result ≡ 8 * parent.node + parent.port = omega arith in
    one_more nodes known c.args.node parent old (set old (8 * parent.node + c.from.result) (Some c.args.node)) c.requires.entered own c.if-parent-ge8.false (omega (arith, before))
    (ap (λ (k : ℕ). set old k (Some c.args.node)) place)
