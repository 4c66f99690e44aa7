use Rattle.std.proofs.Common.{◌≡◌, ◌∙◌, length, ap, subst}
use Rattle.cxl_topo.specs.Tree.{Tree, child_of}
use Rattle.cxl_topo.specs.declared.node.Parent.{Parent}
use Rattle.cxl_topo.specs.Faults.{IsTree}
use Rattle.cxl_topo.specs.Laws.{StandsAt}
use Rattle.cxl_topo.proofs.Finding.{child_is, answered}
use Rattle.cxl_topo.proofs.topo.Topo.child.Goals as goal

pub returns : goal.returns
returns c =
    let now = c.args.self.now in
    let parent : Parent = record { node = c.args.node; port = c.args.port } in
    let nodes = c.self.inside.nodes.items in
    let is : c.at.result ≡ child_of now.nodes c.args.node c.args.port = c.at.ensures (length nodes) nodes c.self.invariant.listed.children (rw (← c.self.view_is) at c.requires) ∙ ap (λ (tree : Tree). child_of tree.nodes c.args.node c.args.port) c.self.view_is in
    let tree : IsTree now.nodes = subst (λ (tree : Tree). IsTree tree.nodes) c.self.view_is c.self.invariant.tree in
    record {
      child = is;
      stands = answered c.at.result (child_of now.nodes c.args.node c.args.port) (StandsAt now.nodes c.args.node c.args.port) is (child_is now.nodes tree parent);
    }
