use Rattle.std.proofs.Common.{◌≡◌, ◌∙◌, length, ap, subst}
use Rattle.cxl_topo.specs.Tree.{Tree, least_child_of}
use Rattle.cxl_topo.specs.Faults.{IsTree}
use Rattle.cxl_topo.specs.Laws.{StandsBelow}
use Rattle.cxl_topo.proofs.PathsDown.{least_or_none}
use Rattle.cxl_topo.proofs.Finding.{is_below, is_least, if_found, at_most}
use Rattle.cxl_topo.proofs.topo.Topo.least_child.Goals as goal

pub returns : goal.returns
returns c =
    let now = c.args.self.now in
    let n = c.args.node in
    let nodes = c.self.inside.nodes.items in
    let listed = c.self.invariant.listed.children in
    let found : c.least.result ≡ least_child_of nodes n = least_or_none nodes c.self.invariant.tree n c.least.result (c.least.ensures.child (length nodes) nodes listed) (c.least.ensures.beyond (length nodes) nodes listed) in
    let is : c.least.result ≡ least_child_of now.nodes n = found ∙ ap (λ (tree : Tree). least_child_of tree.nodes n) c.self.view_is in
    let tree : IsTree now.nodes = subst (λ (tree : Tree). IsTree tree.nodes) c.self.view_is c.self.invariant.tree in
    record {
      child = is;
      below = if_found c.least.result (least_child_of now.nodes n) (StandsBelow now.nodes n) is (is_below now.nodes tree n);
      least = λ k stands. at_most c.least.result (least_child_of now.nodes n) k is (is_least now.nodes tree n k stands);
    }
