use Rattle.std.proofs.Common.{◌≡◌, ℕ, Some, ◌∙◌, ap, subst}
use Rattle.cxl_topo.specs.Tree.{Tree, node_named, name_at}
use Rattle.cxl_topo.specs.Faults.{IsTree}
use Rattle.cxl_topo.proofs.Finding.{name_is, answered}
use Rattle.cxl_topo.proofs.topo.Topo.find.Goals as goal

pub returns : goal.returns
returns c =
    let now = c.args.self.now in
    let name = c.args.name.now in
    let is : c.copied.result ≡ node_named now.nodes name = c.copied.ensures ∙ c.get.ensures.value ∙ rw c.of.ensures.key (c.self.invariant.listed.names name c.of.ensures.name) ∙ ap (λ (tree : Tree). node_named tree.nodes name) c.self.view_is in
    let tree : IsTree now.nodes = subst (λ (tree : Tree). IsTree tree.nodes) c.self.view_is c.self.invariant.tree in
    record {
      found = is;
      named = answered c.copied.result (node_named now.nodes name) (λ (i : ℕ). name_at now.nodes i ≡ Some name) is (name_is now.nodes tree name);
    }
