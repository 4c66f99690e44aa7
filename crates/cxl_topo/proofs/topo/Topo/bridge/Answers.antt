use Rattle.std.proofs.Common.{◌≡◌, ℕ, Some, ◌∙◌, ap, subst}
use Rattle.cxl_topo.specs.Tree.{Tree, bridge_with, uid_at}
use Rattle.cxl_topo.specs.Faults.{IsTree}
use Rattle.cxl_topo.proofs.Finding.{bridge_is, answered}
use Rattle.cxl_topo.proofs.topo.Topo.bridge.Goals as goal

pub returns : goal.returns
returns c =
    let now = c.args.self.now in
    let uid = c.args.uid in
    let is : c.copied.result ≡ bridge_with now.nodes uid = c.copied.ensures ∙ c.get.ensures.value ∙ c.self.invariant.listed.bridges uid ∙ ap (λ (tree : Tree). bridge_with tree.nodes uid) c.self.view_is in
    let tree : IsTree now.nodes = subst (λ (tree : Tree). IsTree tree.nodes) c.self.view_is c.self.invariant.tree in
    record {
      bridge = is;
      owns = answered c.copied.result (bridge_with now.nodes uid) (λ (i : ℕ). uid_at now.nodes i ≡ Some uid) is (bridge_is now.nodes tree uid);
    }
