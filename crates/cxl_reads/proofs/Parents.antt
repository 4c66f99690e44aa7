-- The node above a node of a tree is one of the tree.
use Rattle.std.proofs.Common.{◌≡◌, ℕ, ◌<◌, List, length, Option, None, Some, refl, arith}
use Rattle.std.specs.Prelude.{slice_get, IfSome}
use Rattle.cxl_topo.specs.declared.node.Node.{Node}
use Rattle.cxl_topo.specs.declared.node.Parent.{Parent}
use Rattle.cxl_topo.proofs.Trees.{KnownTree, parent_is_port}
use Rattle.std.proofs.lemmas.Option.{slice_get_within}

pub parent_inside : {nodes : List Node} → KnownTree nodes → (i : ℕ) (node : Node) → slice_get nodes i ≡ Some node → IfSome node.parent (λ above. above.node < length nodes)
parent_inside {nodes = nodes} known i node there = go node.parent refl
  where
    go : (o : Option Parent) → node.parent ≡ o → IfSome o (λ above. above.node < length nodes)
    go None e = tt
    go (Some above) e =
        let within : i < length nodes = slice_get_within nodes i node there in
        let lower = (parent_is_port known i above (rw there e)).0 in
        omega (arith, lower, within)
