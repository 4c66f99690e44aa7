-- What leads to a used node is used.
use Rattle.std.proofs.Common.{◌≡◌, ℕ, true, List, Some}
use Rattle.std.specs.List.{list_any}
use Rattle.cxl_enc.proofs.Lists.{list_any-weaker}
use Rattle.cxl_topo.specs.declared.node.Node.{Node}
use Rattle.cxl_topo.specs.declared.node.Parent.{Parent}
use Rattle.cxl_topo.specs.Tree.{parent_of}
use Rattle.cxl_topo.proofs.Trees.{KnownTree}
use Rattle.cxl_model.specs.Counts.{is_under}
use Rattle.cxl_model.proofs.Under.{under_parent}

-- a used node's parent is used
pub parent_used : {nodes : List Node} → KnownTree nodes → (endpoints : List ℕ) (c : ℕ) (p : Parent) → parent_of nodes c ≡ Some p → list_any (is_under nodes c) endpoints ≡ true → list_any (is_under nodes p.node) endpoints ≡ true
parent_used {nodes} known endpoints c p up used = list_any-weaker (is_under nodes c) (is_under nodes p.node) (under_parent known c p up) endpoints used
