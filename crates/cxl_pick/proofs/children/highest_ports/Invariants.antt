use Rattle.std.proofs.Common.{◌≡◌, ℕ, ◌<◌, ◌≤◌, length, get_or, Some}
use Rattle.cxl_topo.specs.declared.node.Parent.{Parent}
use Rattle.cxl_topo.specs.Tree.{parent_of}
use Rattle.cxl_pick.proofs.children.highest_ports.Given as goal

abbrev pub invariant-loop-node : goal.invariant-loop-node
invariant-loop-node l =
    (length l.highest.items ≡ length l.topo.nodes)
    × ((c : ℕ) (parent : Parent) → c < l.node → parent_of l.topo.nodes c ≡ Some parent → parent.port ≤ get_or l.highest.items parent.node 0)
