-- The table of children.
use Rattle.std.specs.Prelude.{◌≡◌, ℕ, ◌*◌, ◌/◌, ◌%◌, ◌<◌, nat_lt, List, length, get_or, Option, Some, None, if◌then◌else◌}
use Rattle.std.specs.Option.{option_and_then}
use Rattle.cxl_topo.specs.declared.node.Node.{Node}
use Rattle.cxl_topo.specs.Tree.{child_of}

-- what it is, where it is a number below this one
abbrev pub if_below : ℕ → Option ℕ → Option ℕ
if_below bound child = option_and_then (λ c. if nat_lt c bound then Some c else None) child

-- the children below this number are entered at the first eight ports of nodes, node by node
pub record AreEntered (nodes : List Node) (bound : ℕ) (children : List (Option ℕ)) : Type 0 where
  pub count : length children ≡ 8 * length nodes
  pub each : (k : ℕ) → k < 8 * length nodes → get_or children k None ≡ if_below bound (child_of nodes (k / 8) (k % 8))

-- all nodes have theirs
pub record AreAllChildren (nodes : List Node) (children : List (Option ℕ)) : Type 0 where
  pub count : length children ≡ 8 * length nodes
  pub each : (k : ℕ) → k < 8 * length nodes → get_or children k None ≡ child_of nodes (k / 8) (k % 8)
