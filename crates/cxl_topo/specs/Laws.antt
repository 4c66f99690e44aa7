-- What follows of legal trees.
use Rattle.std.specs.Prelude.{◌≡◌, ℕ, ◌<◌, ◌≤◌, ◌↔◌, List, [], ◌∷◌, length, Some, option_map, IsTrue, if◌then◌else◌}
use Rattle.std.specs.Option.{option_and_then, option_map_or}
use Rattle.cxl_topo.specs.declared.node.Node.{Node}
use Rattle.cxl_topo.specs.Tree.{forwards_at, name_at, uid_at, parent_of, node_named, bridge_with, child_of, least_child_of, ports_above, path_of, IsPathTo, landing_of}

-- node c stands at port p of node n
abbrev pub StandsAt : List Node → ℕ → ℕ → ℕ → Type 0
StandsAt nodes n p c = parent_of nodes c ≡ Some (record { node = n; port = p })

-- node c is a child of node n
abbrev pub StandsBelow : List Node → ℕ → ℕ → Type 0
StandsBelow nodes n c = option_map (λ parent. parent.node) (parent_of nodes c) ≡ Some n

-- what is found, and paths up and down one node at a time
pub record AreTreeLaws (nodes : List Node) : Type 0 where
  pub children : (n p c : ℕ) → (child_of nodes n p ≡ Some c) ↔ StandsAt nodes n p c
  pub only_children : (n c : ℕ) → IsTrue (forwards_at nodes n) → (least_child_of nodes n ≡ Some c) ↔ StandsBelow nodes n c
  pub names : (name : List ℕ) (i : ℕ) → (node_named nodes name ≡ Some i) ↔ (name_at nodes i ≡ Some name)
  pub bridges : (uid i : ℕ) → (bridge_with nodes uid ≡ Some i) ↔ (uid_at nodes i ≡ Some uid)
  pub ports : (i : ℕ) → ports_above nodes i ≡ option_map_or (λ parent. parent ∷ ports_above nodes parent.node) (parent_of nodes i) []
  pub few_ports : (i : ℕ) → length (ports_above nodes i) ≤ 5
  pub paths : (i : ℕ) → i < length nodes → IsPathTo nodes i (path_of nodes i)
  pub landings : (n : ℕ) → n < length nodes → landing_of nodes n ≡ (if forwards_at nodes n then option_and_then (landing_of nodes) (least_child_of nodes n) else Some n)
