-- A tree as the list of its nodes: who stands where, paths up and paths down.
use Rattle.std.specs.Prelude.{◌≡◌, ℕ, zero, suc, IsTrue, ◌==◌, Bool, false, not, ◌&&◌, List, [], ◌∷◌, length, map, reverse, position, find, Option, Some, None, option_map, slice_get, if◌then◌else◌}
use Rattle.std.specs.List.{filter_map}
use Rattle.std.specs.Option.{option_and_then, option_map_or}
use Rattle.std.specs.Str.{bytes_eq}
use Rattle.cxl_topo.specs.declared.node.Node.{Node}
use Rattle.cxl_topo.specs.declared.node.Parent.{Parent}
use Rattle.cxl_topo.specs.declared.node.Capacity.{Capacity}
use Rattle.cxl_topo.specs.Kinds.{is_bridge, is_switch, is_endpoint, uid_of, capacity_of}

-- a topology: its nodes, and how many frames of 256 bytes its devices have
pub record Tree : Type 0 where
  pub nodes : List Node
  pub frames : ℕ

-- whether the test holds of node i; it does not where there is no such node
abbrev pub holds_at : List Node → ℕ → (Node → Bool) → Bool
holds_at nodes i test = option_map_or test (slice_get nodes i) false

-- node i forwards
abbrev pub forwards_at : List Node → ℕ → Bool
forwards_at nodes i = holds_at nodes i (λ node. node.forwards)

-- node i is a host bridge
abbrev pub is_bridge_at : List Node → ℕ → Bool
is_bridge_at nodes i = holds_at nodes i (λ node. is_bridge node.kind)

-- node i is a switch
abbrev pub is_switch_at : List Node → ℕ → Bool
is_switch_at nodes i = holds_at nodes i (λ node. is_switch node.kind)

-- node i is an endpoint
abbrev pub is_endpoint_at : List Node → ℕ → Bool
is_endpoint_at nodes i = holds_at nodes i (λ node. is_endpoint node.kind)

-- whether node i is a bridge or a switch
abbrev pub is_port_at : List Node → ℕ → Bool
is_port_at nodes i = holds_at nodes i (λ node. not (is_endpoint node.kind))

-- the name of node i
abbrev pub name_at : List Node → ℕ → Option (List ℕ)
name_at nodes i = option_map (λ node. node.name) (slice_get nodes i)

-- the UID of node i, where it is a bridge
abbrev pub uid_at : List Node → ℕ → Option ℕ
uid_at nodes i = option_and_then (λ node. uid_of node.kind) (slice_get nodes i)

-- the capacity of node i, where it is an endpoint
abbrev pub device_at : List Node → ℕ → Option Capacity
device_at nodes i = option_and_then (λ node. capacity_of node.kind) (slice_get nodes i)

-- the bytes of volatile memory of its device; a port has none
abbrev pub device_ram : List Node → ℕ → ℕ
device_ram nodes i = option_map_or (λ c. c.ram) (device_at nodes i) 0

-- the bytes of persistent memory of its device; a port has none
abbrev pub device_pmem : List Node → ℕ → ℕ
device_pmem nodes i = option_map_or (λ c. c.pmem) (device_at nodes i) 0

-- the parent of node i, with the port there
abbrev pub parent_of : List Node → ℕ → Option Parent
parent_of nodes i = option_and_then (λ node. node.parent) (slice_get nodes i)

-- ---- finding a node

-- the node has this name
abbrev pub is_named : List ℕ → Node → Bool
is_named name node = bytes_eq node.name name

-- the node with this name
abbrev pub node_named : List Node → List ℕ → Option ℕ
node_named nodes name = position (is_named name) nodes

-- the endpoint with this name
abbrev pub endpoint_named : List Node → List ℕ → Option ℕ
endpoint_named nodes name = position (λ node. is_endpoint node.kind && is_named name node) nodes

-- the node is the bridge of this UID
abbrev pub is_bridge_with : ℕ → Node → Bool
is_bridge_with uid node = option_map_or (λ own. own == uid) (uid_of node.kind) false

-- the bridge with this UID
abbrev pub bridge_with : List Node → ℕ → Option ℕ
bridge_with nodes uid = position (is_bridge_with uid) nodes

-- the UIDs of the bridges, in node order
abbrev pub bridge_uids : List Node → List ℕ
bridge_uids nodes = filter_map (λ node. uid_of node.kind) nodes

-- whether a node's parent is node n, at port p
abbrev pub stands_at : ℕ → ℕ → Node → Bool
stands_at n p node = option_map_or (λ parent. (parent.node == n) && (parent.port == p)) node.parent false

-- the child of node n at port p
abbrev pub child_of : List Node → ℕ → ℕ → Option ℕ
child_of nodes n p = position (stands_at n p) nodes

-- whether a node's parent is node n
abbrev pub stands_under : ℕ → Node → Bool
stands_under n node = option_map_or (λ parent. parent.node == n) node.parent false

-- the child of node n that has the least number
abbrev pub least_child_of : List Node → ℕ → Option ℕ
least_child_of nodes n = position (stands_under n) nodes

-- ---- paths up

-- this port, the port above it, and so on, n of them at the most
abbrev pub ports_up : ℕ → List Node → Option Parent → List Parent
ports_up zero nodes parent = []
ports_up (suc n) nodes None = []
ports_up (suc n) nodes (Some parent) = parent ∷ ports_up n nodes (parent_of nodes parent.node)

-- the ports on the way from node i up to its bridge, nearest first; there are at most i, since a parent comes before its child
abbrev pub ports_above : List Node → ℕ → List Parent
ports_above nodes i = ports_up i nodes (parent_of nodes i)

-- the nodes from its bridge down to node i
abbrev pub path_of : List Node → ℕ → List ℕ
path_of nodes i = reverse (i ∷ map (λ parent. parent.node) (ports_above nodes i))

-- each node of the list is the parent of the next, and the last is i
abbrev pub GoesDownTo : List Node → ℕ → List ℕ → Type 0
GoesDownTo nodes i [] = ⊥
GoesDownTo nodes i (n ∷ []) = n ≡ i
GoesDownTo nodes i (n ∷ m ∷ ns) = (option_map (λ parent. parent.node) (parent_of nodes m) ≡ Some n) × GoesDownTo nodes i (m ∷ ns)

-- the list from its bridge down to node i
pub record IsPathTo (nodes : List Node) (i : ℕ) (path : List ℕ) : Type 0 where
  pub bridge : (n : ℕ) × (slice_get path 0 ≡ Some n) × IsTrue (is_bridge_at nodes n)
  pub leads : GoesDownTo nodes i path

-- the first port above node i whose node does not forward
abbrev pub decoding_port_of : List Node → ℕ → Option Parent
decoding_port_of nodes i = find (λ parent. not (forwards_at nodes parent.node)) (ports_above nodes i)

-- the nearest node above node i that does not forward
abbrev pub decoding_parent_of : List Node → ℕ → Option ℕ
decoding_parent_of nodes i = option_map (λ parent. parent.node) (decoding_port_of nodes i)

-- the port at which the path of node i leaves its decoding parent
abbrev pub leading_port_of : List Node → ℕ → Option ℕ
leading_port_of nodes i = option_map (λ parent. parent.port) (decoding_port_of nodes i)

-- ---- paths down

-- the landing of node n, over fewer than k nodes that forward
abbrev pub landing_within : ℕ → List Node → ℕ → Option ℕ
landing_within zero nodes n = None
landing_within (suc k) nodes n =
    if forwards_at nodes n then option_and_then (landing_within k nodes) (least_child_of nodes n) else Some n

-- node n itself where it does not forward, else the landing of its only child, and nothing where it has no child (this
-- project's rule for host bridges and switches that pass every address on to a single port)
abbrev pub landing_of : List Node → ℕ → Option ℕ
landing_of nodes n = landing_within (length nodes) nodes n
