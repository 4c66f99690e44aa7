-- Which nodes are a legal tree, and what is the first fault of others.
use Rattle.std.specs.Prelude.{◌≡◌, ℕ, ◌+◌, ◌*◌, ◌%◌, ◌<◌, ◌≤◌, ◌==◌, nat_lt, nat_le, Bool, false, not, ◌&&◌, ◌||◌, List, length, take, count_by, Some, None, is_some, IsTrue, slice_get, if◌then◌else◌}
use Rattle.std.specs.Option.{option_map_or}
use Rattle.cxl_enc.specs.Caps.{is_legal_cap}
use Rattle.cxl_enc.specs.Limits.{unit, address_limit, node_limit, bridge_limit, placeholder_cap}
use Rattle.cxl_topo.specs.declared.node.Node.{Node}
use Rattle.cxl_topo.specs.declared.node.Parent.{Parent}
use Rattle.cxl_topo.specs.declared.node.Capacity.{Capacity}
use Rattle.cxl_topo.specs.declared.fault.TreeFault.{TreeFault}
use Rattle.cxl_topo.specs.declared.fault.TreeFault.TheVariants as faults
use Rattle.cxl_topo.specs.Kinds.{is_bridge, is_switch, is_endpoint, uid_of, capacity_of}
use Rattle.cxl_topo.specs.Tree.{holds_at, forwards_at, is_bridge_at, is_switch_at, is_port_at, name_at, uid_at, node_named, bridge_with, child_of, least_child_of, parent_of, ports_above}

-- ---- what each fault says of a node, given the earlier nodes

-- a bridge with a parent, or another node without one or under what is no earlier bridge or switch
abbrev pub lacks_parent : List Node → Node → Bool
lacks_parent earlier node =
    if is_bridge node.kind then is_some node.parent
    else not (option_map_or (λ parent. is_port_at earlier parent.node) node.parent false)

-- an earlier node stands at the same port
abbrev pub has_taken_port : List Node → Node → Bool
has_taken_port earlier node = option_map_or (λ parent. is_some (child_of earlier parent.node parent.port)) node.parent false

-- the parent forwards, and has an earlier child
abbrev pub forks : List Node → Node → Bool
forks earlier node =
    option_map_or (λ parent. forwards_at earlier parent.node && is_some (least_child_of earlier parent.node)) node.parent false

-- an earlier node has the name
abbrev pub has_taken_name : List Node → Node → Bool
has_taken_name earlier node = is_some (node_named earlier node.name)

-- a bridge, with the UID of an earlier one
abbrev pub has_taken_uid : List Node → Node → Bool
has_taken_uid earlier node = option_map_or (λ uid. is_some (bridge_with earlier uid)) (uid_of node.kind) false

-- how many switches stand above node i
abbrev pub switches_above : List Node → ℕ → ℕ
switches_above nodes i = count_by (λ parent. is_switch_at nodes parent.node) (ports_above nodes i)

-- a switch, node i, with four switches above it
abbrev pub is_too_deep : List Node → ℕ → Node → Bool
is_too_deep nodes i node = is_switch node.kind && nat_le 4 (switches_above nodes i)

-- an illegal capability word, or a node that forwards and has another word than a placeholder's or is an endpoint
abbrev pub has_wrong_caps : Node → Bool
has_wrong_caps node =
    not (is_legal_cap node.cap (is_endpoint node.kind))
    || (node.forwards && (not (node.cap == placeholder_cap) || is_endpoint node.kind))

-- multiples of 256 MiB, and no more than 2 ^ 52 in all
abbrev pub is_capacity : Capacity → Bool
is_capacity c = (c.ram % unit == 0) && (c.pmem % unit == 0) && nat_le (c.ram + c.pmem) address_limit

-- an endpoint with another capacity
abbrev pub has_wrong_capacity : Node → Bool
has_wrong_capacity node = option_map_or (λ c. not (is_capacity c)) (capacity_of node.kind) false

-- ---- the first fault

-- more nodes or bridges than a topology may have
abbrev pub are_too_many : List Node → Bool
are_too_many nodes = nat_lt node_limit (length nodes) || nat_lt bridge_limit (count_by (λ node. is_bridge node.kind) nodes)

-- whether what a fault says holds of the nodes
abbrev pub fits : List Node → TreeFault → Bool
fits nodes faults.TooMany = are_too_many nodes
fits nodes (faults.NoParent i) = holds_at nodes i (lacks_parent (take i nodes))
fits nodes (faults.PortTaken i) = holds_at nodes i (has_taken_port (take i nodes))
fits nodes (faults.Forks i) = holds_at nodes i (forks (take i nodes))
fits nodes (faults.NameTaken i) = holds_at nodes i (has_taken_name (take i nodes))
fits nodes (faults.UidTaken i) = holds_at nodes i (has_taken_uid (take i nodes))
fits nodes (faults.Depth i) = holds_at nodes i (is_too_deep nodes i)
fits nodes (faults.Caps i) = holds_at nodes i has_wrong_caps
fits nodes (faults.Capacity i) = holds_at nodes i has_wrong_capacity
fits nodes faults.Memory = false

-- the order in which faults are tried: too many first, then node by node, eight for each
abbrev pub turn_of : TreeFault → ℕ
turn_of faults.TooMany = 0
turn_of (faults.NoParent i) = 8 * i + 1
turn_of (faults.PortTaken i) = 8 * i + 2
turn_of (faults.Forks i) = 8 * i + 3
turn_of (faults.NameTaken i) = 8 * i + 4
turn_of (faults.UidTaken i) = 8 * i + 5
turn_of (faults.Depth i) = 8 * i + 6
turn_of (faults.Caps i) = 8 * i + 7
turn_of (faults.Capacity i) = 8 * i + 8
turn_of faults.Memory = 0

-- what each fault says whose turn is below this one does not hold
abbrev pub NoneBefore : List Node → ℕ → Type 0
NoneBefore nodes turn = (fault : TreeFault) → turn_of fault < turn → fits nodes fault ≡ false

-- what the fault says holds, and nothing that comes before: by node, and then in the order of `turn_of`
pub record IsFirstTreeFault (nodes : List Node) (fault : TreeFault) : Type 0 where
  pub holds : IsTrue (fits nodes fault)
  pub first : NoneBefore nodes (turn_of fault)

-- ---- legal trees

-- the port is that of an earlier bridge or switch
pub record IsUnder (nodes : List Node) (i : ℕ) (parent : Parent) : Type 0 where
  pub earlier : parent.node < i
  pub port : IsTrue (is_port_at nodes parent.node)

-- a legal tree (which trees are legal is this project's rule)
pub record IsTree (nodes : List Node) : Type 0 where
  pub few_nodes : length nodes ≤ node_limit
  pub few_bridges : count_by (λ node. is_bridge node.kind) nodes ≤ bridge_limit
  -- a bridge has no parent, and any other node stands under an earlier bridge or switch
  pub bridges : (i : ℕ) → IsTrue (is_bridge_at nodes i) → parent_of nodes i ≡ None
  pub others : (i : ℕ) → i < length nodes → is_bridge_at nodes i ≡ false → (parent : Parent) × (parent_of nodes i ≡ Some parent) × IsUnder nodes i parent
  -- a port has one child, and a node that forwards has one child in all
  pub ports : (i j : ℕ) (parent : Parent) → parent_of nodes i ≡ Some parent → parent_of nodes j ≡ Some parent → i ≡ j
  pub forwarding : (i j : ℕ) (parent other : Parent) → parent_of nodes i ≡ Some parent → parent_of nodes j ≡ Some other → parent.node ≡ other.node → IsTrue (forwards_at nodes parent.node) → i ≡ j
  pub names : (i j : ℕ) (name : List ℕ) → name_at nodes i ≡ Some name → name_at nodes j ≡ Some name → i ≡ j
  pub uids : (i j uid : ℕ) → uid_at nodes i ≡ Some uid → uid_at nodes j ≡ Some uid → i ≡ j
  -- at most four switches in a row
  pub depths : (i : ℕ) → IsTrue (is_switch_at nodes i) → switches_above nodes i < 4
  -- capability words are legal, and a node that forwards has a placeholder's and is no endpoint
  pub caps : (i : ℕ) (node : Node) → slice_get nodes i ≡ Some node → IsTrue (is_legal_cap node.cap (is_endpoint node.kind))
  pub placeholders : (i : ℕ) (node : Node) → slice_get nodes i ≡ Some node → IsTrue node.forwards → (node.cap ≡ placeholder_cap) × (is_endpoint node.kind ≡ false)
  pub capacities : (i : ℕ) (node : Node) (capacity : Capacity) → slice_get nodes i ≡ Some node → capacity_of node.kind ≡ Some capacity → IsTrue (is_capacity capacity)
