-- What the tables of a tree say of its nodes.
use Rattle.std.specs.Prelude.{◌≡◌, ℕ, ◌+◌, ◌*◌, ◌<◌, ◌≤◌, List, length, slice_get, Some}
use Rattle.std.specs.declared.cmp.Ordering.{Ordering}
use Rattle.std.specs.Ordering.{nat_cmp, on, then_cmp}
use Rattle.std.specs.BTreeMap.{BTreeMap, get}
use Rattle.std.specs.HashMap.{HashMap}
use Rattle.std.specs.HashMap as hash
use Rattle.cxl_enc.specs.Name.{IsName}
use Rattle.cxl_topo.specs.declared.children.Children.{Children}
use Rattle.cxl_topo.specs.declared.node.Node.{Node}
use Rattle.cxl_topo.specs.declared.node.Parent.{Parent}
use Rattle.cxl_topo.specs.declared.tables.NameKey.{NameKey}
use Rattle.cxl_topo.specs.Keys.{name_key, name_eq}
use Rattle.cxl_topo.specs.Tree.{node_named, bridge_with, child_of, least_child_of}

-- the order of ports: by node, then by port
abbrev pub port_cmp : Parent → Parent → Ordering
port_cmp = then_cmp (on (λ parent. parent.node) nat_cmp) (on (λ parent. parent.port) nat_cmp)

-- the children of so many nodes are those that a search over the nodes would find
pub record ListsChildren (count : ℕ) (nodes : List Node) (children : Children) : Type 0 where
  -- at each of the first eight ports, and at further ones
  pub near : (n p : ℕ) → n < count → p < 8 → slice_get children.near.items (8 * n + p) ≡ Some (child_of nodes n p)
  pub far : (parent : Parent) → 8 ≤ parent.port → get port_cmp children.far parent ≡ child_of nodes parent.node parent.port
  -- the one with the least number
  pub least : (n : ℕ) → n < count → slice_get children.least.items n ≡ Some (least_child_of nodes n)
  pub whole : length children.least.items ≡ count

-- what a search for a name would find, the table finds
abbrev pub ListsNames : {S : Type 0} → List Node → HashMap NameKey ℕ S → Type 0
ListsNames nodes table = (name : List ℕ) → IsName name → hash.get name_eq table (name_key name) ≡ node_named nodes name

-- and that of the bridges' UIDs
abbrev pub ListsBridges : List Node → BTreeMap ℕ ℕ → Type 0
ListsBridges nodes table = (uid : ℕ) → get nat_cmp table uid ≡ bridge_with nodes uid
