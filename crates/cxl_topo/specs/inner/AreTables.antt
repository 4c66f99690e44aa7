-- What the tables of a tree say of its nodes, together.
use Rattle.std.specs.Prelude.{◌≡◌, ℕ, List}
use Rattle.cxl_topo.specs.declared.node.Node.{Node}
use Rattle.cxl_topo.specs.declared.tables.Tables.{Tables}
use Rattle.cxl_topo.specs.Tree.{bridge_uids}
use Rattle.cxl_topo.specs.inner.Tables.{ListsChildren, ListsNames, ListsBridges}

-- each table lists what a search over the nodes would find, and has room for the children of so many
pub record AreTables (count : ℕ) (nodes : List Node) (tables : Tables) : Type 0 where
  pub children : ListsChildren count nodes tables.children
  pub names : ListsNames nodes tables.names
  pub bridges : ListsBridges nodes tables.bridges
  pub uids : tables.uids.items ≡ bridge_uids nodes
