-- What reading a host after reset comes to: a table and a topology, each read before the next is asked for.
use Rattle.std.specs.Prelude.{ℕ, List, [], ◌∷◌}
use Rattle.cxl_table.specs.CedtFields.{CedtFields}
use Rattle.cxl_image.specs.Images.{reset_blocks}
use Rattle.cxl_io.specs.Fetch.{FetchState}
use Rattle.cxl_io.specs.Told.{Told}
use Rattle.cxl_model.specs.System.{System}
use Rattle.cxl_topo.specs.Tree.{Tree}
use Rattle.cxl_inputs.specs.Host.{host_of}
use Rattle.cxl_inputs.specs.Outcome.{Outcome}
use Rattle.cxl_inputs.specs.Table.{IsTableOf, HasNoTable}
use Rattle.cxl_inputs.specs.Topology.{IsTreeOf, HasNoTree}

-- the image after reset over the tree, with the table's windows as the tree's bridges make them
abbrev pub reset_host_of : CedtFields → Tree → System
reset_host_of table tree = host_of table tree (reset_blocks tree.nodes)

-- the files are read as this table and this tree
pub record AreBothRead (told : List ℕ → Told) (cedt topo : List ℕ) (table : CedtFields) (tree : Tree) : Type 0 where
  pub of_table : IsTableOf (told cedt) table
  pub of_tree : IsTreeOf (told topo) tree

-- one of the files gives no bytes, or bytes that have a fault
pub data HasNoResetHost (cedt topo : List ℕ) (old new : FetchState) (outcome : Outcome) : Type 0 where
  no_table : HasNoTable cedt old new outcome → HasNoResetHost cedt topo old new outcome
  no_tree : (table : CedtFields) → IsTableOf (old.told cedt) table → HasNoTree (cedt ∷ []) topo old new outcome → HasNoResetHost cedt topo old new outcome

-- the outcome is that of the first file without a reading, or `IsAnswer` says it of what the two are read as
pub data IsByResetHost (cedt topo : List ℕ) (old new : FetchState) (IsAnswer : CedtFields → Tree → Outcome → Type 0) (outcome : Outcome) : Type 0 where
  no_reset_host : HasNoResetHost cedt topo old new outcome → IsByResetHost cedt topo old new IsAnswer outcome
  by_reset_host : (table : CedtFields) (tree : Tree) → AreBothRead old.told cedt topo table tree → IsAnswer table tree outcome → IsByResetHost cedt topo old new IsAnswer outcome
