-- What reading a host comes to: a table, a topology and an image, each read before the next is asked for.
use Rattle.std.specs.Prelude.{ℕ, Some, List, [], ◌∷◌}
use Rattle.cxl_table.specs.CedtFields.{CedtFields}
use Rattle.cxl_io.specs.Fetch.{FetchState}
use Rattle.cxl_io.specs.Told.{Told}
use Rattle.cxl_model.specs.System.{System, system_of, bridge_uids}
use Rattle.cxl_regs.specs.Registers.{Registers}
use Rattle.cxl_topo.specs.Tree.{Tree}
use Rattle.cxl_window.specs.Windows.{windows_of}
use Rattle.cxl_inputs.specs.Image.{IsImageOf, HasNoImage}
use Rattle.cxl_inputs.specs.Outcome.{Outcome}
use Rattle.cxl_inputs.specs.Table.{IsTableOf, HasNoTable}
use Rattle.cxl_inputs.specs.Topology.{IsTreeOf, HasNoTree}

-- the image over the tree, with the table's windows as the tree's bridges make them
abbrev pub host_of : CedtFields → Tree → List Registers → System
host_of table tree blocks = system_of blocks tree (windows_of table.records (Some (bridge_uids tree.nodes)))

-- the files are read as this table, this tree, and this image over it
pub record AreRead (told : List ℕ → Told) (cedt topo image : List ℕ) (table : CedtFields) (tree : Tree) (blocks : List Registers) : Type 0 where
  pub of_table : IsTableOf (told cedt) table
  pub of_tree : IsTreeOf (told topo) tree
  pub of_image : IsImageOf (told image) tree.nodes blocks

-- one of the files gives no bytes, or bytes that have a fault
pub data HasNoHost (cedt topo image : List ℕ) (old new : FetchState) (outcome : Outcome) : Type 0 where
  no_table : HasNoTable cedt old new outcome → HasNoHost cedt topo image old new outcome
  no_tree : (table : CedtFields) → IsTableOf (old.told cedt) table → HasNoTree (cedt ∷ []) topo old new outcome → HasNoHost cedt topo image old new outcome
  no_image : (table : CedtFields) (tree : Tree) → IsTableOf (old.told cedt) table → IsTreeOf (old.told topo) tree → HasNoImage (cedt ∷ topo ∷ []) image tree.nodes old new outcome → HasNoHost cedt topo image old new outcome

-- the outcome is that of the first file without a reading, or `IsAnswer` says it of what the three are read as
pub data IsByHost (cedt topo image : List ℕ) (old new : FetchState) (IsAnswer : CedtFields → Tree → List Registers → Outcome → Type 0) (outcome : Outcome) : Type 0 where
  no_host : HasNoHost cedt topo image old new outcome → IsByHost cedt topo image old new IsAnswer outcome
  by_host : (table : CedtFields) (tree : Tree) (blocks : List Registers) → AreRead old.told cedt topo image table tree blocks → IsAnswer table tree blocks outcome → IsByHost cedt topo image old new IsAnswer outcome
