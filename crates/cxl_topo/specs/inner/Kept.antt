-- What every topology keeps.
use Rattle.std.specs.Prelude.{ℕ, List, length}
use Rattle.cxl_topo.specs.declared.node.Node.{Node}
use Rattle.cxl_topo.specs.declared.tables.Tables.{Tables}
use Rattle.cxl_topo.specs.Faults.{IsTree}
use Rattle.cxl_topo.specs.Frames.{AreFrames}
use Rattle.cxl_topo.specs.inner.AreTables.{AreTables}

-- the nodes are a legal tree, and the tables are theirs
pub record IsKeptTree (nodes : List Node) (frames : ℕ) (tables : Tables) : Type 0 where
  pub tree : IsTree nodes
  pub few : AreFrames frames
  pub listed : AreTables (length nodes) nodes tables
