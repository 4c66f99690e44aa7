-- A host as its image, its topology and its windows are read together, and any blocks over a tree and windows: a system,
-- but for the capability words of its nodes.
use Rattle.std.specs.Prelude.{All}
use Rattle.cxl_topo.specs.Tree.{bridge_uids}
use Rattle.cxl_topo.specs.Faults.{IsTree}
use Rattle.cxl_regs.specs.Registers.{IsBlock}
use Rattle.cxl_window.specs.Windows.{AreMadeWith}
use Rattle.cxl_model.specs.declared.host.Host.{Host}
use Rattle.cxl_model.specs.System.{System, system_of}

-- what a host is as a system
abbrev pub as_system : Host → System
as_system host = system_of host.image.now host.topo.now host.windows.now

-- A legal tree, some blocks, and windows made with the tree's bridges. With K1 it is a system.
pub record IsHost (s : System) : Type 0 where
  pub tree : IsTree s.nodes
  pub blocks : All IsBlock s.blocks
  pub made : AreMadeWith s.windows (bridge_uids s.nodes)
