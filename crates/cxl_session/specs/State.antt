-- What a session keeps (this project's rule).
use Rattle.std.specs.Prelude.{ℕ, List, Option}
use Rattle.cxl_regs.specs.Registers.{Registers}
use Rattle.cxl_topo.specs.Tree.{Tree}
use Rattle.cxl_window.specs.Fields.{WindowFields}
use Rattle.cxl_model.specs.declared.found.Found.{Found}
use Rattle.cxl_model.specs.System.{System, system_of}
use Rattle.cxl_walk.specs.Keeping.{KeptFields}
use Rattle.cxl_apply.specs.declared.write.Write.{Write}

-- the job that is pending, with its region and that region's routes
pub record JobFields : Type 0 where
  -- where the region stood that the job ends; none where it makes one
  pub place : Option ℕ
  pub name : List ℕ
  pub found : Found
  pub kept : KeptFields
  pub writes : List Write
  pub done : ℕ

-- What a session keeps: topology, windows and register image; of each live region its name, its spans and its kept routes;
-- and the job that is pending.
pub record SessionState : Type 0 where
  pub topo : Tree
  pub windows : List WindowFields
  -- what the registers hold
  pub image : List Registers
  -- of the live regions, in the order in which they were made
  pub names : List (List ℕ)
  pub founds : List Found
  pub kept : List KeptFields
  pub job : Option JobFields

-- its image as a system
abbrev pub image_in : SessionState → System
image_in session = system_of session.image session.topo session.windows
