-- Which nodes stand on the ways to a region's endpoints, as marks by node.
use Rattle.std.specs.Prelude.{◌≡◌, ℕ, Bool, true, false, List, get_or, All, Option, None, if◌then◌else◌}
use Rattle.cxl_topo.specs.declared.node.Node.{Node}
use Rattle.cxl_topo.specs.Tree.{Tree}
use Rattle.cxl_regs.specs.declared.reading.Range.{Range}
use Rattle.cxl_regs.specs.Registers.{Registers}
use Rattle.cxl_window.specs.Fields.{WindowFields}
use Rattle.cxl_model.specs.declared.found.Found.{Found}
use Rattle.cxl_model.specs.declared.found.Place.{Place}
use Rattle.cxl_model.specs.System.{System, IsSystem, system_of}
use Rattle.cxl_model.specs.Counts.{is_under}
use Rattle.cxl_model.specs.Regions.{IsRegionIn}
use Rattle.cxl_walk.specs.declared.own.Own.{Own}
use Rattle.cxl_walk.specs.Keeping.{own_for}

-- node n is marked
abbrev pub is_marked : List Bool → ℕ → Bool
is_marked marks n = get_or marks n false

-- each node on the way to node i is marked
abbrev pub MarksWay : List Node → List Bool → ℕ → Type 0
MarksWay nodes marks i = (n : ℕ) → is_under nodes n i ≡ true → is_marked marks n ≡ true

-- so on the way to the endpoint of each place
abbrev pub MarksWays : List Node → List Bool → List Place → Type 0
MarksWays nodes marks spans = All (λ (place : Place). MarksWay nodes marks place.endpoint) spans

-- what was marked still is
abbrev pub KeepsMarks : List Bool → List Bool → Type 0
KeepsMarks old new = (n : ℕ) → is_marked old n ≡ true → is_marked new n ≡ true

-- the decoder of a range in node n, where that is marked
abbrev pub own_where : List Bool → System → Range → ℕ → Option Own
own_where marks s r n = if is_marked marks n then own_for s r n else None

-- with some windows it is a region of the image
pub record IsRegionOver (blocks : List Registers) (tree : Tree) (found : Found) : Type 0 where
  pub windows : List WindowFields
  pub window : WindowFields
  pub system : IsSystem (system_of blocks tree windows)
  pub region : IsRegionIn (system_of blocks tree windows) window found
