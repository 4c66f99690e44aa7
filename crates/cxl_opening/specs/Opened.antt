-- What a session opens on, and what it opens as.
use Rattle.std.specs.Prelude.{◌≡◌, ℕ, ◌<◌, ◌≤◌, List, [], ◌∷◌, length, take, map, None}
use Rattle.std.specs.List.{AllZip, enumerate_from}
use Rattle.cxl_bus.specs.Failed.{HasFailed}
use Rattle.cxl_bus.specs.RegsState.{RegsState}
use Rattle.cxl_bus.specs.Trail.{blocks_sent, trail_with}
use Rattle.cxl_window.specs.Fields.{WindowFields}
use Rattle.cxl_model.specs.declared.found.Found.{Found}
use Rattle.cxl_model.specs.Accepted.{IsAccepted, HasFirstBreach}
use Rattle.cxl_model.specs.Listed.{AreRegionsByBase, region_limit}
use Rattle.cxl_model.specs.Regions.{IsRegionIn}
use Rattle.cxl_model.specs.System.{System, IsSystem}
use Rattle.cxl_walk.specs.Keeping.{KeptFields, IsKept}
use Rattle.cxl_machine.specs.Machine.{Machine}
use Rattle.cxl_machine.specs.Sound.{opened_region, enabled_system}
use Rattle.cxl_opening.specs.Opening.{enabling, HasRegions}

-- the machine with which a session opens on an image with these regions
abbrev pub opened_machine : System → ℕ → List Found → Machine
opened_machine start frames regions = record {
  settled = enabled_system start;
  live = map opened_region (enumerate_from 0 regions);
  frames = frames;
  job = None;
}

-- an accepted image with its regions, no more than may live; so nothing is to be refused
pub record CanOpen (start : System) (regions : List Found) : Type 0 where
  pub system : IsSystem start
  pub accepted : IsAccepted start
  pub listed : AreRegionsByBase start regions
  pub few : length regions ≤ region_limit
  pub unbroken : HasFirstBreach start → ⊥
  pub uncrowded : (n : ℕ) → HasRegions start n → n ≤ region_limit

-- these are the routes of regions of an image, one after the other
abbrev pub AreRoutesOf : System → List Found → List KeptFields → Type 0
AreRoutesOf s founds kepts = AllZip (λ found kept. (w : WindowFields) → IsRegionIn s w found → IsKept s w found kept) founds kepts

-- the bus failed behind the first n endpoints, n below their number: these decode, their words are sent, and nothing is called
-- behind the one that failed
pub record StopsEnabling (endpoints : List ℕ) (old new : RegsState) : Type 0 where
  pub n : ℕ
  pub part : n < length endpoints
  pub blocks : new.blocks ≡ blocks_sent old.blocks (enabling (take n endpoints))
  pub words : new.trail ≡ trail_with old.trail (enabling (take n endpoints))
  pub fails : HasFailed old new (n ∷ [])
