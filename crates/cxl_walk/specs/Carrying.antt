-- An image carries its regions: each host byte to a byte of a device, from which it translates back.
use Rattle.std.specs.Prelude.{◌≡◌, ℕ, ◌+◌, ◌<◌, ◌≤◌, List, Contains}
use Rattle.cxl_window.specs.Fields.{WindowFields}
use Rattle.cxl_model.specs.declared.found.Found.{Found}
use Rattle.cxl_model.specs.System.{System}
use Rattle.cxl_model.specs.Regions.{IsRegionIn, Carries}
use Rattle.cxl_model.specs.Bytes.{LiesInSpan}
use Rattle.cxl_walk.specs.Hosts.{IsLeastHost}

-- A region of the image carries a host byte to a byte of a device: the byte's chain ends there, and it is the least
-- address whose chain does.
pub record IsCarriedTo (s : System) (found : Found) (h endpoint dpa : ℕ) : Type 0 where
  pub window : WindowFields
  pub region : IsRegionIn s window found
  pub carried : Carries found window h endpoint dpa
  pub back : IsLeastHost s endpoint dpa (record { base = found.base; h = h })

-- The host bytes of these regions lie one to one on the bytes of their spans, and no device byte serves two of them.
pub record CarriesRegions (s : System) (regions : List Found) : Type 0 where
  -- each host byte is carried to a byte
  pub each : (found : Found) (h : ℕ) → Contains regions found → found.base ≤ h → h < found.base + found.size → (endpoint : ℕ) × (dpa : ℕ) × IsCarriedTo s found h endpoint dpa
  -- of the region's own spans
  pub inside : (found : Found) (h endpoint dpa : ℕ) → Contains regions found → IsCarriedTo s found h endpoint dpa → LiesInSpan found endpoint dpa
  -- and each byte of these is reached
  pub onto : (found : Found) (endpoint dpa : ℕ) → Contains regions found → LiesInSpan found endpoint dpa → (h : ℕ) × IsCarriedTo s found h endpoint dpa
  -- two host bytes never come to one device byte
  pub apart : (found other : Found) (h i endpoint dpa : ℕ) → Contains regions found → Contains regions other
      → IsCarriedTo s found h endpoint dpa → IsCarriedTo s other i endpoint dpa → (found ≡ other) × (h ≡ i)
  -- no device byte serves two regions
  pub shared : (found other : Found) (endpoint dpa : ℕ) → Contains regions found → Contains regions other
      → LiesInSpan found endpoint dpa → LiesInSpan other endpoint dpa → found ≡ other
