-- Worked regions for ranges: four ways over 1 TiB, three ways, and one way behind another span.
use Rattle.std.specs.Prelude.{ℕ, [], ◌∷◌}
use Rattle.cxl_window.specs.Fields.{WindowFields}
use Rattle.cxl_model.specs.declared.extent.Extent.{Extent}
use Rattle.cxl_model.specs.declared.found.Found.{Found}
use Rattle.cxl_worked.specs.Examples.{window}
use Rattle.cxl_worked.specs.ExampleRegions.{region}

-- over two bridges with two endpoints each
abbrev pub region_of_tebibyte : Found
region_of_tebibyte = region 0x1000000000 0x10000000000 4 (2 ∷ 4 ∷ 3 ∷ 5 ∷ [])

-- a window of a tebibyte over two bridges
abbrev pub window_of_tebibyte : WindowFields
window_of_tebibyte = record (window 0x10000000000 2 (0 ∷ 1 ∷ [])) { base = 0x1000000000 }

-- over three bridges with one endpoint each
abbrev pub region_in_thirds : Found
region_in_thirds = region 0x100000000 0x30000000 3 (3 ∷ 4 ∷ 5 ∷ [])

-- a window over three bridges
abbrev pub window_in_thirds : WindowFields
window_in_thirds = window 0x30000000 3 (0 ∷ 1 ∷ 2 ∷ [])

-- over one bridge with one endpoint, behind another span
abbrev pub region_behind : Found
region_behind = record (region 0x110000000 0x10000000 1 []) { spans = record { endpoint = 1; start = 0x10000000 } ∷ [] }

-- so many bytes of a slot from a host address on, at this device address
abbrev pub extent : ℕ → ℕ → ℕ → ℕ → Extent
extent h len slot dpa = record { h = h; len = len; slot = slot; dpa = dpa }
