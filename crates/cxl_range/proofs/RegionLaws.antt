-- A region is woven by its weave, by what the laws of regions say of it.
use Rattle.std.proofs.Common.{◌≡◌, ℕ, ◌+◌, ◌/◌, ◌≤◌, Some, refl}
use Rattle.std.specs.Prelude.{slice_get}
use Rattle.cxl_enc.specs.Limits.{address_limit}
use Rattle.cxl_num.specs.Interleave.{chunk_size}
use Rattle.cxl_window.specs.Fields.{WindowFields}
use Rattle.cxl_deal.specs.Weaves.{IsWeave, weave_ways, turns_end}
use Rattle.cxl_model.specs.declared.found.Found.{Found}
use Rattle.cxl_model.specs.declared.found.Place.{Place}
use Rattle.cxl_model.specs.System.{System, IsSystem}
use Rattle.cxl_model.specs.Regions.{IsRegionIn, weave_fields}
use Rattle.cxl_model.specs.Bytes.{slot_length}
use Rattle.cxl_range.specs.inner.Woven.{IsWoven}

-- the laws of which it takes
pub record RegionLaws : Type 0 where
  pub kept : (s : System) (w : WindowFields) (found : Found) → IsSystem s → IsRegionIn s w found → IsWeave (weave_fields found w)
  pub ways : (s : System) (w : WindowFields) (found : Found) → IsSystem s → IsRegionIn s w found → weave_ways (weave_fields found w) ≡ found.ways
  pub turns : (s : System) (w : WindowFields) (found : Found) → IsSystem s → IsRegionIn s w found
      → turns_end (weave_fields found w) (slot_length found / chunk_size found.gran) ≡ found.base + found.size
  pub low : (s : System) (w : WindowFields) (found : Found) → IsSystem s → IsRegionIn s w found → found.base + found.size ≤ address_limit
  pub spans : (s : System) (w : WindowFields) (found : Found) (slot : ℕ) (place : Place) → IsSystem s → IsRegionIn s w found → slice_get found.spans slot ≡ Some place
      → place.start + slot_length found ≤ address_limit

pub woven_by : RegionLaws → (s : System) (w : WindowFields) (found : Found) → IsSystem s → IsRegionIn s w found → IsWoven found (weave_fields found w)
woven_by laws s w found system region = record {
  is = laws.kept s w found system region;
  base = refl;
  gran = refl;
  ways = laws.ways s w found system region;
  slots = region.slots;
  turns = laws.turns s w found system region;
  low = laws.low s w found system region;
  spans = λ slot place. laws.spans s w found slot place system region;
}
