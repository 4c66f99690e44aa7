-- The own decoders of regions while they are gathered, node by node and in a node decoder by decoder.
use Rattle.std.specs.Prelude.{◌≡◌, ℕ, ◌+◌, ◌<◌, true, false, Vec, List, length, slice_get, Some}
use Rattle.std.specs.Global.{Global}
use Rattle.std.specs.List.{filter_map, range_with_len}
use Rattle.cxl_regs.specs.declared.decoder.Decoder.{Decoder}
use Rattle.cxl_regs.specs.declared.reading.Range.{Range}
use Rattle.cxl_regs.specs.Reading.{has_range}
use Rattle.cxl_model.specs.declared.found.Found.{Found}
use Rattle.cxl_model.specs.System.{System, decoder_at}
use Rattle.cxl_model.specs.Regions.{region_range}
use Rattle.cxl_walk.specs.declared.own.Own.{Own}
use Rattle.cxl_walk.specs.Keeping.{own_for}

-- those of a range in the nodes below n
abbrev pub own_below : System → Range → ℕ → List Own
own_below s r n = filter_map (own_for s r) (range_with_len 0 n)

-- those in the nodes below n, and that of n itself once one of its first i decoders has the range
pub data IsGathered (s : System) (r : Range) (n i : ℕ) (own : List Own) : Type 0 where
  not_yet : own ≡ own_below s r n → ((j : ℕ) (d : Decoder) → j < i → decoder_at s n j ≡ Some d → has_range r d ≡ false) → IsGathered s r n i own
  entered : own ≡ own_below s r (n + 1) → (j : ℕ) (d : Decoder) → j < i → decoder_at s n j ≡ Some d → has_range r d ≡ true → IsGathered s r n i own

-- so of each region
pub record AreGathered (s : System) (founds : List Found) (n i : ℕ) (owns : List (Vec Own Global)) : Type 0 where
  pub long : length owns ≡ length founds
  pub each : (k : ℕ) (found : Found) (own : Vec Own Global) → slice_get founds k ≡ Some found → slice_get owns k ≡ Some own
      → IsGathered s (region_range found) n i own.items

-- no two decoders of node n have one range
abbrev pub HoldsOnce : System → ℕ → Type 0
HoldsOnce s n = (r : Range) (i j : ℕ) (d e : Decoder) → decoder_at s n i ≡ Some d → decoder_at s n j ≡ Some e
    → has_range r d ≡ true → has_range r e ≡ true → i ≡ j
