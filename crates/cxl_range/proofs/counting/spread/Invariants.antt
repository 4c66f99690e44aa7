use Rattle.std.proofs.Common.{◌≡◌, ℕ, ◌+◌, ◌<◌, ◌≤◌, length}
use Rattle.std.specs.Prelude.{slice_index}
use Rattle.cxl_model.specs.Regions.{weave_fields}
use Rattle.cxl_range.specs.Extents.{bytes_on}
use Rattle.cxl_range.specs.inner.Woven.{bytes_before}
use Rattle.cxl_range.proofs.counting.spread.Given as goal

-- the slots so far have the range's bytes, and the others those up to its end
abbrev pub invariant-loop-slot : goal.invariant-loop-slot
invariant-loop-slot l = record {
  sixteen : length l.counts ≡ 16;
  own : (k : ℕ) → k < l.slot → slice_index l.counts k ≡ bytes_on l.found l.window l.h l.len k;
  later : (k : ℕ) → l.slot ≤ k → k < 16 → slice_index l.counts k ≡ bytes_before (weave_fields l.found l.window) (l.h + l.len) k;
}
