use Rattle.std.proofs.Common.{◌≡◌, ◌-◌, map}
use Rattle.std.specs.List.{range_with_len}
use Rattle.cxl_range.specs.Extents.{chunk_extent}
use Rattle.cxl_range.proofs.cutting.extents.Given as goal

-- the extents of the chunks so far
abbrev pub invariant-loop-chunk : goal.invariant-loop-chunk
invariant-loop-chunk l = l.extents.items ≡ map (chunk_extent l.found l.window l.h l.len) (range_with_len l.first (l.chunk - l.first))
