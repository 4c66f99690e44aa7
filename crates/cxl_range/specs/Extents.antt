-- On which device bytes a range of host bytes lies, and how many of them on each slot (this project's rules).
use Rattle.std.specs.Prelude.{ℕ, ◌+◌, ◌-◌, ◌*◌, ◌==◌, min, max, if◌then◌else◌, List, [], ◌∷◌, map, count_by, slice_get}
use Rattle.std.specs.Option.{option_map_or}
use Rattle.std.specs.List.{range_with_len}
use Rattle.cxl_num.specs.Interleave.{chunk_size}
use Rattle.cxl_deal.specs.Weaves.{dealt_chunk, dealt_slot, dealt_offset}
use Rattle.cxl_window.specs.Fields.{WindowFields}
use Rattle.cxl_model.specs.declared.extent.Extent.{Extent}
use Rattle.cxl_model.specs.declared.found.Found.{Found}
use Rattle.cxl_model.specs.declared.found.Place.{Place}
use Rattle.cxl_model.specs.Regions.{weave_fields}

-- the device address to which a host byte of the region is dealt
abbrev pub dealt_place : Found → WindowFields → ℕ → ℕ
dealt_place found w h =
    option_map_or (λ (place : Place). place.start) (slice_get found.spans (dealt_slot (weave_fields found w) h)) 0
    + dealt_offset (weave_fields found w) h

-- so many bytes from a host address on, that lie together on the device
abbrev pub extent_at : Found → WindowFields → ℕ → ℕ → Extent
extent_at found w h len =
    record { h = h; len = len; slot = dealt_slot (weave_fields found w) h; dpa = dealt_place found w h }

-- where a chunk of the region begins
abbrev pub chunk_start : Found → ℕ → ℕ
chunk_start found chunk = found.base + chunk * chunk_size found.gran

-- the bytes of a range that a chunk has
abbrev pub chunk_extent : Found → WindowFields → ℕ → ℕ → ℕ → Extent
chunk_extent found w h len chunk =
    let first = max h (chunk_start found chunk) in
    extent_at found w first (min (h + len) (chunk_start found (chunk + 1)) - first)

-- the numbers of the chunks that a range touches; it has at least one byte
abbrev pub touched_chunks : Found → WindowFields → ℕ → ℕ → List ℕ
touched_chunks found w h len =
    let first = dealt_chunk (weave_fields found w) h in
    range_with_len first (dealt_chunk (weave_fields found w) (h + len - 1) + 1 - first)

-- in a region of one way a range lies in one extent, and in another in one for each chunk from that of the first byte to
-- that of the last
abbrev pub extents_of : Found → WindowFields → ℕ → ℕ → List Extent
extents_of found w h len =
    if found.ways == 1 then extent_at found w h len ∷ [] else map (chunk_extent found w h len) (touched_chunks found w h len)

-- how many bytes of a range are dealt to a slot, counted one by one
abbrev pub bytes_on : Found → WindowFields → ℕ → ℕ → ℕ → ℕ
bytes_on found w h len slot = count_by (λ i. dealt_slot (weave_fields found w) i == slot) (range_with_len h len)

-- so many for each of sixteen slots
abbrev pub spread_of : Found → WindowFields → ℕ → ℕ → List ℕ
spread_of found w h len = map (bytes_on found w h len) (range_with_len 0 16)
