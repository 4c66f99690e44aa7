-- What media holds: a map of blocks, and free frames.
use Rattle.std.specs.Prelude.{ℕ, ◌+◌}
use Rattle.std.specs.FinMap as map
use Rattle.cxl_media.specs.Blocks.{Blocks}

-- the map, and how many frames are free
pub record MediaState : Type 0 where
  -- the bytes of each block in the map
  pub blocks : Blocks
  -- how many frames are free
  pub free : ℕ

-- how many frames there are: those free, and one for each block
abbrev pub frame_count : MediaState → ℕ
frame_count state = state.free + map.len state.blocks
