-- What the shipped media holds: a frame pool, and the blocks of its index.
use Rattle.std.specs.Prelude.{◌≡◌, ℕ, ◌+◌, ◌*◌, ◌≤◌, List, map, length, unwrap_or, Option, Some, refl}
use Rattle.std.specs.Option.{option_map}
use Rattle.std.specs.Coded.{Coded, code_by, coded×, coded_ℕ, coded_list, coded_option}
use Rattle.std.specs.FinMap as fin
use Rattle.std.specs.FinMap.{FinMap}
use Rattle.cxl_media.specs.Pool.{Frames, frame_bytes, IsOut, free_count, zeros}
use Rattle.cxl_media.specs.Blocks.{Key, key_cmp, Blocks}
use Rattle.cxl_media.specs.MediaState.{MediaState}
use Rattle.cxl_media.specs.Table.{Cells, key_at, frames_in}
use Rattle.cxl_media.specs.Index.{coded_cells}
use Rattle.std.specs.Vec.{vec_capacity}
use Rattle.cxl_enc.specs.Limits.{frame_limit}
use Rattle.cxl_media.specs.Zones.{AreZoned}
use Rattle.cxl_media.specs.declared.zones.Zones.{Zones}

-- the frames of the pool, and the cells that name those with a block
pub record Shipped : Type 0 where
  pub pool : Frames
  pub cells : Cells

-- frames as a list of lists
abbrev pub coded_frames : Coded Frames
coded_frames = coded_list (coded_option (coded_list coded_ℕ))

-- as a pair
abbrev pub coded_shipped : Coded Shipped
coded_shipped =
    code_by (Frames × Cells) (coded× coded_frames coded_cells) (λ s. (s.pool, s.cells))
    (λ p. record { pool = p.0; cells = p.1 }) (λ _. refl)

-- a pool, and the number of the frame of each block
pub record Sim : Type 0 where
  pub pool : Frames
  pub frames : FinMap key_cmp ℕ

-- the pool and the blocks in its frames
abbrev pub sim_of : Frames → Cells → Sim
sim_of pool cells = record { pool = pool; frames = frames_in cells }

-- a finite map with each value replaced
abbrev pub map_values : {X Y : Type 0} → (X → Y) → FinMap key_cmp X → FinMap key_cmp Y
map_values f m = fin.from_sorted (map (λ e. (e.0, f e.1)) (fin.entries m))

-- each block has the bytes of its frame
abbrev pub blocks_of : Sim → Blocks
blocks_of s = map_values (λ n. unwrap_or (frame_bytes s.pool n) zeros) s.frames

-- the blocks that it holds
abbrev pub shipped_blocks : Shipped → Blocks
shipped_blocks s = blocks_of (sim_of s.pool s.cells)

-- its blocks, and how many frames are free
abbrev pub shipped_state : Shipped → MediaState
shipped_state s = record { blocks = shipped_blocks s; free = free_count s.pool }

-- the place of each block
abbrev pub shipped_roll : Shipped → List (Option Key)
shipped_roll s = map (option_map key_at) s.cells

-- the frames of the blocks are out of the pool and differ, and no other frame is out
pub record IsSim (s : Sim) (room : ℕ) : Type 0 where
  pub out : (q : Key) (n : ℕ) → fin.get s.frames q ≡ Some n → IsOut s.pool n
  pub apart : (q r : Key) (n : ℕ) → fin.get s.frames q ≡ Some n → fin.get s.frames r ≡ Some n → q ≡ r
  pub counted : free_count s.pool + fin.len s.frames ≡ length s.pool
  pub size : length s.pool ≡ room

-- and the frames of the blocks stand on the chains of their zones, with two homes and a place for each frame
pub record IsShipped (pool : Frames) (cells : Cells) (room : ℕ) (zones : Zones) : Type 0 where
  pub sim : IsSim (sim_of pool cells) room
  pub zoned : AreZoned (frames_in cells) zones.homes zones.firsts zones.nodes.items
  pub homes : zones.homes ≡ 2 * room
  pub places : room ≤ vec_capacity zones.nodes
  pub small : room ≤ frame_limit
