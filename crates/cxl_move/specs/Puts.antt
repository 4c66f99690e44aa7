-- Bytes that are put into media, and the reply.
use Rattle.std.specs.Prelude.{◌≡◌, ℕ, ◌+◌, ◌%◌, ◌<◌, ◌≤◌, List, length}
use Rattle.std.specs.FinMap as map
use Rattle.cxl_media.specs.Blocks.{key_of, block_at, frames_needed, IsInOneBlock, overwritten}
use Rattle.cxl_media.specs.MediaState.{MediaState, frame_count}
use Rattle.cxl_reply.specs.declared.reply.Reply.{Reply}
use Rattle.cxl_reply.specs.declared.reply.Reply.TheVariants as replies

-- how many frames it takes to put something at a device address
abbrev pub need_at : MediaState → ℕ → ℕ → ℕ
need_at media ep dpa = frames_needed media.blocks (key_of ep dpa)

-- the bytes are put over those of a block
pub record IsPut (ep dpa : ℕ) (bytes : List ℕ) (old new : MediaState) : Type 0 where
  pub within : IsInOneBlock dpa (length bytes)
  pub whole : length (block_at old.blocks (key_of ep dpa)) ≡ 256
  pub blocks : new.blocks ≡ map.insert old.blocks (key_of ep dpa) (overwritten (block_at old.blocks (key_of ep dpa)) (dpa % 256) bytes)
  pub frames : frame_count new ≡ frame_count old

-- they are put where the frame that they need is free, or else the lack is told
pub data PutsOne (ep dpa : ℕ) (bytes : List ℕ) (old new : MediaState) (reply : Reply) : Type 0 where
  stored : need_at old ep dpa ≤ old.free → IsPut ep dpa bytes old new → reply ≡ replies.Stored (length bytes) → PutsOne ep dpa bytes old new reply
  full : old.free < need_at old ep dpa → new ≡ old → reply ≡ replies.Full record { need = need_at old ep dpa; free = old.free } → PutsOne ep dpa bytes old new reply

-- the same of two parts, in two blocks
pub data PutsTwo (ep dpa : ℕ) (front : List ℕ) (other place : ℕ) (back : List ℕ) (old new : MediaState) (reply : Reply) : Type 0 where
  both_stored : (between : MediaState) → need_at old ep dpa + need_at old other place ≤ old.free → IsPut ep dpa front old between → IsPut other place back between new → reply ≡ replies.Stored (length front + length back)
      → PutsTwo ep dpa front other place back old new reply
  both_full : old.free < need_at old ep dpa + need_at old other place → new ≡ old → reply ≡ replies.Full record { need = need_at old ep dpa + need_at old other place; free = old.free }
      → PutsTwo ep dpa front other place back old new reply
