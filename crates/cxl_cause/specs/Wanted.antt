-- Values that a decoder is wanted to have: with one of them in that decoder, the place does not break the rule (this
-- project's rules).
use Rattle.std.specs.Prelude.{◌≡◌, ℕ, Some, slice_get, slice_set}
use Rattle.std.specs.Option.{option_map_or}
use Rattle.cxl_regs.specs.declared.decoder.Decoder.{Decoder}
use Rattle.cxl_regs.specs.Registers.{Registers}
use Rattle.cxl_model.specs.System.{System}

-- a block with another decoder i
abbrev pub put_in_block : ℕ → Decoder → Registers → Registers
put_in_block i d block = record block { decoders = slice_set block.decoders i d }

-- the system with another decoder i of node n
abbrev pub with_decoder : System → ℕ → ℕ → Decoder → System
with_decoder s n i d = record s { blocks = option_map_or (λ block. slice_set s.blocks n (put_in_block i d block)) (slice_get s.blocks n) s.blocks }

-- decoder i of the block of node n
pub record StandsIn (s : System) (n i : ℕ) (block : Registers) (d : Decoder) : Type 0 where
  pub block_there : slice_get s.blocks n ≡ Some block
  pub there : slice_get block.decoders i ≡ Some d
