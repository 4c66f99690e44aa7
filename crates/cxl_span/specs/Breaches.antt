-- Whether a block keeps the rules K2 to K8, and the first breach of one that does not.
use Rattle.std.specs.Prelude.{◌≡◌, ℕ, ◌<◌, Bool, true, false, slice_get}
use Rattle.std.specs.Option.{option_map_or}
use Rattle.cxl_regs.specs.Registers.{Registers}
use Rattle.cxl_regs.specs.Rules.{before}
use Rattle.cxl_span.specs.Spans.{span_start_of}
use Rattle.cxl_span.specs.Rules.{breaks_rule}

-- decoder i breaks the rule of this number, from 2 to 8, on a device of so many bytes of ram and of pmem
unfoldable pub breaks : ℕ → Registers → ℕ → ℕ → ℕ → Bool
breaks rule block ram pmem i =
    option_map_or (breaks_rule rule block ram pmem (before block.decoders i) (span_start_of block.decoders i)) (slice_get block.decoders i) false

-- no decoder breaks a rule
pub record BlockKeeps (block : Registers) (ram pmem : ℕ) : Type 0 where
  pub each : (rule i : ℕ) → breaks rule block ram pmem i ≡ false

-- the decoder breaks the rule, no decoder breaks a lower rule, and no lower decoder breaks this one
pub record IsFirstBlockBreach (block : Registers) (ram pmem rule decoder : ℕ) : Type 0 where
  pub broken : breaks rule block ram pmem decoder ≡ true
  pub rules : (lower i : ℕ) → lower < rule → breaks lower block ram pmem i ≡ false
  pub decoders : (lower : ℕ) → lower < decoder → breaks rule block ram pmem lower ≡ false
