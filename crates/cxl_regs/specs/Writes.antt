-- What a write to a word of a decoder block does, by the first rule that fits (CXL HDM decoder commit and lock).
-- The order of release, that decoding does not end while a decoder is committed, and that a committed decoder
-- drops its other words also where it is not locked, are this project's rules.
use Rattle.std.specs.Prelude.{◌≡◌, ℕ, ◌+◌, ◌*◌, ◌/◌, ◌%◌, ◌^◌, ◌==◌, nat_lt, Bool, true, false, not, ◌&&◌, ◌||◌, if◌then◌else◌, List, drop, slice_get, slice_set, Option, Some, None}
use Rattle.std.specs.Option.{option_map_or}
use Rattle.std.specs.List.{list_any}
use Rattle.cxl_enc.specs.Bits.{global_enable, control_lock, control_commit, control_host_only}
use Rattle.cxl_regs.specs.declared.decoder.Decoder.{Decoder}
use Rattle.cxl_regs.specs.declared.effect.CommitRule.{CommitRule}
use Rattle.cxl_regs.specs.declared.effect.Effect.{Effect}
use Rattle.cxl_regs.specs.declared.effect.Effect.TheVariants.{Written, Dropped, Committed, Released, NotCommitted}
use Rattle.cxl_regs.specs.Registers.{Registers}
use Rattle.cxl_regs.specs.Words.{has_bit, top_bits, head_size, global_control, base_low, base_high, size_low, size_high, control, tail_low, reserved, index_at, place_at}
use Rattle.cxl_regs.specs.Rules.{first_broken_rule}

-- what a write leaves, and what became of it
pub record AfterWrite : Type 0 where
  pub block : Registers
  pub effect : Effect

-- a write that changes nothing
abbrev pub dropped : Registers → AfterWrite
dropped block = record { block = block; effect = Dropped }

-- decoder i takes these registers
abbrev pub with_decoder : Registers → ℕ → Decoder → Registers
with_decoder block i d = record block { decoders = slice_set block.decoders i d }

-- one of them is committed
abbrev pub any_committed : List Decoder → Bool
any_committed ds = list_any (λ d. d.committed) ds

-- a number whose low word, or high word, is v
abbrev pub with_low : ℕ → ℕ → ℕ
with_low n v = n / 2 ^ 32 * 2 ^ 32 + v

-- the number with this upper half
abbrev pub with_high : ℕ → ℕ → ℕ
with_high n v = v * 2 ^ 32 + n % 2 ^ 32

-- a word of a decoder, but not its control, takes the bits of v that count
abbrev pub with_word : Bool → Decoder → ℕ → ℕ → Decoder
with_word endpoint d place v =
    if place == base_low then record d { base = with_low d.base (top_bits v) }
    else (if place == base_high then record d { base = with_high d.base v }
    else (if place == size_low then record d { size = with_low d.size (top_bits v) }
    else (if place == size_high then record d { size = with_high d.size v }
    else (if place == tail_low then record d { tail = with_low d.tail (if endpoint then top_bits v else v) }
    else record d { tail = with_high d.tail v }))))

-- granularity, ways, lock and host-only are those of v
abbrev pub with_control : Decoder → ℕ → Decoder
with_control d v =
    record d { gran = v % 16; ways = v / 16 % 16; lock = has_bit v control_lock; host_only = has_bit v control_host_only }

-- the global control of an endpoint: decoding ends only while no decoder is committed
abbrev pub after_global : Registers → ℕ → AfterWrite
after_global block v =
    if has_bit v global_enable then record { block = record block { enabled = true }; effect = Written }
    else (if any_committed block.decoders then dropped block
    else record { block = record block { enabled = false }; effect = Written })

-- the control of a committed decoder: the last committed one is released, unless it is locked
abbrev pub after_release : Registers → ℕ → Decoder → ℕ → AfterWrite
after_release block i d v =
    if d.lock || has_bit v control_commit || any_committed (drop (i + 1) block.decoders) then dropped block
    else record { block = with_decoder block i (record d { commit = false; committed = false }); effect = Released }

-- decoder i is committed with these registers, or the first rule that it breaks is answered
abbrev pub after_commit : Registers → ℕ → Decoder → Option CommitRule → AfterWrite
after_commit block i d None =
    record { block = with_decoder block i (record d { commit = true; committed = true; error = false }); effect = Committed }
after_commit block i d (Some rule) =
    record { block = with_decoder block i (record d { commit = true; committed = false; error = true }); effect = NotCommitted rule }

-- the control of a decoder that is not committed
abbrev pub after_control : Registers → ℕ → Decoder → ℕ → AfterWrite
after_control block i d v =
    if has_bit v control_commit then after_commit block i (with_control d v) (first_broken_rule block i (with_control d v))
    else record { block = with_decoder block i (record (with_control d v) { commit = false; error = false }); effect = Written }

-- a word of decoder i: its reserved word and all words of a committed decoder but its control drop the value
abbrev pub after_decoder : Registers → ℕ → Decoder → ℕ → ℕ → AfterWrite
after_decoder block i d place v =
    if place == reserved then dropped block
    else (if place == control then (if d.committed then after_release block i d v else after_control block i d v)
    else (if d.committed then dropped block
    else record { block = with_decoder block i (with_word block.endpoint d place v); effect = Written }))

-- the word at an offset; before the decoders only an endpoint's global control takes a value
unfoldable pub after_word : Registers → ℕ → ℕ → AfterWrite
after_word block off v =
    if not (off % 4 == 0) then dropped block
    else (if nat_lt off head_size then (if (off == global_control) && block.endpoint then after_global block v else dropped block)
    else option_map_or (λ d. after_decoder block (index_at off) d (place_at off) v) (slice_get block.decoders (index_at off)) (dropped block))

-- A write of v at an offset turns one block into another, with this effect, by the first rule that fits. Commit and lock are
-- the standard's; releasing in falling order, and that words of a committed decoder drop every value, are this project's
-- rules.
pub record WritesWord (block : Registers) (off v : ℕ) (new : Registers) (effect : Effect) : Type 0 where
  pub left : new ≡ (after_word block off v).block
  pub told : effect ≡ (after_word block off v).effect
