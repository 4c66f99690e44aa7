-- Which decoders a block can commit (CXL HDM decoder commit). That an endpoint has to decode, that a decoder has
-- some bytes, the ways of ports, and on which address bits is selected are this project's rules.
use Rattle.std.specs.Prelude.{ℕ, ◌+◌, ◌-◌, ◌^◌, ◌==◌, nat_lt, nat_le, Bool, false, not, ◌&&◌, ◌||◌, if◌then◌else◌, List, Option, Some, None, slice_get}
use Rattle.std.specs.Option.{option_map_or}
use Rattle.std.specs.List.{list_all, range_with_len}
use Rattle.cxl_enc.specs.Bits.{cap_low, cap_high, cap_ways3, cap_ways16}
use Rattle.cxl_enc.specs.Caps.{targets_of}
use Rattle.cxl_regs.specs.declared.decoder.Decoder.{Decoder}
use Rattle.cxl_regs.specs.declared.effect.CommitRule.{CommitRule}
use Rattle.cxl_regs.specs.declared.effect.CommitRule.TheVariants.{NotEnabled, ZeroSize, Order, Rise, Codes, Select}
use Rattle.cxl_regs.specs.Registers.{Registers}
use Rattle.cxl_regs.specs.Words.{has_bit}
use Rattle.cxl_regs.specs.Reading.{select_bits}

-- a port's ways are 1, 2, 4 or 8, and no more than its targets
abbrev pub port_ways_ok : ℕ → ℕ → Bool
port_ways_ok cap ways = nat_le ways 3 && nat_le (2 ^ ways) (targets_of cap)

-- an endpoint's ways are 1, 2, 4 or 8, with bit 12 also 16, and with bit 11 also 3, 6 and 12
abbrev pub endpoint_ways_ok : ℕ → ℕ → Bool
endpoint_ways_ok cap ways =
    nat_le ways 3 || ((ways == 4) && has_bit cap cap_ways16) || (nat_le 8 ways && nat_le ways 10 && has_bit cap cap_ways3)

-- codes that the block can commit
abbrev pub codes_ok : ℕ → Bool → Decoder → Bool
codes_ok cap endpoint d =
    nat_le d.gran 6 && (if endpoint then endpoint_ways_ok cap d.ways else port_ways_ok cap d.ways)

-- an address bit that the block can select on: 11:8 with bit 8 of its capability, 14:12 with bit 9
abbrev pub selects : ℕ → ℕ → Bool
selects cap bit =
    (nat_le 8 bit && nat_le bit 11 && has_bit cap cap_low) || (nat_le 12 bit && nat_le bit 14 && has_bit cap cap_high)

-- the address bits from gran + 8 on, so many of them
abbrev pub select_ok : ℕ → ℕ → ℕ → Bool
select_ok cap gran bits = list_all (selects cap) (range_with_len (gran + 8) bits)

-- the decoder before decoder i
abbrev pub before : List Decoder → ℕ → Option Decoder
before decoders i = if i == 0 then None else slice_get decoders (i - 1)

-- the decoder before is not committed
abbrev pub breaks_order : Option Decoder → Bool
breaks_order below = option_map_or (λ b. not b.committed) below false

-- the base lies below the end of the decoder before
abbrev pub breaks_rise : Option Decoder → Decoder → Bool
breaks_rise below d = option_map_or (λ b. nat_lt d.base (b.base + b.size)) below false

-- The first commit rule that decoder i would break with these registers. That an endpoint has to decode, that a decoder has
-- some bytes, the ways of ports and the select rule are this project's; the others are the standard's.
abbrev pub first_broken_rule : Registers → ℕ → Decoder → Option CommitRule
first_broken_rule block i d =
    if block.endpoint && not block.enabled then Some NotEnabled
    else (if d.size == 0 then Some ZeroSize
    else (if breaks_order (before block.decoders i) then Some Order
    else (if breaks_rise (before block.decoders i) d then Some Rise
    else (if not (codes_ok block.cap block.endpoint d) then Some Codes
    else (if not (select_ok block.cap d.gran (select_bits d.ways)) then Some Select
    else None)))))
