-- Which bytes of an endpoint's device a decoder takes (CXL endpoint decode).
use Rattle.std.specs.Prelude.{ℕ, ◌+◌, ◌-◌, ◌*◌, ◌/◌, ◌%◌, List, take, sum_by, slice_get}
use Rattle.std.specs.Option.{option_map_or}
use Rattle.cxl_regs.specs.declared.decoder.Decoder.{Decoder}
use Rattle.cxl_regs.specs.Reading.{decoder_ways, decoder_granularity, span_length}

-- what a decoder skips, and then takes
abbrev pub span_step : Decoder → ℕ
span_step d = d.tail + span_length d

-- where the span of decoder i starts: past all that the decoders before it skip and take, and what it skips itself
abbrev pub span_start_of : List Decoder → ℕ → ℕ
span_start_of decoders i = sum_by span_step (take i decoders) + option_map_or (λ d. d.tail) (slice_get decoders i) 0

-- where it ends
abbrev pub span_end_of : List Decoder → ℕ → ℕ
span_end_of decoders i = span_start_of decoders i + option_map_or span_length (slice_get decoders i) 0

-- the device address to which a decoder whose span starts there sends a host address
abbrev pub endpoint_place_of : ℕ → Decoder → ℕ → ℕ
endpoint_place_of start d h =
    let offset = h - d.base in
    let gran = decoder_granularity d in
    start + offset / (gran * decoder_ways d) * gran + offset % gran
