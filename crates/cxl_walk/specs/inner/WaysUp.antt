-- What the inner calls of the way up say: of a span that holds a device byte, and of the host addresses that its
-- decoder sends to that byte, one for each of its ways.
use Rattle.std.specs.Prelude.{◌≡◌, ℕ, ◌+◌, ◌*◌, ◌/◌, ◌%◌, ◌<◌, true, List, slice_get, Some}
use Rattle.cxl_regs.specs.declared.decoder.Decoder.{Decoder}
use Rattle.cxl_regs.specs.Reading.{decoder_ways, decoder_granularity, span_length}
use Rattle.cxl_span.specs.Spans.{span_start_of}
use Rattle.cxl_model.specs.System.{System}
use Rattle.cxl_walk.specs.Hosts.{ComesTo}
use Rattle.cxl_walk.specs.declared.upward.HostByte.{HostByte}
use Rattle.cxl_walk.specs.declared.spans.SpanByte.{SpanByte}

-- decoder i is committed, and its span holds the byte, so far from where it starts
pub record IsSpanByte (decoders : List Decoder) (dpa i : ℕ) (d : Decoder) (along : ℕ) : Type 0 where
  pub there : slice_get decoders i ≡ Some d
  pub committed : d.committed ≡ true
  pub place : span_start_of decoders i + along ≡ dpa
  pub within : along < span_length d

-- of the addresses that a decoder sends so far into its span, the one that goes the way of this number
abbrev pub way_address : Decoder → ℕ → ℕ → ℕ
way_address d along way =
    let gran = decoder_granularity d in
    d.base + (along / gran * decoder_ways d + way) * gran + along % gran

-- the address of the first way by which one comes to the byte
pub record IsFirstWay (s : System) (ep dpa : ℕ) (byte : SpanByte) (host : HostByte) : Type 0 where
  pub way : ℕ
  pub address : host.h ≡ way_address byte.decoder byte.along way
  pub comes : ComesTo s ep dpa host.base host.h
  pub before : (k first : ℕ) → k < way → ComesTo s ep dpa first (way_address byte.decoder byte.along k) → ⊥
