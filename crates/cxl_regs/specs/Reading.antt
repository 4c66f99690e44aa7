-- What the registers of a decoder mean: which addresses it holds, and where a port's or an endpoint's decoder
-- sends them (CXL HDM decoder interleave and endpoint decode).
use Rattle.std.specs.Prelude.{ℕ, ◌+◌, ◌-◌, ◌/◌, ◌%◌, ◌^◌, ◌==◌, nat_lt, nat_le, Bool, ◌&&◌, List, map, unwrap_or}
use Rattle.std.specs.Option.{option_map_or}
use Rattle.std.specs.List.{prefix_len, range_with_len}
use Rattle.cxl_enc.specs.Codes.{ways_of, chunk_size, bits_of}
use Rattle.cxl_regs.specs.declared.decoder.Decoder.{Decoder}
use Rattle.cxl_regs.specs.declared.reading.Range.{Range}

-- ---- ways and granularity

-- the ways of a decoder's code; a code that stands for none counts as one way
abbrev pub decoder_ways : Decoder → ℕ
decoder_ways d = unwrap_or (ways_of d.ways) 1

-- the bytes of a decoder's granularity code
abbrev pub decoder_granularity : Decoder → ℕ
decoder_granularity d = chunk_size d.gran

-- the k of the ways t * 2 ^ k with this code
abbrev pub select_bits : ℕ → ℕ
select_bits ways = option_map_or bits_of (ways_of ways) 0

-- ---- the range

-- the base and the size of a decoder
abbrev pub range_of : Decoder → Range
range_of d = record { base = d.base; size = d.size }

-- the decoder is committed with this range
abbrev pub has_range : Range → Decoder → Bool
has_range r d = d.committed && (d.base == r.base) && (d.size == r.size)

-- it is committed, and the address lies in its range
abbrev pub holds_address : Decoder → ℕ → Bool
holds_address d h = d.committed && nat_le d.base h && nat_lt h (d.base + d.size)

-- how many decoders stand before the first that is not committed
abbrev pub committed_count : List Decoder → ℕ
committed_count decoders = prefix_len (λ d. d.committed) decoders

-- ---- a port's

-- the entry of its target list to which it sends an address: ((h - base) / granularity) mod ways
abbrev pub entry_of : Decoder → ℕ → ℕ
entry_of d h = (h - d.base) / decoder_granularity d % decoder_ways d

-- the port that stands at entry i
abbrev pub entry_at : Decoder → ℕ → ℕ
entry_at d i = d.tail / 256 ^ i % 256

-- the ports at the entries that it uses, one for each of its ways
abbrev pub entries_of : Decoder → List ℕ
entries_of d = map (entry_at d) (range_with_len 0 (decoder_ways d))

-- ---- an endpoint's

-- how many bytes of the device it takes: one of as many shares as it has ways
abbrev pub span_length : Decoder → ℕ
span_length d = d.size / decoder_ways d
