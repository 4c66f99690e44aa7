-- The committed ranges of an image, and what is said of one: its window, its endpoints, ways, kind and code (this
-- project's rules).
use Rattle.std.specs.Prelude.{◌≡◌, ℕ, ◌+◌, ◌*◌, ◌==◌, nat_lt, nat_le, ◌&&◌, Bool, true, false, if◌then◌else◌, List, [], ◌∷◌, map, length, sum_by, find, position, Option, option_and_then}
use Rattle.std.specs.Option.{option_map_or}
use Rattle.std.specs.List.{filter_map, list_any, range_with_len}
use Rattle.cxl_enc.specs.declared.caps.MemKind.{MemKind}
use Rattle.cxl_enc.specs.declared.caps.MemKind.TheVariants.{Ram, Pmem}
use Rattle.cxl_topo.specs.Tree.{is_endpoint_at, ports_above}
use Rattle.cxl_regs.specs.declared.decoder.Decoder.{Decoder}
use Rattle.cxl_regs.specs.declared.reading.Range.{Range}
use Rattle.cxl_regs.specs.Reading.{decoder_ways, select_bits, has_range, span_length}
use Rattle.cxl_span.specs.Spans.{span_start_of}
use Rattle.cxl_span.specs.Partitions.{lies_in}
use Rattle.cxl_window.specs.Fields.{WindowFields}
use Rattle.cxl_window.specs.Position.{is_usable}
use Rattle.cxl_model.specs.System.{System, decoders_at, decoder_at, ram_at, pmem_at}

-- node n has a committed decoder of the range
abbrev pub serves : System → Range → ℕ → Bool
serves s r n = list_any (has_range r) (decoders_at s n)

-- the committed decoder of node n that has the range
abbrev pub decoder_for : System → Range → ℕ → Option Decoder
decoder_for s r n = find (has_range r) (decoders_at s n)

-- its number
abbrev pub index_for : System → Range → ℕ → Option ℕ
index_for s r n = position (has_range r) (decoders_at s n)

-- some node has a committed decoder of the range
abbrev pub IsCommittedRange : System → Range → Type 0
IsCommittedRange s r = (n : ℕ) × (serves s r n ≡ true)

-- ---- the window

-- the window can be used, and the range lies in it
abbrev pub lies_within : Range → WindowFields → Bool
lies_within r w = is_usable w.verdict && nat_le w.base r.base && nat_le (r.base + r.size) (w.base + w.size)

-- the window in which a range lies; usable windows share no address, so a range with bytes lies in one at the most
abbrev pub window_for : System → Range → Option WindowFields
window_for s r = find (lies_within r) s.windows

-- ---- the ports above a node

-- the decoders of the range in the ports on the way from node n up to its bridge
abbrev pub ports_for : System → Range → ℕ → List Decoder
ports_for s r n = filter_map (λ parent. decoder_for s r parent.node) (ports_above s.nodes n)

-- all of them multiplied
abbrev pub product : List ℕ → ℕ
product [] = 1
product (n ∷ ns) = n * product ns

-- of the ports above node n that serve the range, the product of their ways
abbrev pub ways_above : System → Range → ℕ → ℕ
ways_above s r n = product (map decoder_ways (ports_for s r n))

-- and the sum of the k of their ways
abbrev pub bits_above : System → Range → ℕ → ℕ
bits_above s r n = sum_by (λ d. select_bits d.ways) (ports_for s r n)

-- ---- the endpoints

-- the endpoint of the range with the least node number
abbrev pub first_endpoint : System → Range → Option ℕ
first_endpoint s r = find (λ n. is_endpoint_at s.nodes n && serves s r n) (range_with_len 0 (length s.nodes))

-- the span of decoder i of endpoint n lies in this kind of memory; where in neither, it counts as pmem
abbrev pub span_kind : System → ℕ → ℕ → MemKind
span_kind s n i =
    if lies_in Ram (ram_at s n) (pmem_at s n) (span_start_of (decoders_at s n) i) (option_map_or span_length (decoder_at s n i) 0)
    then Ram else Pmem

-- both are volatile, or both persistent
abbrev pub same_kind : MemKind → MemKind → Bool
same_kind Ram Ram = true
same_kind Ram Pmem = false
same_kind Pmem Ram = false
same_kind Pmem Pmem = true

-- the range's ways and kind are those of its first endpoint
abbrev pub first_decoder : System → Range → Option Decoder
first_decoder s r = option_and_then (decoder_for s r) (first_endpoint s r)

-- the ways of a range: those of its first endpoint
abbrev pub range_ways : System → Range → ℕ
range_ways s r = option_map_or decoder_ways (first_decoder s r) 1

-- and its kind of memory: that of the first endpoint's span
abbrev pub range_kind : System → Range → MemKind
range_kind s r = option_map_or (λ n. option_map_or (span_kind s n) (index_for s r n) Ram) (first_endpoint s r) Ram

-- the code e: the window's where it has more than one way, else the first endpoint's, and 0 where that has one way
abbrev pub range_code : System → WindowFields → Range → ℕ
range_code s w r =
    if nat_lt 1 w.ways then w.gran
    else option_map_or (λ d. if decoder_ways d == 1 then 0 else d.gran) (first_decoder s r) 0
