-- What is worked out once of each committed decoder.
use Rattle.std.specs.Prelude.{◌≡◌, ℕ, ◌+◌, ◌*◌, ◌^◌, ◌<◌, ◌≤◌, true, List, length, take, sum_by, get_or, Some}
use Rattle.cxl_regs.specs.declared.decoder.Decoder.{Decoder}
use Rattle.cxl_regs.specs.declared.reading.Range.{Range}
use Rattle.cxl_regs.specs.Reading.{range_of, decoder_ways, select_bits}
use Rattle.cxl_span.specs.Spans.{span_step, span_start_of}
use Rattle.cxl_topo.specs.Tree.{is_endpoint_at}
use Rattle.cxl_model.specs.System.{System, decoders_at, decoder_at}
use Rattle.cxl_model.specs.declared.above.Above.{Above}
use Rattle.cxl_model.specs.Ranges.{decoder_for, ways_above, bits_above, span_kind}
use Rattle.cxl_check.specs.declared.decoder_facts.DecoderFacts.{DecoderFacts}
use Rattle.cxl_check.specs.declared.kind.DeviceSpan.{DeviceSpan}

-- the ports above node n come to this for the range of its decoder i, and an endpoint's span starts there and is of this kind
pub record AreDecoderFacts (s : System) (n i : ℕ) (d : Decoder) (facts : DecoderFacts) : Type 0 where
  pub ways : facts.ways ≡ ways_above s (range_of d) n
  pub few_ways : facts.ways ≤ 2 ^ 20
  pub bits : facts.bits ≡ bits_above s (range_of d) n
  pub few_bits : facts.bits ≤ 20
  pub start : is_endpoint_at s.nodes n ≡ true → facts.start ≡ span_start_of (decoders_at s n) i
  pub kind : is_endpoint_at s.nodes n ≡ true → facts.kind ≡ span_kind s n i

-- the decoders of an endpoint before decoder i skip and take so many bytes of its device
abbrev pub IsTaken : System → ℕ → ℕ → ℕ → Type 0
IsTaken s n i taken = is_endpoint_at s.nodes n ≡ true → taken ≡ sum_by span_step (take i (decoders_at s n))

-- the span of an endpoint's decoder i starts and ends there, and is of this kind
pub record IsSpanOfDecoder (s : System) (n i : ℕ) (span : DeviceSpan) : Type 0 where
  pub start : is_endpoint_at s.nodes n ≡ true → span.start ≡ span_start_of (decoders_at s n) i
  pub end : IsTaken s n (i + 1) span.end
  pub kind : is_endpoint_at s.nodes n ≡ true → span.kind ≡ span_kind s n i

-- the table has those of each committed decoder before a place, decoder i of node n at place 10 * n + i
pub record AreFactsBefore (s : System) (place : ℕ) (all : List DecoderFacts) : Type 0 where
  pub count : length all ≡ 10 * length s.nodes
  pub each : (n i : ℕ) (d : Decoder) (other : DecoderFacts) → 10 * n + i < place → i < 10 → decoder_at s n i ≡ Some d → d.committed ≡ true
      → AreDecoderFacts s n i d (get_or all (10 * n + i) other)

-- it has all of them
abbrev pub AreAllFacts : System → List DecoderFacts → Type 0
AreAllFacts s all = AreFactsBefore s (10 * length s.nodes) all

-- a port has a decoder of the range, and with those in the ports above it that comes to this
pub record AreWithPort (s : System) (r : Range) (port : ℕ) (above : Above) : Type 0 where
  pub d : Decoder
  pub has : decoder_for s r port ≡ Some d
  pub ways : above.ways ≡ decoder_ways d * ways_above s r port
  pub bits : above.bits ≡ select_bits d.ways + bits_above s r port
