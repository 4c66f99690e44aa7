-- The device bytes of regions, and of committed decoders.
use Rattle.std.specs.Prelude.{◌≡◌, ℕ, ◌+◌, ◌/◌, ◌<◌, ◌≤◌, ◌==◌, true, List, slice_get, position, Option, Some}
use Rattle.cxl_regs.specs.declared.decoder.Decoder.{Decoder}
use Rattle.cxl_regs.specs.Reading.{span_length}
use Rattle.cxl_span.specs.Spans.{span_start_of}
use Rattle.cxl_model.specs.declared.found.Found.{Found}
use Rattle.cxl_model.specs.declared.found.Place.{Place}
use Rattle.cxl_model.specs.System.{System, decoders_at, decoder_at}

-- how many bytes of a device each slot has
abbrev pub slot_length : Found → ℕ
slot_length found = found.size / found.ways

-- the first slot whose span lies on the endpoint's device
abbrev pub slot_on : ℕ → List Place → Option ℕ
slot_on endpoint spans = position (λ (place : Place). place.endpoint == endpoint) spans

-- the byte of the endpoint's device lies in the span of one of the region's slots
pub record LiesInSpan (found : Found) (endpoint dpa : ℕ) : Type 0 where
  pub slot : ℕ
  pub place : Place
  pub there : slice_get found.spans slot ≡ Some place
  pub here : place.endpoint ≡ endpoint
  pub from : place.start ≤ dpa
  pub below : dpa < place.start + slot_length found

-- it lies in the span of one of the committed decoders of the endpoint
pub record LiesInCommittedSpan (s : System) (endpoint dpa : ℕ) : Type 0 where
  pub i : ℕ
  pub d : Decoder
  pub there : decoder_at s endpoint i ≡ Some d
  pub committed : d.committed ≡ true
  pub from : span_start_of (decoders_at s endpoint) i ≤ dpa
  pub below : dpa < span_start_of (decoders_at s endpoint) i + span_length d
