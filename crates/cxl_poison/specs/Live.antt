-- The live regions of a host, and what they have of one device.
use Rattle.std.specs.Prelude.{◌≡◌, ◌≢◌, ℕ, ◌<◌, List, All, AllPairs, Contains, slice_get, Some}
use Rattle.cxl_window.specs.Fields.{WindowFields}
use Rattle.cxl_model.specs.declared.found.Found.{Found}
use Rattle.cxl_model.specs.System.{System, IsSystem}
use Rattle.cxl_model.specs.Regions.{IsRegion}
use Rattle.cxl_model.specs.Bytes.{slot_length}
use Rattle.cxl_poison.specs.declared.live.LiveSpan.{LiveSpan}

-- regions of one image over these windows, each at the most once
pub record AreLive (windows : List WindowFields) (live : List Found) : Type 0 where
  pub s : System
  pub system : IsSystem s
  pub windows_of : s.windows ≡ windows
  pub each : All (IsRegion s) live
  pub once : AllPairs (λ a b. a ≢ b) live

-- a live span, under a name that proofs of other crates can use
abbrev pub SpanFields : Type 0
SpanFields = LiveSpan

-- the span of one of the region's slots, on this endpoint's device
pub record IsSpanOf (found : Found) (endpoint : ℕ) (span : LiveSpan) : Type 0 where
  pub place : slice_get found.spans span.slot ≡ Some (record { endpoint = endpoint; start = span.start })
  pub len : span.len ≡ slot_length found

-- the span of the region that stands at this place among the live ones
pub record IsLiveSpan (live : List Found) (endpoint : ℕ) (span : LiveSpan) : Type 0 where
  pub found : Found
  pub there : slice_get live span.region ≡ Some found
  pub here : IsSpanOf found endpoint span

-- all live spans of the device, in the order of its bytes
pub record AreLiveSpans (live : List Found) (endpoint : ℕ) (spans : List LiveSpan) : Type 0 where
  pub each : All (IsLiveSpan live endpoint) spans
  pub all : (span : LiveSpan) → IsLiveSpan live endpoint span → Contains spans span
  pub rising : AllPairs (λ a b. a.start < b.start) spans
