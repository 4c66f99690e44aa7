-- Some live spans of a device.
use Rattle.std.specs.Prelude.{ℕ, ◌<◌, List, All, AllPairs, Contains}
use Rattle.cxl_model.specs.declared.found.Found.{Found}
use Rattle.cxl_model.specs.declared.poison.Entry.{Entry}
use Rattle.cxl_poison.specs.declared.live.LiveSpan.{LiveSpan}
use Rattle.cxl_poison.specs.Live.{IsLiveSpan}
use Rattle.cxl_poison.specs.Pieces.{Touches}

-- live spans of the device, in the order of its bytes
pub record AreSomeSpans (live : List Found) (endpoint : ℕ) (spans : List LiveSpan) : Type 0 where
  pub each : All (IsLiveSpan live endpoint) spans
  pub rising : AllPairs (λ a b. a.start < b.start) spans

-- with those of all regions at these places
pub record AreSpansAt (live : List Found) (endpoint : ℕ) (places : List ℕ) (spans : List LiveSpan) : Type 0 where
  pub some : AreSomeSpans live endpoint spans
  pub all : (span : LiveSpan) → IsLiveSpan live endpoint span → Contains places span.region → Contains spans span

-- with all that the record touches
pub record AreTouchedSpans (entry : Entry) (endpoint : ℕ) (live : List Found) (spans : List LiveSpan) : Type 0 where
  pub some : AreSomeSpans live endpoint spans
  pub all : (span : LiveSpan) → IsLiveSpan live endpoint span → Touches entry span → Contains spans span
