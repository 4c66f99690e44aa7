-- Which host bytes a poison record touches, and how they are told (CXL media error record; that they are told in runs
-- and wide pieces is this project's rule).
use Rattle.std.specs.Prelude.{◌≡◌, ℕ, ◌+◌, ◌-◌, ◌*◌, ◌/◌, ◌<◌, ◌≤◌, ◌==◌, nat_lt, nat_le, ◌&&◌, ◌≢◌, not, max, min, if◌then◌else◌, Bool, List, [], ◌∷◌, ◌++◌, length, map, count_by, slice_get, Option, Some, None, IsSomeAnd, All, AllPairs, Contains}
use Rattle.std.specs.List.{range_with_len, filter_map, list_any}
use Rattle.cxl_num.specs.Interleave.{chunk_size}
use Rattle.cxl_window.specs.Fields.{WindowFields}
use Rattle.cxl_model.specs.declared.found.Found.{Found}
use Rattle.cxl_model.specs.declared.poison.Entry.{Entry}
use Rattle.cxl_model.specs.declared.poison.Run.{Run}
use Rattle.cxl_model.specs.declared.poison.Wide.{Wide}
use Rattle.cxl_model.specs.declared.poison.Part.{Part}
use Rattle.cxl_model.specs.declared.poison.Part.TheVariants as parts
use Rattle.cxl_model.specs.declared.poison.Poisoned.{Poisoned}
use Rattle.cxl_model.specs.Regions.{Carries}
use Rattle.cxl_poison.specs.declared.live.LiveSpan.{LiveSpan}
use Rattle.cxl_poison.specs.Live.{IsLiveSpan, AreLiveSpans}

-- ---- the record's bytes in a span

-- how many bytes of its device the record names, and where they end
abbrev pub record_bytes : Entry → ℕ
record_bytes entry = 64 * entry.units

-- where the device bytes of a record end
abbrev pub record_end : Entry → ℕ
record_end entry = entry.dpa + record_bytes entry

-- The record touches the bytes of a span from this offset on, and up to below that one; a difference is 0 where the
-- record begins, or ends, before the span does.
abbrev pub touched_from : Entry → LiveSpan → ℕ
touched_from entry span = entry.dpa - span.start

-- and up to below this one
abbrev pub touched_end : Entry → LiveSpan → ℕ
touched_end entry span = min (record_end entry - span.start) span.len

-- ---- cut into runs

-- bytes of a span that follow each other: the offset of the first one, and how many
pub record Cut : Type 0 where
  pub from : ℕ
  pub len : ℕ

-- the bytes from one offset on up to below another, where there are any
abbrev pub cut_between : ℕ → ℕ → Option Cut
cut_between from end = if nat_lt from end then Some (record { from = from; len = end - from }) else None

-- of those bytes the ones in the n-th `size` bytes of the span
abbrev pub cut_at : ℕ → ℕ → ℕ → ℕ → Option Cut
cut_at from end size n = cut_between (max from (n * size)) (min end ((n + 1) * size))

-- so many bytes of a span lie one after the other among the host's: all of them at one way, and a chunk at more
abbrev pub stretch_size : Found → LiveSpan → ℕ
stretch_size found span = if found.ways == 1 then span.len else chunk_size found.gran

-- the part of each `size` bytes of `len` that has one, from the front
abbrev pub cuts_between : ℕ → ℕ → ℕ → ℕ → List Cut
cuts_between from end size len = filter_map (cut_at from end size) (range_with_len 0 (len / size))

-- the touched part of each stretch of the span, which in a region of one way is one, and ends in another at each chunk's end
abbrev pub cuts_of : Entry → Found → LiveSpan → List Cut
cuts_of entry found span = cuts_between (touched_from entry span) (touched_end entry span) (stretch_size found span) span.len

-- ---- as host bytes

-- the region carries this host byte to the first one of the cut
abbrev pub BeginsCut : Found → WindowFields → ℕ → LiveSpan → Cut → ℕ → Type 0
BeginsCut found w endpoint span cut h = Carries found w h endpoint (span.start + cut.from)

-- a run: the first host byte of a cut, and its length
pub record IsRunOf (found : Found) (w : WindowFields) (endpoint : ℕ) (span : LiveSpan) (cut : Cut) (run : Run) : Type 0 where
  pub first : BeginsCut found w endpoint span cut run.h
  pub len : run.len ≡ cut.len
  pub region : run.region ≡ span.region

-- a run for each cut
pub data AreRunsOf (found : Found) (w : WindowFields) (endpoint : ℕ) (span : LiveSpan) : List Cut → List Run → Type 0 where
  none : AreRunsOf found w endpoint span [] []
  next : (cut : Cut) (cuts : List Cut) (run : Run) (runs : List Run) → IsRunOf found w endpoint span cut run → AreRunsOf found w endpoint span cuts runs → AreRunsOf found w endpoint span (cut ∷ cuts) (run ∷ runs)

-- in place of the runs: the first host bytes of the first and of the last cut, and how many there are
pub record IsWideOf (found : Found) (w : WindowFields) (endpoint : ℕ) (span : LiveSpan) (cuts : List Cut) (wide : Wide) : Type 0 where
  pub first : IsSomeAnd (slice_get cuts 0) (λ cut. BeginsCut found w endpoint span cut wide.first)
  pub last : IsSomeAnd (slice_get cuts (length cuts - 1)) (λ cut. BeginsCut found w endpoint span cut wide.last)
  pub count : wide.count ≡ length cuts
  pub region : wide.region ≡ span.region

-- the most runs of a span that are told one by one
abbrev pub run_limit : ℕ
run_limit = 64

-- one run for each cut of a span, and in place of more than 64 one wide piece with the first host bytes of the first and of
-- the last, and their number
pub data ArePartsOf (found : Found) (w : WindowFields) (endpoint : ℕ) (span : LiveSpan) (cuts : List Cut) : List Part → Type 0 where
  few : (runs : List Run) → length cuts ≤ run_limit → AreRunsOf found w endpoint span cuts runs → ArePartsOf found w endpoint span cuts (map parts.Run runs)
  many : (wide : Wide) → run_limit < length cuts → IsWideOf found w endpoint span cuts wide → ArePartsOf found w endpoint span cuts (parts.Wide wide ∷ [])

-- what the record touches of one live span
pub record ArePartsIn (entry : Entry) (endpoint : ℕ) (live : List Found) (windows : List WindowFields) (span : LiveSpan) (own : List Part) : Type 0 where
  pub found : Found
  pub w : WindowFields
  pub there : slice_get live span.region ≡ Some found
  pub window : slice_get windows found.window ≡ Some w
  pub are : ArePartsOf found w endpoint span (cuts_of entry found span) own

-- what it touches of some, one after the other
pub data ArePartsInAll (entry : Entry) (endpoint : ℕ) (live : List Found) (windows : List WindowFields) : List LiveSpan → List Part → Type 0 where
  none : ArePartsInAll entry endpoint live windows [] []
  next : (span : LiveSpan) (spans : List LiveSpan) (own others : List Part) → ArePartsIn entry endpoint live windows span own → ArePartsInAll entry endpoint live windows spans others
      → ArePartsInAll entry endpoint live windows (span ∷ spans) (own ++ others)

-- ---- the bytes that no region has

-- the device byte lies in the span
abbrev pub has_byte : LiveSpan → ℕ → Bool
has_byte span dpa = nat_le span.start dpa && nat_lt dpa (span.start + span.len)

-- the device byte lies in no span
abbrev pub is_unmapped : List LiveSpan → ℕ → Bool
is_unmapped spans dpa = not (list_any (λ span. has_byte span dpa) spans)

-- how many bytes of the record lie in no live span
abbrev pub unmapped_count : Entry → List LiveSpan → ℕ
unmapped_count entry spans = count_by (is_unmapped spans) (range_with_len entry.dpa (record_bytes entry))

-- ---- a whole record

-- what a poison record of the endpoint's device touches of the live regions
pub record ArePoisonedPieces (entry : Entry) (endpoint : ℕ) (live : List Found) (windows : List WindowFields) (poisoned : Poisoned) : Type 0 where
  pub spans : List LiveSpan
  pub listed : AreLiveSpans live endpoint spans
  pub are : ArePartsInAll entry endpoint live windows spans poisoned.parts
  pub unmapped : poisoned.unmapped ≡ unmapped_count entry spans

-- ---- the regions to look at

-- the record touches some byte of the span
abbrev pub Touches : Entry → LiveSpan → Type 0
Touches entry span = touched_from entry span < touched_end entry span

-- places of live regions, each once, with those of all whose span of the device the record touches
pub record AreTouchedPlaces (entry : Entry) (endpoint : ℕ) (live : List Found) (places : List ℕ) : Type 0 where
  pub each : All (λ place. place < length live) places
  pub once : AllPairs (λ a b. a ≢ b) places
  pub all : (span : LiveSpan) → IsLiveSpan live endpoint span → Touches entry span → Contains places span.region
