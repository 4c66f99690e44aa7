-- What a poison record touches of live regions can be told.
use Rattle.std.proofs.Common.{ℕ, ◌+◌, ◌-◌, ◌<◌, List, [], ◌∷◌, ◌++◌, length, map, Option, refl, sym, subst, inl, inr, arith}
use Rattle.std.specs.Prelude.{slice_get, All, Contains, IsSomeAnd}
use Rattle.std.proofs.lemmas.Bool.{cases_lt}
use Rattle.std.proofs.lemmas.Option.{slice_get_cases}
use Rattle.std.proofs.lemmas.List.Elements.{All-head, All-tail, All-weaker, All-contains_itself}
use Rattle.cxl_window.specs.Fields.{WindowFields}
use Rattle.cxl_model.specs.declared.found.Found.{Found}
use Rattle.cxl_model.specs.declared.poison.Entry.{Entry}
use Rattle.cxl_model.specs.declared.poison.Part.{Part}
use Rattle.cxl_model.specs.declared.poison.Part.TheVariants as parts
use Rattle.cxl_model.specs.declared.poison.Poisoned.{Poisoned}
use Rattle.cxl_model.specs.declared.poison.Run.{Run}
use Rattle.cxl_model.specs.System.{System, IsSystem}
use Rattle.cxl_model.specs.Bytes.{LiesInSpan}
use Rattle.cxl_model.specs.Regions.{IsRegion, IsRegionIn, Carries}
use Rattle.cxl_poison.specs.declared.live.LiveSpan.{LiveSpan}
use Rattle.cxl_poison.specs.Live.{AreLive, IsSpanOf, IsLiveSpan}
use Rattle.cxl_poison.specs.Pieces.{touched_from, touched_end, stretch_size, Cut, cuts_of, BeginsCut, AreRunsOf, none, next, run_limit, ArePartsOf, few, many, ArePartsIn, ArePartsInAll, unmapped_count, ArePoisonedPieces}
use Rattle.cxl_poison.proofs.LiveLists.{OneSpan, SharesNoByte}
use Rattle.cxl_poison.proofs.Pieced.{WindowsThere, region_at, window_at}
use Rattle.cxl_poison.proofs.RunBytes.{cut_touched}
use Rattle.cxl_poison.proofs.SpanListing.{some_listing}

-- a region carries some host byte to each byte of its spans
abbrev pub CarriesSome : Type 0
CarriesSome =
    (s : System) (w : WindowFields) (found : Found) (endpoint dpa : ℕ) → IsSystem s → IsRegionIn s w found → LiesInSpan found endpoint dpa → (h : ℕ) × Carries found w h endpoint dpa

-- ---- the parts of one span

abbrev StartsIn : LiveSpan → Cut → Type 0
StartsIn span cut = cut.from < span.len

-- each cut of a span begins in it
cuts_start_in : (entry : Entry) (found : Found) (span : LiveSpan) → All (StartsIn span) (cuts_of entry found span)
cuts_start_in entry found span =
    All-weaker (Contains (cuts_of entry found span)) (StartsIn span)
    (λ cut at.
    let touched = cut_touched (touched_from entry span) (touched_end entry span) (stretch_size found span) span.len cut at in
    let some = touched.1 in
    let ends = touched.2 in
    omega (arith, some, ends))
    (cuts_of entry found span) (All-contains_itself (cuts_of entry found span))

module _ (found : Found) (w : WindowFields) (endpoint : ℕ) (span : LiveSpan) (is : IsSpanOf found endpoint span) (onto : (dpa : ℕ) → LiesInSpan found endpoint dpa → (h : ℕ) × Carries found w h endpoint dpa) where
  begins : (cut : Cut) → StartsIn span cut → (h : ℕ) × BeginsCut found w endpoint span cut h
  begins cut below =
      let len = is.len in
      onto (span.start + cut.from) (record { slot = span.slot; place = record { endpoint = endpoint; start = span.start }; there = is.place; here = refl; from = omega arith; below = omega (arith, below, len) })

  runs_of : (cuts : List Cut) → All (StartsIn span) cuts → (runs : List Run) × AreRunsOf found w endpoint span cuts runs
  runs_of [] all = ([], none)
  runs_of (cut ∷ cuts) all =
      let first = begins cut (All-head (StartsIn span) cut cuts all) in
      let run : Run = record { h = first.0; len = cut.len; region = span.region } in
      let rest = runs_of cuts (All-tail (StartsIn span) cut cuts all) in
      (run ∷ rest.0, next cut cuts run rest.0 (record { first = first.1; len = refl; region = refl }) rest.1)

  begins_at : (cuts : List Cut) (k : ℕ) → All (StartsIn span) cuts → k < length cuts → (h : ℕ) × IsSomeAnd (slice_get cuts k) (λ cut. BeginsCut found w endpoint span cut h)
  begins_at cuts k all within = elim (slice_get_cases cuts k).1 [
    | inl at ↦
        let first = begins at.0 (subst (StartsIn span) at.3 (all k at.0 within)) in
        (first.0, subst (λ (o : Option Cut). IsSomeAnd o (λ cut. BeginsCut found w endpoint span cut first.0)) (sym at.2) first.1)
    | inr past ↦ absurd (let out = past.0 in omega (arith, within, out))
  ]

  parts_of : (cuts : List Cut) → All (StartsIn span) cuts → (own : List Part) × ArePartsOf found w endpoint span cuts own
  parts_of cuts all = elim (cases_lt run_limit (length cuts)) [
    | inl long ↦
        let first = begins_at cuts 0 all (omega (arith, long)) in
        let last = begins_at cuts (length cuts - 1) all (omega (arith, long)) in
        (parts.Wide (record { first = first.0; last = last.0; count = length cuts; region = span.region }) ∷ [], many _ long (record { first = first.1; last = last.1; count = refl; region = refl }))
    | inr short ↦
        let runs = runs_of cuts all in
        (map parts.Run runs.0, few runs.0 short runs.1)
  ]

-- ---- a whole record

module _ (carries : CarriesSome) (there : WindowsThere) (entry : Entry) (endpoint : ℕ) (live : List Found) (windows : List WindowFields) (are : AreLive windows live) where
  parts_in : (span : LiveSpan) → IsLiveSpan live endpoint span → (own : List Part) × ArePartsIn entry endpoint live windows span own
  parts_in span is =
      let found : Found = is.found in
      let region : IsRegion are.s found = region_at there windows live are span.region found is.there in
      let own = parts_of found region.0 endpoint span is.here (λ dpa. carries are.s region.0 found endpoint dpa are.system region.1) (cuts_of entry found span) (cuts_start_in entry found span) in
      (own.0, record { found = found; w = region.0; there = is.there; window = window_at there windows live are found region; are = own.1 })

  parts_in_all : (spans : List LiveSpan) → All (IsLiveSpan live endpoint) spans → (own : List Part) × ArePartsInAll entry endpoint live windows spans own
  parts_in_all [] each = ([], none)
  parts_in_all (span ∷ spans) each =
      let own = parts_in span (All-head (IsLiveSpan live endpoint) span spans each) in
      let others = parts_in_all spans (All-tail (IsLiveSpan live endpoint) span spans each) in
      (own.0 ++ others.0, next span spans own.0 others.0 own.1 others.1)

  pub some_telling : OneSpan live endpoint → SharesNoByte live endpoint → (told : Poisoned) × ArePoisonedPieces entry endpoint live windows told
  some_telling one shares =
      let spans = some_listing live endpoint one shares in
      let parts = parts_in_all spans.0 spans.1.each in
      (record { parts = parts.0; unmapped = unmapped_count entry spans.0 }, record { spans = spans.0; listed = spans.1; are = parts.1; unmapped = refl })
