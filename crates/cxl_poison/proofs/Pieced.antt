-- The parts and the unmapped bytes of a record, one live span more at a time.
use Rattle.std.proofs.Common.{◌≡◌, ℕ, ◌+◌, ◌-◌, ◌<◌, ◌≤◌, true, List, [], ◌∷◌, ◌++◌, length, take, get_or, Some, sym, ap, subst, ◌∙◌, inl, inr, append_assoc, arith}
use Rattle.std.specs.Prelude.{slice_get, nat_le, nat_lt}
use Rattle.std.specs.List.{list_any}
use Rattle.std.proofs.lemmas.Bool.{cases_Bool, and_parts, leb-true, ltb-true}
use Rattle.std.proofs.lemmas.Option.{same_Some, slice_get_within, slice_get-get_or, get_or_from_slice_get}
use Rattle.std.proofs.lemmas.List.{append-nil, length-take, get_or-take, get_or_default, take_more}
use Rattle.std.proofs.lemmas.List.Folds.{Any-from_list_any}
use Rattle.cxl_window.specs.Fields.{WindowFields}
use Rattle.cxl_model.specs.declared.found.Found.{Found}
use Rattle.cxl_model.specs.declared.poison.Entry.{Entry}
use Rattle.cxl_model.specs.declared.poison.Part.{Part}
use Rattle.cxl_model.specs.System.{System, IsSystem}
use Rattle.cxl_model.specs.Regions.{IsRegion, IsRegionIn}
use Rattle.cxl_poison.specs.declared.live.LiveSpan.{LiveSpan}
use Rattle.cxl_poison.specs.declared.cutting.Touched.{Touched}
use Rattle.cxl_poison.specs.Live.{AreLive, IsSpanOf, IsLiveSpan}
use Rattle.cxl_poison.specs.Pieces.{touched_from, touched_end, stretch_size, cuts_between, cuts_of, has_byte, unmapped_count, ArePartsIn, ArePartsInAll, none, next}
use Rattle.cxl_poison.specs.inner.Cuts.{IsSpanIn, touched_cuts}
use Rattle.cxl_poison.specs.inner.Spans.{AreSomeSpans}
use Rattle.cxl_poison.proofs.Unmapped.{LiesApart, one_mapped}

-- ---- the region of a span, and its window

abbrev pub WindowsThere : Type 0
WindowsThere = (s : System) (w : WindowFields) (found : Found) → IsSystem s → IsRegionIn s w found → slice_get s.windows found.window ≡ Some w

module _ (there : WindowsThere) (windows : List WindowFields) (live : List Found) (are : AreLive windows live) where
  pub region_at : (i : ℕ) (found : Found) → slice_get live i ≡ Some found → IsRegion are.s found
  region_at i found at = subst (IsRegion are.s) (get_or_from_slice_get live i found found at) (are.each i found (slice_get_within live i found at))

  pub window_at : (found : Found) (region : IsRegion are.s found) → slice_get windows found.window ≡ Some region.0
  window_at found region = subst (λ (ws : List WindowFields). slice_get ws found.window ≡ Some region.0) are.windows_of (there are.s region.0 found are.system region.1)

  pub window_within : (i : ℕ) (found : Found) → slice_get live i ≡ Some found → found.window < length windows
  window_within i found at = let region = region_at i found at in slice_get_within windows found.window region.0 (window_at found region)

  pub region_in : (i : ℕ) (found : Found) (w : WindowFields) → slice_get live i ≡ Some found → slice_get windows found.window ≡ Some w → IsRegionIn are.s w found
  region_in i found w at window =
      let region = region_at i found at in
      subst (λ (v : WindowFields). IsRegionIn are.s v found) (same_Some region.0 w (sym (window_at found region) ∙ window)) region.1

  pub span_in : (endpoint : ℕ) (span : LiveSpan) (found : Found) (w : WindowFields) → IsLiveSpan live endpoint span → slice_get live span.region ≡ Some found → slice_get windows found.window ≡ Some w → IsSpanIn found w span
  span_in endpoint span found w is at window = record {
    s = are.s;
    system = are.system;
    region = region_in span.region found w at window;
    endpoint = endpoint;
    is = subst (λ (f : Found). IsSpanOf f endpoint span) (same_Some is.found found (sym is.there ∙ at)) is.here;
  }

-- ---- a region and its window, as they are read by their places

pub found_read : (live : List Found) (endpoint : ℕ) (span : LiveSpan) (found : Found) → IsLiveSpan live endpoint span → found ≡ get_or live span.region found → slice_get live span.region ≡ Some found
found_read live endpoint span found is read =
    slice_get-get_or live span.region found (slice_get_within live span.region is.found is.there) ∙ ap (λ (f : Found). Some f) (sym read)

module _ (there : WindowsThere) (windows : List WindowFields) (live : List Found) (are : AreLive windows live) (endpoint : ℕ) (span : LiveSpan) (found : Found) (w : WindowFields)
    (is : IsLiveSpan live endpoint span) (read : found ≡ get_or live span.region found) (window : w ≡ get_or windows found.window w) where
  pub window_read : slice_get windows found.window ≡ Some w
  window_read =
      slice_get-get_or windows found.window w (window_within there windows live are span.region found (found_read live endpoint span found is read)) ∙ ap (λ (v : WindowFields). Some v) (sym window)

  pub span_read : IsSpanIn found w span
  span_read = span_in there windows live are endpoint span found w is (found_read live endpoint span found is read) window_read

-- ---- parts

pub more_parts : (entry : Entry) (endpoint : ℕ) (live : List Found) (windows : List WindowFields) (spans : List LiveSpan) (parts : List Part) (span : LiveSpan) (own : List Part)
    → ArePartsInAll entry endpoint live windows spans parts → ArePartsIn entry endpoint live windows span own → ArePartsInAll entry endpoint live windows (spans ++ span ∷ []) (parts ++ own)
more_parts entry endpoint live windows [] parts span own (none) is =
    subst (λ (xs : List Part). ArePartsInAll entry endpoint live windows (span ∷ []) xs) (append-nil own) (next span [] own [] is none)
more_parts entry endpoint live windows (first ∷ spans) parts span own (next _ _ a others one rest) is =
    subst (λ (xs : List Part). ArePartsInAll entry endpoint live windows (first ∷ (spans ++ span ∷ [])) xs) (sym (append_assoc a others own))
    (next first (spans ++ span ∷ []) a (others ++ own) one (more_parts entry endpoint live windows spans others span own rest is))

-- ---- no byte in two spans

pub record Apart (live : List Found) (endpoint : ℕ) : Type 0 where
  pub one : (a b : LiveSpan) → IsLiveSpan live endpoint a → IsLiveSpan live endpoint b → a.region ≡ b.region → a ≡ b
  pub bytes : (dpa : ℕ) (a b : LiveSpan) → IsLiveSpan live endpoint a → IsLiveSpan live endpoint b → a.start ≤ dpa → dpa < a.start + a.len → b.start ≤ dpa → dpa < b.start + b.len → a.region ≡ b.region

-- a byte of a span, as numbers
pub in_bytes : (span : LiveSpan) (dpa : ℕ) → has_byte span dpa ≡ true → (span.start ≤ dpa) × (dpa < span.start + span.len)
in_bytes span dpa is = let parts = and_parts (nat_le span.start dpa) (nat_lt dpa (span.start + span.len)) is in (leb-true span.start dpa parts.0, ltb-true dpa (span.start + span.len) parts.1)

pub lies_apart : (live : List Found) (endpoint : ℕ) (spans : List LiveSpan) (k : ℕ) (x : LiveSpan) → Apart live endpoint → AreSomeSpans live endpoint spans → k < length spans → get_or spans k x ≡ x → LiesApart (take k spans) x
lies_apart live endpoint spans k x apart are within is dpa has =
    elim (cases_Bool (list_any (λ span. has_byte span dpa) (take k spans))) [
      | inr out ↦ out
      | inl held ↦
          let at = Any-from_list_any (λ span. has_byte span dpa) (take k spans) held in
          let y : LiveSpan = at.1 in
          let long = length-take k spans in
          let before : at.0 < k = omega (arith, at.2, long, within) in
          let there : get_or spans at.0 y ≡ y = sym (get_or-take k spans at.0 y before) ∙ at.3 in
          let y_is : IsLiveSpan live endpoint y = subst (IsLiveSpan live endpoint) there (are.each at.0 y (omega (arith, before, within))) in
          let x_is : IsLiveSpan live endpoint x = subst (IsLiveSpan live endpoint) is (are.each k x within) in
          let y_bytes = in_bytes y dpa at.4 in
          let x_bytes = in_bytes x dpa has in
          let same : y ≡ x = apart.one y x y_is x_is (apart.bytes dpa y x y_is x_is y_bytes.0 y_bytes.1 x_bytes.0 x_bytes.1) in
          let rises = are.rising at.0 k x before within in
          let first : (get_or spans at.0 x).start ≡ x.start =
          ap (λ (z : LiveSpan). (get_or spans at.0 z).start) (sym same) ∙ ap (λ (z : LiveSpan). z.start) there ∙ ap (λ (z : LiveSpan). z.start) same in
          let second : (get_or spans k x).start ≡ x.start = ap (λ (z : LiveSpan). z.start) is in
          absurd (omega (arith, rises, first, second))
    ]

-- of the bytes that lie in none of the first spans, the next one takes those that the record touches of it
pub next_mapped : (entry : Entry) (live : List Found) (endpoint : ℕ) (spans : List LiveSpan) (k : ℕ) (d : LiveSpan) → Apart live endpoint → AreSomeSpans live endpoint spans → k < length spans
    → unmapped_count entry (take k spans) ≡ unmapped_count entry (take (k + 1) spans) + (touched_end entry (get_or spans k d) - touched_from entry (get_or spans k d))
next_mapped entry live endpoint spans k d apart are within =
    let x : LiveSpan = get_or spans k d in
    one_mapped entry (take k spans) x (lies_apart live endpoint spans k x apart are within (get_or_default spans k x d within))
    ∙ ap (λ (xs : List LiveSpan). unmapped_count entry xs + (touched_end entry x - touched_from entry x)) (sym (take_more spans k d within))

pub none_so_far : (entry : Entry) (endpoint : ℕ) (live : List Found) (windows : List WindowFields) → ArePartsInAll entry endpoint live windows [] []
none_so_far entry endpoint live windows = none

pub same_cuts : (entry : Entry) (found : Found) (span : LiveSpan) (touched : Touched) → touched.from ≡ touched_from entry span → touched.end ≡ touched_end entry span → touched.size ≡ stretch_size found span
    → touched_cuts touched span ≡ cuts_of entry found span
same_cuts entry found span touched from end size =
    ap (λ (n : ℕ). cuts_between n touched.end touched.size span.len) from ∙ ap (λ (n : ℕ). cuts_between (touched_from entry span) n touched.size span.len) end
    ∙ ap (λ (n : ℕ). cuts_between (touched_from entry span) (touched_end entry span) n span.len) size
