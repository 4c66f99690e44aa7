-- What a record touches of the worked region of two ways: one run, at the end of the first endpoint's span.
use Rattle.std.proofs.Common.{◌≡◌, ℕ, zero, suc, ◌+◌, ◌-◌, ◌*◌, ◌/◌, ◌<◌, ◌≤◌, List, [], ◌∷◌, length, get_or, Some, refl, sym, ap, subst, ◌∙◌, arith}
use Rattle.std.specs.Prelude.{slice_get}
use Rattle.std.specs.List.{filter_map, range_with_len}
use Rattle.std.proofs.lemmas.Option.{none-some, same_Some}
use Rattle.cxl_window.specs.Fields.{WindowFields}
use Rattle.cxl_model.specs.declared.found.Found.{Found}
use Rattle.cxl_model.specs.declared.found.Place.{Place}
use Rattle.cxl_model.specs.declared.poison.Entry.{Entry}
use Rattle.cxl_model.specs.declared.poison.Part.TheVariants as parts
use Rattle.cxl_model.specs.declared.poison.Run.{Run}
use Rattle.cxl_model.specs.Bytes.{slot_length}
use Rattle.cxl_poison.specs.Live.{SpanFields, IsLiveSpan, AreLiveSpans}
use Rattle.cxl_poison.specs.Pieces.{touched_from, touched_end, stretch_size, Cut, cut_at, cuts_between, cuts_of, IsRunOf, ArePartsOf, few, none, next, unmapped_count, ArePoisonedPieces}
use Rattle.cxl_worked.specs.ExampleRegions.{region_of_two}

-- ---- a record that touches one stretch of one span

-- only touched stretches have cuts
abbrev pub StretchLaw : Type 0
StretchLaw =
    (from end size len : ℕ) → 0 < size → len / size * size ≡ len → end ≤ len → cuts_between from end size len ≡ filter_map (cut_at from end size) (range_with_len (from / size) ((end - 1) / size + 1 - from / size))

-- the span is one of a region, its stretches fill it, and one of them is touched
pub record TouchesOne (entry : Entry) (found : Found) (span : SpanFields) (cut : Cut) : Type 0 where
  pub some : 0 < stretch_size found span
  pub whole : span.len / stretch_size found span * stretch_size found span ≡ span.len
  pub ends : touched_end entry span ≤ span.len
  pub one : filter_map (cut_at (touched_from entry span) (touched_end entry span) (stretch_size found span)) (range_with_len (touched_from entry span / stretch_size found span) ((touched_end entry span - 1) / stretch_size found span + 1 - touched_from entry span / stretch_size found span)) ≡ cut ∷ []

pub one_run : StretchLaw → (entry : Entry) (endpoint : ℕ) (live : List Found) (windows : List WindowFields) (found : Found) (w : WindowFields) (span : SpanFields) (cut : Cut) (run : Run)
    → AreLiveSpans live endpoint (span ∷ []) → slice_get live span.region ≡ Some found → slice_get windows found.window ≡ Some w → TouchesOne entry found span cut → IsRunOf found w endpoint span cut run
    → ArePoisonedPieces entry endpoint live windows (record { parts = parts.Run run ∷ []; unmapped = unmapped_count entry (span ∷ []) })
one_run law entry endpoint live windows found w span cut run listed there window touches is =
    let cuts : cuts_of entry found span ≡ cut ∷ [] = law (touched_from entry span) (touched_end entry span) (stretch_size found span) span.len touches.some touches.whole touches.ends ∙ touches.one in
    let own : ArePartsOf found w endpoint span (cut ∷ []) (parts.Run run ∷ []) = few (run ∷ []) (omega arith) (next cut [] run [] is none) in
    record {
      spans = span ∷ [];
      listed = listed;
      are = next span [] (parts.Run run ∷ []) [] (record {
        found = found;
        w = w;
        there = there;
        window = window;
        are = subst (λ (cuts : List Cut). ArePartsOf found w endpoint span cuts (parts.Run run ∷ [])) (sym cuts) own;
      }) none;
      unmapped = refl;
    }

-- ---- the first endpoint's span

abbrev live : List Found
live = region_of_two ∷ []

abbrev place : ℕ → Place
place start = record { endpoint = 2; start = start }

abbrev made : ℕ → ℕ → ℕ → SpanFields
made slot start len = record { region = 0; slot = slot; start = start; len = len }

abbrev pub first_span : SpanFields
first_span = made 0 0 0x10000000

at_slot : (slot start len : ℕ) → slice_get region_of_two.spans slot ≡ Some (place start) → len ≡ 0x10000000 → first_span ≡ made slot start len
at_slot zero start len there is =
    let starts : 0 ≡ start = ap (λ (p : Place). p.start) (same_Some (place 0) (place start) there) in
    ap (λ (n : ℕ). made 0 n 0x10000000) starts ∙ ap (made 0 start) (sym is)
at_slot (suc zero) start len there is = absurd (let other : 3 ≡ 2 = ap (λ (p : Place). p.endpoint) (same_Some (record { endpoint = 3; start = 0 }) (place start) there) in omega (arith, other))
at_slot (suc (suc slot)) start len there is = absurd (none-some (place start) there)

at_region : (region slot start len : ℕ) (found : Found) → slice_get live region ≡ Some found → slice_get found.spans slot ≡ Some (place start) → len ≡ slot_length found
    → first_span ≡ record { region = region; slot = slot; start = start; len = len }
at_region zero slot start len found there here is =
    let same : found ≡ region_of_two = sym (same_Some region_of_two found there) in
    at_slot slot start len (subst (λ (f : Found). slice_get f.spans slot ≡ Some (place start)) same here) (is ∙ ap slot_length same)
at_region (suc region) slot start len found there here is = absurd (none-some found there)

only_span : (k : ℕ) (d : SpanFields) → k < length (first_span ∷ []) → IsLiveSpan live 2 (get_or (first_span ∷ []) k d)
only_span zero d within = record { found = region_of_two; there = refl; here = record { place = refl; len = refl } }
only_span (suc k) d within = absurd (omega (arith, within))

pub first_listed : AreLiveSpans live 2 (first_span ∷ [])
first_listed = record {
  each = only_span;
  all = λ span is. (0, omega arith, at_region span.region span.slot span.start span.len is.found is.there is.here.place is.here.len);
  rising = λ i j d less within. absurd (omega (arith, less, within));
}
