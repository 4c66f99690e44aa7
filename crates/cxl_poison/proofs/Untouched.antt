-- Spans that a record does not touch have no part and no byte of it: what is told of the others is told of all.
use Rattle.std.proofs.Common.{◌≡◌, ℕ, ◌+◌, ◌*◌, ◌/◌, ◌<◌, ◌≤◌, min, max, true, not, List, [], ◌∷◌, ◌++◌, sym, ap, subst, ◌∙◌, inl, inr, arith}
use Rattle.std.specs.Prelude.{All, Contains}
use Rattle.std.specs.List.{list_any}
use Rattle.std.proofs.lemmas.Bool.{cases_Bool, cases_lt, false≢true}
use Rattle.std.proofs.lemmas.List.Elements.{All-head, All-tail}
use Rattle.std.proofs.lemmas.List.Folds.{Any-from_list_any, list_any_at}
use Rattle.cxl_window.specs.Fields.{WindowFields}
use Rattle.cxl_model.specs.declared.found.Found.{Found}
use Rattle.cxl_model.specs.declared.poison.Entry.{Entry}
use Rattle.cxl_model.specs.declared.poison.Part.{Part}
use Rattle.cxl_model.specs.Regions.{IsRegion}
use Rattle.cxl_poison.specs.declared.live.LiveSpan.{LiveSpan}
use Rattle.cxl_poison.specs.Live.{AreLive, IsLiveSpan}
use Rattle.cxl_poison.specs.Pieces.{touched_from, touched_end, stretch_size, Cut, cut_at, cuts_between, has_byte, is_unmapped, record_bytes, unmapped_count, Touches, ArePartsOf, few, none, next, ArePartsIn, ArePartsInAll, ArePoisonedPieces}
use Rattle.cxl_poison.specs.inner.Spans.{AreTouchedSpans}
use Rattle.cxl_poison.proofs.LiveLists.{OneSpan, SharesNoByte}
use Rattle.cxl_poison.proofs.OneTelling.{Rises, rest_rises, first_below, in_either, at_first, in_rest, rest_in}
use Rattle.cxl_poison.proofs.Pieced.{WindowsThere, region_at, window_at, in_bytes}
use Rattle.cxl_poison.proofs.SpanListing.{some_listing}
use Rattle.cxl_poison.proofs.Stretches.{none_of, empty_cut}
use Rattle.cxl_poison.proofs.Unmapped.{count_same}

-- where no bytes are touched, none are cut
no_cuts : (from end size len : ℕ) → end ≤ from → cuts_between from end size len ≡ []
no_cuts from end size len past = none_of (cut_at from end size) 0 (len / size) (λ n _ _. empty_cut (max from (n * size)) (min end ((n + 1) * size)) (omega (arith, past)))

-- some spans are among all, and have those of all that the record touches
record AreAmong (entry : Entry) (all some : List LiveSpan) : Type 0 where
  back : (z : LiveSpan) → Contains some z → Contains all z
  touched : (z : LiveSpan) → Contains all z → Touches entry z → Contains some z

-- ---- the bytes that no span has

module _ (entry : Entry) (all some : List LiveSpan) (among : AreAmong entry all some) (dpa : ℕ) where
  abbrev Holds : List LiveSpan → Type 0
  Holds spans = list_any (λ (span : LiveSpan). has_byte span dpa) spans ≡ true

  -- a span that has the byte is in the other list
  held : (spans : List LiveSpan) (z : LiveSpan) → Contains spans z → has_byte z dpa ≡ true → Holds spans
  held spans z (k, low, is) has = list_any_at (λ (span : LiveSpan). has_byte span dpa) spans k z low (ap (λ (s : LiveSpan). has_byte s dpa) is ∙ has)

  forth : entry.dpa ≤ dpa → dpa < entry.dpa + record_bytes entry → Holds all → Holds some
  forth from below has =
      let at = Any-from_list_any (λ (span : LiveSpan). has_byte span dpa) all has in
      let z : LiveSpan = at.1 in
      let bytes = in_bytes z dpa at.4 in
      let start = bytes.0 in
      let ends = bytes.1 in
      let touches : Touches entry z = omega (arith, from, below, start, ends) in
      held some z (among.touched z (at.0, at.2, at.3) touches) at.4

  backward : Holds some → Holds all
  backward has =
      let at = Any-from_list_any (λ (span : LiveSpan). has_byte span dpa) some has in
      held all at.1 (among.back at.1 (at.0, at.2, at.3)) at.4

  alike : entry.dpa ≤ dpa → dpa < entry.dpa + record_bytes entry → list_any (λ (span : LiveSpan). has_byte span dpa) all ≡ list_any (λ (span : LiveSpan). has_byte span dpa) some
  alike from below = elim (cases_Bool (list_any (λ (span : LiveSpan). has_byte span dpa) all)) [
    | inl has ↦ has ∙ sym (forth from below has)
    | inr lacks ↦ elim (cases_Bool (list_any (λ (span : LiveSpan). has_byte span dpa) some)) [
      | inl other ↦ absurd (false≢true (sym lacks ∙ backward other))
      | inr also ↦ lacks ∙ sym also
    ]
  ]

same_unmapped : (entry : Entry) (all some : List LiveSpan) → AreAmong entry all some → unmapped_count entry all ≡ unmapped_count entry some
same_unmapped entry all some among = count_same (is_unmapped all) (is_unmapped some) entry.dpa (record_bytes entry) (λ dpa from below. ap not (alike entry all some among dpa from below))

-- ---- the first span, and the rest

-- the first of all is the first of these
same_rest : (entry : Entry) (x y : LiveSpan) (xs ys : List LiveSpan) → x ≡ y → Rises (x ∷ xs) → Rises (y ∷ ys) → AreAmong entry (x ∷ xs) (y ∷ ys) → AreAmong entry xs ys
same_rest entry x y xs ys same x_rises y_rises among = record {
  back = rest_in y x ys xs (sym same) y_rises among.back;
  touched = λ z at touches. elim (in_either y ys z (among.touched z (in_rest x xs z at) touches)) [
    | inr there ↦ there
    | inl first ↦
        let below = first_below x xs z x_rises at in
        let start : x.start ≡ z.start = ap (λ (s : LiveSpan). s.start) (same ∙ first) in
        absurd (omega (arith, below, start))
  ];
}

-- it is none of these
other_rest : (entry : Entry) (x : LiveSpan) (xs ys : List LiveSpan) → (Contains ys x → ⊥) → AreAmong entry (x ∷ xs) ys → AreAmong entry xs ys
other_rest entry x xs ys absent among = record {
  back = λ z at. elim (in_either x xs z (among.back z at)) [
    | inl first ↦ absurd (absent (subst (Contains ys) (sym first) at))
    | inr there ↦ there
  ];
  touched = λ z at touches. among.touched z (in_rest x xs z at) touches;
}

-- the first of these comes behind the first of all, which then is none of them
none_before : (x y : LiveSpan) (xs ys : List LiveSpan) → Rises (x ∷ xs) → Rises (y ∷ ys) → Contains xs y → Contains (y ∷ ys) x → ⊥
none_before x y xs ys x_rises y_rises later at =
    let behind = first_below x xs y x_rises later in
    elim (in_either y ys x at) [
      | inl same ↦ let start : y.start ≡ x.start = ap (λ (s : LiveSpan). s.start) same in absurd (omega (arith, behind, start))
      | inr rest ↦ let before = first_below y ys x y_rises rest in absurd (omega (arith, behind, before))
    ]

-- ---- the parts

module _ (there : WindowsThere) (entry : Entry) (endpoint : ℕ) (live : List Found) (windows : List WindowFields) (are : AreLive windows live) where
  untouched_parts : (span : LiveSpan) → IsLiveSpan live endpoint span → touched_end entry span ≤ touched_from entry span → ArePartsIn entry endpoint live windows span []
  untouched_parts span is past =
      let found : Found = is.found in
      let region : IsRegion are.s found = region_at there windows live are span.region found is.there in
      record {
        found = found;
        w = region.0;
        there = is.there;
        window = window_at there windows live are found region;
        are =
            subst (λ (cuts : List Cut). ArePartsOf found region.0 endpoint span cuts []) (sym (no_cuts (touched_from entry span) (touched_end entry span) (stretch_size found span) span.len past))
            (few [] (omega arith) none);
      }

  -- the first of all has no parts where it is none of these
  absent_parts : (span : LiveSpan) (spans some : List LiveSpan) → IsLiveSpan live endpoint span → AreAmong entry (span ∷ spans) some → (Contains some span → ⊥) → ArePartsIn entry endpoint live windows span []
  absent_parts span spans some is among absent = elim (cases_lt (touched_from entry span) (touched_end entry span)) [
    | inl touches ↦ absurd (absent (among.touched span (at_first span spans) touches))
    | inr past ↦ untouched_parts span is past
  ]

  all_parts : (all some : List LiveSpan) (own : List Part) → All (IsLiveSpan live endpoint) all → Rises all → Rises some → AreAmong entry all some
      → ArePartsInAll entry endpoint live windows some own → ArePartsInAll entry endpoint live windows all own
  all_parts [] [] own each all_rises some_rises among none = none
  all_parts [] (y ∷ ys) own each all_rises some_rises among parts = absurd (let at = among.back y (at_first y ys) in let within = at.1 in omega (arith, within))
  all_parts (x ∷ xs) [] own each all_rises some_rises among none =
      let absent : Contains [] x → ⊥ = λ at. let within = at.1 in omega (arith, within) in
      next x xs [] [] (absent_parts x xs [] (All-head (IsLiveSpan live endpoint) x xs each) among absent)
      (all_parts xs [] [] (All-tail (IsLiveSpan live endpoint) x xs each) (rest_rises x xs all_rises) some_rises (other_rest entry x xs [] absent among) none)
  all_parts (x ∷ xs) (y ∷ ys) own each all_rises some_rises among (next _ _ a others first rest) = elim (in_either x xs y (among.back y (at_first y ys))) [
    | inl same ↦
        next x xs a others (subst (λ (s : LiveSpan). ArePartsIn entry endpoint live windows s a) (sym same) first)
        (all_parts xs ys others (All-tail (IsLiveSpan live endpoint) x xs each) (rest_rises x xs all_rises) (rest_rises y ys some_rises) (same_rest entry x y xs ys same all_rises some_rises among) rest)
    | inr later ↦
        let absent : Contains (y ∷ ys) x → ⊥ = none_before x y xs ys all_rises some_rises later in
        next x xs [] (a ++ others) (absent_parts x xs (y ∷ ys) (All-head (IsLiveSpan live endpoint) x xs each) among absent)
        (all_parts xs (y ∷ ys) (a ++ others) (All-tail (IsLiveSpan live endpoint) x xs each) (rest_rises x xs all_rises) some_rises (other_rest entry x xs (y ∷ ys) absent among) (next y ys a others first rest))
  ]

  -- what a record touches of some spans, with all that it touches, is what it touches of all live regions
  pub told_of_all : OneSpan live endpoint → SharesNoByte live endpoint → (some : List LiveSpan) (own : List Part) (unmapped : ℕ) → AreTouchedSpans entry endpoint live some
      → ArePartsInAll entry endpoint live windows some own → unmapped ≡ unmapped_count entry some → ArePoisonedPieces entry endpoint live windows (record { parts = own; unmapped = unmapped })
  told_of_all one shares some own unmapped touched parts count =
      let listing = some_listing live endpoint one shares in
      let all : List LiveSpan = listing.0 in
      let listed = listing.1 in
      let among : AreAmong entry all some = record {
        back = λ z at. listed.all z (subst (IsLiveSpan live endpoint) at.2 (touched.some.each at.0 z at.1));
        touched = λ z at touches. touched.all z (subst (IsLiveSpan live endpoint) at.2 (listed.each at.0 z at.1)) touches;
      } in
      record {
        spans = all;
        listed = listed;
        are = all_parts all some own listed.each listed.rising touched.some.rising among parts;
        unmapped = count ∙ sym (same_unmapped entry all some among);
      }
