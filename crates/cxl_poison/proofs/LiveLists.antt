-- The live spans of a device: listed region by region, and in the order of its bytes.
use Rattle.std.proofs.Common.{◌≡◌, ◌≢◌, ℕ, ◌+◌, ◌/◌, ◌%◌, ◌<◌, ◌≤◌, ◌^◌, true, List, [], ◌∷◌, ◌++◌, length, map, get_or, Some, refl, sym, ap, subst, ◌∙◌, inl, inr, arith}
use Rattle.std.specs.Prelude.{slice_get, All, AllPairs, Contains, nat_eq}
use Rattle.std.specs.List.{list_any}
use Rattle.std.specs.List.Sorted.{IsPermutation, IsNonDecreasingBy}
use Rattle.std.proofs.lemmas.Bool.{cases_lt, cases_order, eqb-true}
use Rattle.std.proofs.lemmas.Bool.Decides.{Decides-eqb}
use Rattle.std.proofs.lemmas.Cmp.{nat_eq_equiv}
use Rattle.std.proofs.lemmas.Option.{same_Some, slice_get_within, get_or_from_slice_get}
use Rattle.std.proofs.lemmas.List.{get_or-map, length-map}
use Rattle.std.proofs.lemmas.List.Elements.{All-push, Contains-append_left, Contains-push}
use Rattle.std.proofs.lemmas.List.Quantifiers.{all_pairs_push}
use Rattle.std.proofs.lemmas.List.Sorted.{All-permutation, Contains-permutation, IsPermutation-map}
use Rattle.std.proofs.lemmas.List.Folds.{Any-from_list_any}
use Rattle.std.proofs.lemmas.Map.Keys.{IsDistinct-IsPermutation}
use Rattle.std.proofs.lemmas.Map.Steps.{length-le_from_distinct_below}
use Rattle.std.proofs.lemmas.Map.Made.{AllPairs-from_IsDistinct, IsDistinct-from_AllPairs}
use Rattle.cxl_enc.specs.declared.caps.MemKind.TheVariants.{Ram}
use Rattle.cxl_window.specs.Fields.{WindowFields}
use Rattle.cxl_model.specs.declared.found.Found.{Found}
use Rattle.cxl_model.specs.declared.found.Place.{Place}
use Rattle.cxl_model.specs.System.{System}
use Rattle.cxl_model.specs.Regions.{IsRegion, IsRegionIn}
use Rattle.cxl_model.specs.Bytes.{slot_length, LiesInSpan}
use Rattle.cxl_poison.specs.declared.live.LiveSpan.{LiveSpan}
use Rattle.cxl_poison.specs.Live.{IsSpanOf, IsLiveSpan, AreLiveSpans}
use Rattle.cxl_poison.specs.inner.Spans.{AreSomeSpans}

-- ---- what the laws say of the regions of one image

pub record RegionLaws (s : System) : Type 0 where
  pub host : (w v : WindowFields) (found other : Found) (h : ℕ) → IsRegionIn s w found → IsRegionIn s v other
      → found.base ≤ h → h < found.base + found.size → other.base ≤ h → h < other.base + other.size → found ≡ other
  pub device : (w v : WindowFields) (found other : Found) (endpoint dpa : ℕ) → IsRegionIn s w found → IsRegionIn s v other → LiesInSpan found endpoint dpa → LiesInSpan other endpoint dpa → found ≡ other
  pub some : (w : WindowFields) (found : Found) → IsRegionIn s w found → 0 < found.size
  pub low : (w : WindowFields) (found : Found) → IsRegionIn s w found → found.base + found.size ≤ 2 ^ 52
  pub aligned : (w : WindowFields) (found : Found) → IsRegionIn s w found → found.base % 2 ^ 28 ≡ 0
  pub length : (w : WindowFields) (found : Found) → IsRegionIn s w found → 0 < slot_length found
  pub apart : (w : WindowFields) (found : Found) (a b : ℕ) (p q : Place) → IsRegionIn s w found → slice_get found.spans a ≡ Some p → slice_get found.spans b ≡ Some q → p.endpoint ≡ q.endpoint → a ≡ b

-- items of a list in which none stands twice stand at one place
once_at : {X : Type 0} (xs : List X) (i j : ℕ) (x : X) → AllPairs (λ a b. a ≢ b) xs → slice_get xs i ≡ Some x → slice_get xs j ≡ Some x → i ≡ j
once_at xs i j x once at_i at_j =
    let i_in = slice_get_within xs i x at_i in
    let j_in = slice_get_within xs j x at_j in
    let i_is = get_or_from_slice_get xs i x x at_i in
    let j_is = get_or_from_slice_get xs j x x at_j in
    elim (cases_order i j) [
      | inl same ↦ same
      | inr other ↦ elim other [
        | inl less ↦ absurd (once i j x less j_in (i_is ∙ sym j_is))
        | inr more ↦ absurd (once j i x more i_in (j_is ∙ sym i_is))
      ]
    ]

-- ---- spans

made : ℕ → ℕ → ℕ → ℕ → LiveSpan
made region slot start len = record { region = region; slot = slot; start = start; len = len }

abbrev pub region_of : LiveSpan → ℕ
region_of span = span.region

same_span : (a b : LiveSpan) → a.region ≡ b.region → a.slot ≡ b.slot → a.start ≡ b.start → a.len ≡ b.len → a ≡ b
unfolding made
same_span a b region slot start len =
    ap (λ (n : ℕ). made n a.slot a.start a.len) region ∙ ap (λ (n : ℕ). made b.region n a.start a.len) slot ∙ ap (λ (n : ℕ). made b.region b.slot n a.len) start ∙ ap (made b.region b.slot b.start) len

abbrev pub OneSpan : List Found → ℕ → Type 0
OneSpan live endpoint = (a b : LiveSpan) → IsLiveSpan live endpoint a → IsLiveSpan live endpoint b → a.region ≡ b.region → a ≡ b

-- spans of two regions share no byte, and each has one
pub record SharesNoByte (live : List Found) (endpoint : ℕ) : Type 0 where
  pub region : (dpa : ℕ) (a b : LiveSpan) → IsLiveSpan live endpoint a → IsLiveSpan live endpoint b → a.start ≤ dpa → dpa < a.start + a.len → b.start ≤ dpa → dpa < b.start + b.len → a.region ≡ b.region
  pub some : (a : LiveSpan) → IsLiveSpan live endpoint a → 0 < a.len

regions_differ : (spans : List LiveSpan) → AllPairs (λ a b. a.region < b.region) spans → AllPairs (λ a b. a ≢ b) (map region_of spans)
regions_differ spans rising i j d less within same =
    let long : length (map region_of spans) ≡ length spans = length-map spans region_of in
    let i_in : i < length spans = omega arith in
    let j_in : j < length spans = omega arith in
    let any : LiveSpan = made 0 0 0 0 in
    let rises = rising i j any less j_in in
    let regions : (get_or spans i any).region ≡ (get_or spans j any).region = sym (get_or-map region_of spans i any d i_in) ∙ same ∙ get_or-map region_of spans j any d j_in in
    omega (arith, rises, regions)

module _ (s : System) (laws : RegionLaws s) (live : List Found) (each : All (IsRegion s) live) (once : AllPairs (λ a b. a ≢ b) live) where
  pub region_at : (i : ℕ) (found : Found) → slice_get live i ≡ Some found → IsRegion s found
  region_at i found there = subst (IsRegion s) (get_or_from_slice_get live i found found there) (each i found (slice_get_within live i found there))

  -- ---- they are few

  nothing : Found
  nothing = record { base = 0; size = 0; window = 0; gran = 0; ways = 0; kind = Ram; spans = [] }

  unit_of : Found → ℕ
  unit_of found = found.base / 2 ^ 28

  units_differ : AllPairs (λ a b. a ≢ b) (map unit_of live)
  unfolding unit_of
  units_differ i j d less within same =
      let long : length (map unit_of live) ≡ length live = length-map live unit_of in
      let a : Found = get_or live i nothing in
      let b : Found = get_or live j nothing in
      let a_in : i < length live = omega arith in
      let b_in : j < length live = omega arith in
      let a_region = each i nothing a_in in
      let b_region = each j nothing b_in in
      let units : a.base / 2 ^ 28 ≡ b.base / 2 ^ 28 = sym (get_or-map unit_of live i nothing d a_in) ∙ same ∙ get_or-map unit_of live j nothing d b_in in
      let a_aligned = laws.aligned a_region.0 a a_region.1 in
      let b_aligned = laws.aligned b_region.0 b b_region.1 in
      let a_some = laws.some a_region.0 a a_region.1 in
      let b_some = laws.some b_region.0 b b_region.1 in
      let bases : a.base ≡ b.base = omega (arith, units, a_aligned, b_aligned) in
      once i j nothing less b_in (laws.host a_region.0 b_region.0 a b a.base a_region.1 b_region.1 (omega arith) (omega (arith, a_some)) (omega (arith, bases)) (omega (arith, bases, b_some)))

  unit_below : (q : ℕ) → list_any (nat_eq q) (map unit_of live) ≡ true → q < 2 ^ 24
  unfolding unit_of
  unit_below q is =
      let at = Any-from_list_any (nat_eq q) (map unit_of live) is in
      let long : length (map unit_of live) ≡ length live = length-map live unit_of in
      let within : at.0 < length live = omega (arith, at.2, long) in
      let a : Found = get_or live at.0 nothing in
      let region = each at.0 nothing within in
      let low = laws.low region.0 a region.1 in
      let some = laws.some region.0 a region.1 in
      let here : at.1 ≡ a.base / 2 ^ 28 = sym at.3 ∙ get_or-map unit_of live at.0 nothing at.1 within in
      let same : q ≡ at.1 = eqb-true q at.1 at.4 in
      omega (arith, here, same, low, some)

  -- each region has a base of its own at a multiple of 256 MiB
  pub few_live : length live ≤ 2 ^ 24
  few_live =
      let long : length (map unit_of live) ≡ length live = length-map live unit_of in
      let few = length-le_from_distinct_below (map unit_of live) (2 ^ 24) (IsDistinct-from_AllPairs Decides-eqb (map unit_of live) units_differ) unit_below in
      omega (arith, long, few)

  -- ---- one span a region

  pub one_span : (endpoint : ℕ) (a b : LiveSpan) → IsLiveSpan live endpoint a → IsLiveSpan live endpoint b → a.region ≡ b.region → a ≡ b
  one_span endpoint a b a_is b_is same =
      let found : a_is.found ≡ b_is.found = same_Some a_is.found b_is.found (sym a_is.there ∙ ap (slice_get live) same ∙ b_is.there) in
      let region = region_at a.region a_is.found a_is.there in
      let one : Place = record { endpoint = endpoint; start = a.start } in
      let other : Place = record { endpoint = endpoint; start = b.start } in
      let b_place : slice_get a_is.found.spans b.slot ≡ Some other = ap (λ (f : Found). slice_get f.spans b.slot) found ∙ b_is.here.place in
      let slot : a.slot ≡ b.slot = laws.apart region.0 a_is.found a.slot b.slot one other region.1 a_is.here.place b_place refl in
      let place : one ≡ other = same_Some one other (sym a_is.here.place ∙ ap (slice_get a_is.found.spans) slot ∙ b_place) in
      let start : a.start ≡ b.start = ap (λ (p : Place). p.start) place in
      let len : a.len ≡ b.len = a_is.here.len ∙ ap slot_length found ∙ sym b_is.here.len in
      same_span a b same slot start len

  -- ---- no byte in two

  lies_in : (endpoint dpa : ℕ) (a : LiveSpan) (is : IsLiveSpan live endpoint a) → a.start ≤ dpa → dpa < a.start + a.len → LiesInSpan is.found endpoint dpa
  lies_in endpoint dpa a is from below =
      let len = is.here.len in
      record { slot = a.slot; place = record { endpoint = endpoint; start = a.start }; there = is.here.place; here = refl; from = from; below = omega (arith, below, len) }

  pub same_region : (endpoint dpa : ℕ) (a b : LiveSpan) → IsLiveSpan live endpoint a → IsLiveSpan live endpoint b → a.start ≤ dpa → dpa < a.start + a.len → b.start ≤ dpa → dpa < b.start + b.len → a.region ≡ b.region
  same_region endpoint dpa a b a_is b_is a_from a_below b_from b_below =
      let a_region = region_at a.region a_is.found a_is.there in
      let b_region = region_at b.region b_is.found b_is.there in
      let one : a_is.found ≡ b_is.found =
      laws.device a_region.0 b_region.0 a_is.found b_is.found endpoint dpa a_region.1 b_region.1 (lies_in endpoint dpa a a_is a_from a_below) (lies_in endpoint dpa b b_is b_from b_below) in
      once_at live a.region b.region b_is.found once (a_is.there ∙ ap (λ (f : Found). Some f) one) b_is.there

  pub some_len : (endpoint : ℕ) (a : LiveSpan) → IsLiveSpan live endpoint a → 0 < a.len
  some_len endpoint a is =
      let region = region_at a.region is.found is.there in
      let some = laws.length region.0 is.found region.1 in
      let len = is.here.len in
      omega (arith, some, len)

-- ---- region by region

-- the spans of the first n live regions
pub record AreSpansTo (live : List Found) (endpoint n : ℕ) (spans : List LiveSpan) : Type 0 where
  pub each : All (IsLiveSpan live endpoint) spans
  pub all : (span : LiveSpan) → IsLiveSpan live endpoint span → span.region < n → Contains spans span
  pub below : All (λ span. span.region < n) spans
  pub rising : AllPairs (λ a b. a.region < b.region) spans

pub none_yet : (live : List Found) (endpoint : ℕ) → AreSpansTo live endpoint 0 []
none_yet live endpoint = record {
  each = λ k d within. absurd (omega arith);
  all = λ span is none. absurd (omega arith);
  below = λ k d within. absurd (omega arith);
  rising = λ i j d less within. absurd (omega arith);
}

-- the region at n has no span of the device
pub no_more : (live : List Found) (endpoint n : ℕ) (spans : List LiveSpan) (found : Found) → AreSpansTo live endpoint n spans → slice_get live n ≡ Some found
    → ((other : LiveSpan) → IsSpanOf found endpoint other → ⊥) → AreSpansTo live endpoint (n + 1) spans
no_more live endpoint n spans found known there none = record {
  each = known.each;
  all = λ span is less. elim (cases_lt span.region n) [
    | inl before ↦ known.all span is before
    | inr past ↦
        let here : span.region ≡ n = omega (arith, less, past) in
        let same : is.found ≡ found = same_Some is.found found (sym is.there ∙ ap (slice_get live) here ∙ there) in
        absurd (none span (subst (λ (f : Found). IsSpanOf f endpoint span) same is.here))
  ];
  below = λ k d within. let less = known.below k d within in omega (arith, less);
  rising = known.rising;
}

-- the region at n has one
pub one_more : (live : List Found) (endpoint n : ℕ) (spans : List LiveSpan) (found : Found) (span : LiveSpan) → OneSpan live endpoint → AreSpansTo live endpoint n spans → slice_get live n ≡ Some found
    → span.region ≡ n → IsSpanOf found endpoint span → AreSpansTo live endpoint (n + 1) (spans ++ span ∷ [])
one_more live endpoint n spans found span one known there at here =
    let is : IsLiveSpan live endpoint span = record { found = found; there = ap (slice_get live) at ∙ there; here = here } in
    record {
      each = All-push (IsLiveSpan live endpoint) spans span known.each is;
      all = λ other other_is less. elim (cases_lt other.region n) [
        | inl before ↦ Contains-append_left spans (span ∷ []) other (known.all other other_is before)
        | inr past ↦
            let same : other.region ≡ span.region = omega (arith, less, past, at) in
            subst (Contains (spans ++ span ∷ [])) (sym (one other span other_is is same)) (Contains-push spans span)
      ];
      below = All-push (λ s. s.region < n + 1) spans span (λ k d within. let less = known.below k d within in omega (arith, less)) (omega (arith, at));
      rising = all_pairs_push (λ a b. a.region < b.region) spans span known.rising (λ k d within. let less = known.below k d within in omega (arith, less, at));
    }

-- ---- in the order of the device's bytes

-- spans of regions that differ, put in order
pub put_in_order : (live : List Found) (endpoint : ℕ) (spans sorted : List LiveSpan) → SharesNoByte live endpoint → All (IsLiveSpan live endpoint) spans → AllPairs (λ a b. a ≢ b) (map region_of spans)
    → IsPermutation spans sorted → IsNonDecreasingBy (λ (span : LiveSpan). span.start) sorted → AreSomeSpans live endpoint sorted
put_in_order live endpoint spans sorted shares known differ moved up =
    let each : All (IsLiveSpan live endpoint) sorted = All-permutation (IsLiveSpan live endpoint) spans sorted moved known in
    let region : LiveSpan → ℕ = region_of in
    let still : AllPairs (λ a b. a ≢ b) (map region sorted) =
    AllPairs-from_IsDistinct Decides-eqb (map region sorted)
    (IsDistinct-IsPermutation nat_eq nat_eq_equiv.symm (map region spans) (map region sorted) (IsPermutation-map region spans sorted moved) (IsDistinct-from_AllPairs Decides-eqb (map region spans) differ)) in
    record {
      each = each;
      rising = λ i j d less within.
          let a : LiveSpan = get_or sorted i d in
          let b : LiveSpan = get_or sorted j d in
          let i_in : i < length sorted = omega arith in
          let low : a.start ≤ b.start = up i j d (omega arith) within in
          let long : length (map region sorted) ≡ length sorted = length-map sorted region in
          let other : a.region ≢ b.region = λ same.
          still i j d.region less (omega (arith, long)) (get_or-map region sorted i d d.region i_in ∙ same ∙ sym (get_or-map region sorted j d d.region within)) in
          let a_is = each i d i_in in
          let b_is = each j d within in
          elim (cases_lt a.start b.start) [
            | inl strict ↦ strict
            | inr tie ↦
                let starts : a.start ≡ b.start = omega (arith, low, tie) in
                let a_some = shares.some a a_is in
                let b_some = shares.some b b_is in
                absurd (other (shares.region a.start a b a_is b_is (omega arith) (omega (arith, a_some)) (omega (arith, starts)) (omega (arith, starts, b_some))))
          ];
    }

pub in_order : (live : List Found) (endpoint : ℕ) (spans sorted : List LiveSpan) → SharesNoByte live endpoint → AreSpansTo live endpoint (length live) spans
    → IsPermutation spans sorted → IsNonDecreasingBy (λ (span : LiveSpan). span.start) sorted → AreLiveSpans live endpoint sorted
in_order live endpoint spans sorted shares known moved up =
    let some = put_in_order live endpoint spans sorted shares known.each (regions_differ spans known.rising) moved up in
    record {
      each = some.each;
      all = λ span is. Contains-permutation spans sorted span moved (known.all span is (slice_get_within live span.region is.found is.there));
      rising = some.rising;
    }
