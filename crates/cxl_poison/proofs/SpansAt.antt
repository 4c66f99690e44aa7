-- The live spans of regions at some places, listed place by place.
use Rattle.std.proofs.Common.{◌≡◌, ◌≢◌, ℕ, ◌+◌, ◌<◌, List, [], ◌∷◌, ◌++◌, length, map, get_or, Some, sym, ap, subst, ◌∙◌, inl, inr, arith}
use Rattle.std.specs.Prelude.{slice_get, All, AllPairs, Contains}
use Rattle.std.specs.List.Sorted.{IsPermutation, IsNonDecreasingBy}
use Rattle.std.proofs.lemmas.Bool.{cases_lt}
use Rattle.std.proofs.lemmas.Option.{same_Some}
use Rattle.std.proofs.lemmas.List.{get_or-map, length-map}
use Rattle.std.proofs.lemmas.List.Elements.{All-push, Contains-append_left, Contains-push}
use Rattle.std.proofs.lemmas.List.Quantifiers.{all_pairs_push}
use Rattle.std.proofs.lemmas.List.Sorted.{Contains-permutation}
use Rattle.cxl_model.specs.declared.found.Found.{Found}
use Rattle.cxl_poison.specs.declared.live.LiveSpan.{LiveSpan}
use Rattle.cxl_poison.specs.Live.{IsSpanOf, IsLiveSpan}
use Rattle.cxl_poison.specs.inner.Spans.{AreSpansAt}
use Rattle.cxl_poison.proofs.LiveLists.{OneSpan, SharesNoByte, region_of, put_in_order}

-- the spans of the regions at the first n places
pub record AreSpansOf (live : List Found) (endpoint : ℕ) (places : List ℕ) (n : ℕ) (spans : List LiveSpan) : Type 0 where
  pub each : All (IsLiveSpan live endpoint) spans
  pub all : (span : LiveSpan) (k : ℕ) → IsLiveSpan live endpoint span → k < n → k < length places → get_or places k span.region ≡ span.region → Contains spans span
  pub among : All (λ span. (k : ℕ) × (k < n) × (k < length places) × (get_or places k span.region ≡ span.region)) spans
  pub apart : AllPairs (λ a b. a.region ≢ b.region) spans

pub none_yet : (live : List Found) (endpoint : ℕ) (places : List ℕ) → AreSpansOf live endpoint places 0 []
none_yet live endpoint places = record {
  each = λ k d within. absurd (omega (arith, within));
  all = λ span k is low. absurd (omega (arith, low));
  among = λ k d within. absurd (omega (arith, within));
  apart = λ i j d less within. absurd (omega (arith, within));
}

module _ (live : List Found) (endpoint : ℕ) (places : List ℕ) (n place : ℕ) (spans : List LiveSpan) (found : Found) (known : AreSpansOf live endpoint places n spans) (within : n < length places)
    (own : (d : ℕ) → get_or places n d ≡ place) (there : slice_get live place ≡ Some found) where
  wider : All (λ (span : LiveSpan). (k : ℕ) × (k < n + 1) × (k < length places) × (get_or places k span.region ≡ span.region)) spans
  wider i d low =
      let at = known.among i d low in
      let less = at.1 in
      (at.0, omega (arith, less), at.2, at.3)

  -- the region at place n has no span of the device
  pub no_more : ((other : LiveSpan) → IsSpanOf found endpoint other → ⊥) → AreSpansOf live endpoint places (n + 1) spans
  no_more none = record {
    each = known.each;
    all = λ span k is low short at. elim (cases_lt k n) [
      | inl before ↦ known.all span k is before short at
      | inr past ↦
          let last : k ≡ n = omega (arith, low, past) in
          let here : span.region ≡ place = sym at ∙ ap (λ (i : ℕ). get_or places i span.region) last ∙ own span.region in
          let same : is.found ≡ found = same_Some is.found found (sym is.there ∙ ap (slice_get live) here ∙ there) in
          absurd (none span (subst (λ (f : Found). IsSpanOf f endpoint span) same is.here))
    ];
    among = wider;
    apart = known.apart;
  }

  -- it has one
  pub one_more : OneSpan live endpoint → AllPairs (λ a b. a ≢ b) places → (span : LiveSpan) → span.region ≡ place → IsSpanOf found endpoint span → AreSpansOf live endpoint places (n + 1) (spans ++ span ∷ [])
  one_more one once span at here =
      let is : IsLiveSpan live endpoint span = record { found = found; there = ap (slice_get live) at ∙ there; here = here } in
      record {
        each = All-push (IsLiveSpan live endpoint) spans span known.each is;
        all = λ other k other_is low short other_at. elim (cases_lt k n) [
          | inl before ↦ Contains-append_left spans (span ∷ []) other (known.all other k other_is before short other_at)
          | inr past ↦
              let last : k ≡ n = omega (arith, low, past) in
              let same : other.region ≡ span.region = sym other_at ∙ ap (λ (i : ℕ). get_or places i other.region) last ∙ own other.region ∙ sym at in
              subst (Contains (spans ++ span ∷ [])) (sym (one other span other_is is same)) (Contains-push spans span)
        ];
        among = All-push (λ (s : LiveSpan). (k : ℕ) × (k < n + 1) × (k < length places) × (get_or places k s.region ≡ s.region)) spans span wider (n, omega arith, within, own span.region ∙ sym at);
        apart = all_pairs_push (λ (a b : LiveSpan). a.region ≢ b.region) spans span known.apart (λ i d low same.
            let k = known.among i d low in
            let less = k.1 in
            let a : LiveSpan = get_or spans i d in
            let is_place : get_or places k.0 a.region ≡ get_or places n a.region = k.3 ∙ same ∙ at ∙ sym (own a.region) in
            once k.0 n a.region less within is_place);
      }

regions_differ : (spans : List LiveSpan) → AllPairs (λ a b. a.region ≢ b.region) spans → AllPairs (λ a b. a ≢ b) (map region_of spans)
regions_differ spans apart i j d less within same =
    let long : length (map region_of spans) ≡ length spans = length-map spans region_of in
    let i_in : i < length spans = omega (arith, less, within, long) in
    let j_in : j < length spans = omega (arith, within, long) in
    let any : LiveSpan = record { region = 0; slot = 0; start = 0; len = 0 } in
    apart i j any less j_in (sym (get_or-map region_of spans i any d i_in) ∙ same ∙ get_or-map region_of spans j any d j_in)

pub in_order : (live : List Found) (endpoint : ℕ) (places : List ℕ) (spans sorted : List LiveSpan) → SharesNoByte live endpoint → AreSpansOf live endpoint places (length places) spans
    → IsPermutation spans sorted → IsNonDecreasingBy (λ (span : LiveSpan). span.start) sorted → AreSpansAt live endpoint places sorted
in_order live endpoint places spans sorted shares known moved up = record {
  some = put_in_order live endpoint spans sorted shares known.each (regions_differ spans known.apart) moved up;
  all = λ span is at. Contains-permutation spans sorted span moved (known.all span at.0 is at.1 at.1 at.2);
}
