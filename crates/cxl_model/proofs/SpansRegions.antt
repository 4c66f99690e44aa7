-- A whole range has one region.
use Rattle.std.proofs.Common.{◌≡◌, ℕ, ◌<◌, if◌then◌else◌, List, length, get_or, map, Some, refl, sym, ap, ◌∙◌, subst, arith}
use Rattle.std.specs.Prelude.{slice_get, ◌==◌}
use Rattle.std.specs.List.{range_with_len}
use Rattle.std.proofs.lemmas.Option.{slice_get_within, slice_get-get_or, get_or_from_slice_get}
use Rattle.std.proofs.lemmas.List.{same_lists}
use Rattle.std.proofs.lemmas.List.FromFn.{length-map-range_with_len, get_or-map-range_with_len}
use Rattle.cxl_topo.specs.Tree.{bridge_with}
use Rattle.cxl_window.specs.Fields.{WindowFields}
use Rattle.cxl_topo.proofs.Trees.{KnownTree}
use Rattle.cxl_model.specs.declared.found.Found.{Found}
use Rattle.cxl_model.specs.declared.found.Place.{Place}
use Rattle.cxl_model.specs.System.{System, IsSystem}
use Rattle.cxl_regs.specs.declared.reading.Range.{Range}
use Rattle.cxl_model.specs.Ranges.{IsCommittedRange, window_for, range_ways, range_kind, range_code}
use Rattle.cxl_model.specs.Accepted.{IsWhole}
use Rattle.cxl_model.specs.Regions.{target_position, LeadsTo, HasSpan, region_range, IsRegionIn}
use Rattle.cxl_model.proofs.Outcomes.{one_value}
use Rattle.cxl_model.proofs.RangeRules.{RangesRise, served, in_window}
use Rattle.cxl_model.proofs.SpansSlots.{one_place}
use Rattle.cxl_model.proofs.SpansPlaces.{Spanned, spanned}
use Rattle.cxl_model.proofs.Spans.{rooting}

-- ---- there is one

abbrev region_by : System → WindowFields → Range → (ℕ → Place) → Found
region_by s w r place_at = record {
  base = r.base;
  size = r.size;
  window = w.index;
  gran = if range_ways s r == 1 then 0 else range_code s w r;
  ways = range_ways s r;
  kind = range_kind s r;
  spans = map place_at (range_with_len 0 (range_ways s r));
}

-- the span that is found at a slot
span_at : (s : System) (w : WindowFields) (r : Range) (each : (slot : ℕ) → Spanned s w r slot) (n slot : ℕ) (place : Place)
    → slice_get (map (λ k. (each k).place) (range_with_len 0 n)) slot ≡ Some place → HasSpan s w r slot place
span_at s w r each n slot place at =
    let places : List Place = map (λ k. (each k).place) (range_with_len 0 n) in
    let within : slot < n = subst (λ (k : ℕ). slot < k) (length-map-range_with_len (λ k. (each k).place) 0 n) (slice_get_within places slot place at) in
    let same : (each slot).place ≡ place = sym (get_or-map-range_with_len (λ k. (each k).place) 0 n slot slot place within (omega arith)) ∙ get_or_from_slice_get places slot place place at in
    subst (HasSpan s w r slot) same (each slot).span

-- a region of the range
pub record HasRegion (s : System) (r : Range) : Type 0 where
  pub window : WindowFields
  pub found : Found
  pub region : IsRegionIn s window found
  pub range : region_range found ≡ r

pub has_region : RangesRise → (s : System) (r : Range) → IsSystem s → KnownTree s.nodes → IsWhole s r → IsCommittedRange s r → HasRegion s r
has_region rise s r system known whole committed =
    let at = served s r committed.0 committed.1 in
    let window = in_window s r whole committed.0 at.i at.d at.there at.has in
    let w : WindowFields = window.0 in
    let each : (slot : ℕ) → Spanned s w r slot = λ slot. spanned rise s w r system known whole window.1 committed slot in
    record {
      window = w;
      found = region_by s w r (λ slot. (each slot).place);
      region = record {
        committed = committed;
        whole = whole;
        window = window.1;
        index = refl;
        ways = refl;
        code = refl;
        kind = refl;
        slots = length-map-range_with_len (λ slot. (each slot).place) 0 (range_ways s r);
        spans = span_at s w r each (range_ways s r);
      };
      range = refl;
    }

-- ---- and only one

one_span : (s : System) (w : WindowFields) (r : Range) (slot : ℕ) (p q : Place) → KnownTree s.nodes → HasSpan s w r slot p → HasSpan s w r slot q → p ≡ q
one_span s w r slot p q known one other =
    let from = rooting s w r slot p one in
    let to = rooting s w r slot q other in
    let uid : from.uid ≡ to.uid = one_value (slice_get w.targets (target_position w slot)) from.uid to.uid from.at to.at in
    let bridge : other.bridge ≡ one.bridge = one_value (bridge_with s.nodes to.uid) other.bridge one.bridge to.found (ap (bridge_with s.nodes) (sym uid) ∙ from.found) in
    one_place s w r slot one.bridge p q known one.leads (subst (λ (n : ℕ). LeadsTo s w r slot n q) bridge other.leads)

-- the parts of a region that its range, its window and its spans tell
record Parts (s : System) (w : WindowFields) (r : Range) (found : Found) : Type 0 where
  range : region_range found ≡ r
  window : found.window ≡ w.index
  ways : found.ways ≡ range_ways s r
  gran : found.gran ≡ (if found.ways == 1 then 0 else range_code s w r)
  kind : found.kind ≡ range_kind s r
  slots : length found.spans ≡ found.ways
  spans : (slot : ℕ) (place : Place) → slice_get found.spans slot ≡ Some place → HasSpan s w r slot place

parts : (s : System) (w v : WindowFields) (r : Range) (found : Found) → IsRegionIn s v found → region_range found ≡ r → w ≡ v → Parts s w r found
parts s w v r found is range same = record {
  range = range;
  window = is.index ∙ ap (λ (u : WindowFields). u.index) (sym same);
  ways = is.ways ∙ ap (range_ways s) range;
  gran = is.code ∙ ap (λ (u : WindowFields). if found.ways == 1 then 0 else range_code s u (region_range found)) (sym same) ∙ ap (λ (q : Range). if found.ways == 1 then 0 else range_code s w q) range;
  kind = is.kind ∙ ap (range_kind s) range;
  slots = is.slots;
  spans = λ slot place at. subst (λ (q : Range). HasSpan s w q slot place) range (subst (λ (u : WindowFields). HasSpan s u (region_range found) slot place) (sym same) (is.spans slot place at));
}

same_parts : (s : System) (w : WindowFields) (r : Range) (found other : Found) → KnownTree s.nodes → Parts s w r found → Parts s w r other → found ≡ other
same_parts s w r found other known one two =
    let range : region_range found ≡ region_range other = one.range ∙ sym two.range in
    let base = ap (λ (q : Range). q.base) range in
    let size = ap (λ (q : Range). q.size) range in
    let window = one.window ∙ sym two.window in
    let ways = one.ways ∙ sym two.ways in
    let gran = one.gran ∙ ap (λ (n : ℕ). if n == 1 then 0 else range_code s w r) ways ∙ sym two.gran in
    let kind = one.kind ∙ sym two.kind in
    let long : length found.spans ≡ length other.spans = one.slots ∙ ways ∙ sym two.slots in
    let spans : found.spans ≡ other.spans =
    same_lists found.spans other.spans long (λ k d within.
    one_span s w r k (get_or found.spans k d) (get_or other.spans k d) known (one.spans k (get_or found.spans k d) (slice_get-get_or found.spans k d within))
    (two.spans k (get_or other.spans k d) (slice_get-get_or other.spans k d (subst (λ (n : ℕ). k < n) long within)))) in
    λ k. record { base = base k; size = size k; window = window k; gran = gran k; ways = ways k; kind = kind k; spans = spans k }

-- regions of one range are one region
pub one_region : (s : System) (w v : WindowFields) (found other : Found) → KnownTree s.nodes → IsRegionIn s w found → IsRegionIn s v other → region_range found ≡ region_range other → found ≡ other
one_region s w v found other known one two range =
    let same : w ≡ v = one_value (window_for s (region_range other)) w v (ap (window_for s) (sym range) ∙ one.window) two.window in
    same_parts s w (region_range other) found other known (parts s w w (region_range other) found one range refl) (parts s w v (region_range other) other two refl same)
