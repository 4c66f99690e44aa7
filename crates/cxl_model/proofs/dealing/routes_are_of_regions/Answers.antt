use Rattle.std.proofs.Common.{◌≡◌, ℕ, ◌+◌, ◌<◌, ◌≤◌, Some, sym, subst}
use Rattle.cxl_window.specs.Fields.{WindowFields}
use Rattle.cxl_model.specs.declared.found.Found.{Found}
use Rattle.cxl_model.specs.System.{System, IsSystem}
use Rattle.cxl_model.specs.Chain.{Routing, Routed, Chain}
use Rattle.cxl_regs.specs.declared.reading.Range.{Range}
use Rattle.cxl_model.specs.Ranges.{window_for}
use Rattle.cxl_model.specs.Accepted.{IsAccepted}
use Rattle.cxl_model.specs.Regions.{region_range, IsRegionIn, Carries}
use Rattle.cxl_model.specs.Bytes.{LiesInSpan}
use Rattle.cxl_model.specs.Dealing.{IsDealtRoute}
use Rattle.cxl_model.proofs.Outcomes.{one_value}
use Rattle.cxl_model.proofs.dealing.routes_are_of_regions.Goals as goal

-- the region of a route
record Owned (s : System) (h : ℕ) (route : Routing) : Type 0 where
  w : WindowFields
  found : Found
  is : IsRegionIn s w found
  dealt : IsDealtRoute s w found h route

owned : (c : goal.After-bytes_are_carried_one_to_one) (s : System) (h : ℕ) (route : Routing) → IsSystem s → IsAccepted s → Chain s h (Routed route) → Owned s h route
owned c s h route system accepted chain =
    let in_range = c.routes_lie_in_ranges.ensures s h route chain in
    let whole = ((c.accepted_where_whole.ensures s).0 accepted).1 in_range.0 in_range.1 in
    let region = c.whole_ranges_have_one_region.ensures.some s in_range.0 system in_range.1 whole in
    let w : WindowFields = region.0 in
    let found : Found = region.1 in
    let from : found.base ≤ h = subst (λ (r : Range). r.base ≤ h) (sym region.3) in_range.3 in
    let below : h < found.base + found.size = subst (λ (r : Range). h < r.base + r.size) (sym region.3) in_range.4 in
    let all = c.chain_is_the_dealing.ensures.only s w found h (Routed route) system region.2 from below chain in
    let same : route ≡ all.0 = cc (all.1) in
    record { w = w; found = found; is = region.2; dealt = subst (IsDealtRoute s w found h) (sym same) all.2 }

pub returns-clause-only : goal.returns-clause-only
returns-clause-only c = λ s h route system accepted chain.
    let all = owned c s h route system accepted chain in
    (all.w, all.found, all.is, all.dealt)

pub returns-clause-apart : goal.returns-clause-apart
returns-clause-apart c = λ s h i one other system accepted chain next endpoint dpa.
    let a = owned c s h one system accepted chain in
    let b = owned c s i other system accepted next in
    let at : Carries b.found b.w i one.arrival.endpoint one.arrival.dpa =
    subst (λ (n : ℕ). Carries b.found b.w i n one.arrival.dpa) (sym endpoint) (subst (λ (n : ℕ). Carries b.found b.w i other.arrival.endpoint n) (sym dpa) b.dealt.place) in
    let within : LiesInSpan a.found one.arrival.endpoint one.arrival.dpa =
    c.bytes_are_carried_one_to_one.ensures.inside s a.w a.found h one.arrival.endpoint one.arrival.dpa system a.is a.dealt.place in
    let also : LiesInSpan b.found one.arrival.endpoint one.arrival.dpa =
    c.bytes_are_carried_one_to_one.ensures.inside s b.w b.found i one.arrival.endpoint one.arrival.dpa system b.is at in
    let found : a.found ≡ b.found =
    c.regions_share_no_byte.ensures.device s a.w b.w a.found b.found one.arrival.endpoint one.arrival.dpa system a.is b.is within also in
    let window : a.w ≡ b.w =
    one_value (window_for s (region_range b.found)) a.w b.w (subst (λ (f : Found). window_for s (region_range f) ≡ Some a.w) found a.is.window) b.is.window in
    let moved : Carries a.found a.w i one.arrival.endpoint one.arrival.dpa =
    subst (λ (f : Found). Carries f a.w i one.arrival.endpoint one.arrival.dpa) (sym found)
    (subst (λ (v : WindowFields). Carries b.found v i one.arrival.endpoint one.arrival.dpa) (sym window) at) in
    c.bytes_are_carried_one_to_one.ensures.apart s a.w a.found h i one.arrival.endpoint one.arrival.dpa system a.is a.dealt.place moved

pub returns-clause-exactly : goal.returns-clause-exactly
returns-clause-exactly c = λ s h system accepted. (
  λ routed.
      let all = owned c s h routed.0 system accepted routed.1 in
      (all.found, (all.w, all.is), all.dealt.place.from, all.dealt.place.below),
  λ lies.
      let all = c.chain_is_the_dealing.ensures.route s lies.1.0 lies.0 h system lies.1.1 lies.2 lies.3 in
      (all.0, all.1),
)
