use Rattle.std.proofs.Common.{◌≡◌, ℕ, sym, subst}
use Rattle.cxl_model.specs.Chain.{Routing, Routed}
use Rattle.cxl_model.specs.Regions.{Carries}
use Rattle.cxl_model.specs.Bytes.{LiesInSpan}
use Rattle.cxl_model.proofs.DealingRanges.{arrives}
use Rattle.cxl_model.proofs.DealingSpans.{comes_in}
use Rattle.cxl_model.proofs.dealing.chains_to_spans_are_of_regions.Goals as goal

pub returns : goal.returns
returns c = λ s w found h endpoint dpa route system region lies chain here byte.
    let moved : LiesInSpan found route.arrival.endpoint route.arrival.dpa =
    subst (λ (n : ℕ). LiesInSpan found n route.arrival.dpa) (sym here) (subst (λ (n : ℕ). LiesInSpan found endpoint n) (sym byte) lies) in
    let own = comes_in c.spans_follow.ensures c.addresses_go_into_spans.ensures.below s w found h route.arrival system region moved (arrives s h route chain) in
    let all = c.chain_is_the_dealing.ensures.only s w found h (Routed route) system region own.from own.below chain in
    let same : route ≡ all.0 = cc (all.1) in
    let carries : Carries found w h route.arrival.endpoint route.arrival.dpa = subst (λ (r : Routing). Carries found w h r.arrival.endpoint r.arrival.dpa) (sym same) all.2.place in
    (subst (λ (n : ℕ). Carries found w h n dpa) here (subst (λ (n : ℕ). Carries found w h route.arrival.endpoint n) byte carries), own.base)
