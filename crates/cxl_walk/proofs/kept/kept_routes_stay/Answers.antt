use Rattle.std.proofs.Common.{◌≡◌, ℕ, ◌+◌, ◌<◌, ◌≤◌, sym, ◌∙◌}
use Rattle.cxl_window.specs.Fields.{WindowFields}
use Rattle.cxl_model.specs.declared.found.Found.{Found}
use Rattle.cxl_model.specs.System.{System}
use Rattle.cxl_model.specs.Chain.{ChainEnd, Routed, Chain}
use Rattle.cxl_walk.specs.Routes.{routing_of}
use Rattle.cxl_model.specs.Regions.{region_range}
use Rattle.cxl_model.proofs.Staying.{own_decoders as same_own}
use Rattle.cxl_walk.specs.Keeping.{KeptFields, IsSlotRoute, IsKept, own_decoders}
use Rattle.cxl_walk.proofs.Slots.{own_stays}
use Rattle.cxl_walk.proofs.kept.kept_routes_stay.Goals as goal

-- the chain of each host byte of a region is the same in both images
abbrev SameChains : System → System → Found → Type 0
SameChains s t found = (h : ℕ) (outcome : ChainEnd) → found.base ≤ h → h < found.base + found.size → Chain s h outcome → Chain t h outcome

stays : (s t : System) (w : WindowFields) (found : Found) (kept : KeptFields) → SameChains s t found → own_decoders s found ≡ own_decoders t found → IsKept s w found kept → IsKept t w found kept
stays s t w found kept same own is = record {
  weave = is.weave;
  count = is.count;
  each = λ slot route at.
      let kept_route : IsSlotRoute s w found slot route = is.each slot route at in
      record { first = kept_route.first; is = kept_route.is; chain = same kept_route.first (Routed (routing_of route)) kept_route.is.from kept_route.is.below kept_route.chain; zeros = kept_route.zeros };
  own = is.own ∙ own;
}

pub returns-clause-own : goal.returns-clause-own
returns-clause-own c = λ s t w found kept system other same is also. (
  stays s t w found kept (λ h outcome from below. (c.routes_stay.ensures.own s t w found h outcome system other same is also from below).0) (sym (own_stays s t found same)),
  stays t s w found kept (λ h outcome from below. (c.routes_stay.ensures.own s t w found h outcome system other same is also from below).1) (own_stays s t found same),
)

pub returns-clause-below : goal.returns-clause-below
returns-clause-below c = λ s t w found kept system other same keeps is. (
  stays s t w found kept (λ h outcome from below. (c.routes_stay.ensures.chain s t w found h outcome system other same keeps is from below).0) (sym (own_stays s t found (same_own s t (region_range found) same))),
  stays t s w found kept (λ h outcome from below. (c.routes_stay.ensures.chain s t w found h outcome system other same keeps is from below).1) (own_stays s t found (same_own s t (region_range found) same)),
)
