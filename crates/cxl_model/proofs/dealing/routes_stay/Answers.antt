use Rattle.std.proofs.Common.{◌≡◌, ℕ, ◌+◌, ◌<◌, ◌≤◌, sym, ap, ◌∙◌, subst}
use Rattle.cxl_window.specs.Fields.{WindowFields}
use Rattle.cxl_model.specs.declared.found.Found.{Found}
use Rattle.cxl_model.specs.System.{System, IsSystem}
use Rattle.cxl_model.specs.Chain.{ChainEnd, Routed, Chain}
use Rattle.cxl_model.specs.Regions.{region_range, IsRegionIn}
use Rattle.cxl_model.specs.Changes.{HaveSameOwnDecoders}
use Rattle.cxl_model.proofs.Staying.{own_decoders}
use Rattle.cxl_model.proofs.DealingStays.{turned, dealt_stays, one_dealt}
use Rattle.cxl_model.proofs.dealing.routes_stay.Goals as goal

pub returns-clause-dealt : goal.returns-clause-dealt
returns-clause-dealt c = λ s t w found h route same.
    (dealt_stays s t w found h route same, dealt_stays t s w found h route (turned s t (region_range found) same))

chain_stays : (c : goal.After-chain_is_the_dealing) (s t : System) (w : WindowFields) (found : Found) (h : ℕ) (outcome : ChainEnd) → IsSystem s → IsSystem t
    → HaveSameOwnDecoders s t (region_range found) → IsRegionIn s w found → IsRegionIn t w found → found.base ≤ h → h < found.base + found.size → Chain s h outcome → Chain t h outcome
chain_stays c s t w found h outcome system other same is also from below chain =
    let one = c.chain_is_the_dealing.ensures.only s w found h outcome system is from below chain in
    let two = c.chain_is_the_dealing.ensures.route t w found h other also from below in
    let route : two.0 ≡ one.0 = one_dealt t w found h two.0 one.0 two.2 (dealt_stays s t w found h one.0 same one.2) in
    subst (Chain t h) (ap Routed route ∙ sym one.1) two.1

pub returns-clause-own : goal.returns-clause-own
returns-clause-own c = λ s t w found h outcome system other same is also from below. (
  chain_stays c s t w found h outcome system other same is also from below,
  chain_stays c t s w found h outcome other system (turned s t (region_range found) same) also is from below,
)

pub returns-clause-chain : goal.returns-clause-chain
returns-clause-chain c = λ s t w found h outcome system other same keeps is from below.
    returns-clause-own c s t w found h outcome system other (own_decoders s t (region_range found) same) is (c.regions_stay.ensures.region s t w found same keeps is) from below
