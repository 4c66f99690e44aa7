use Rattle.std.proofs.Common.{ℕ, ◌+◌, ◌<◌, ◌≤◌}
use Rattle.cxl_window.specs.Fields.{WindowFields}
use Rattle.cxl_model.specs.declared.found.Found.{Found}
use Rattle.cxl_model.specs.System.{System, IsSystem}
use Rattle.cxl_model.specs.Chain.{Routed}
use Rattle.cxl_model.specs.Regions.{IsRegionIn, weave_fields}
use Rattle.cxl_model.proofs.DealingRoutes.{Lower, HasRoute, route_of}
use Rattle.cxl_model.proofs.dealing.chain_is_the_dealing.Goals as goal

goal_of : (c : goal.After-chains_have_one_end) (s : System) (w : WindowFields) (found : Found) (h : ℕ) → IsSystem s → IsRegionIn s w found → found.base ≤ h
    → h < found.base + found.size → HasRoute s w found h
goal_of c s w found h system is from below =
    let lower : Lower s w found = record {
      tree = record { tree = system.tree; laws = c.tree_laws.ensures.laws s.nodes system.tree };
      positions = c.slots_keep_positions.ensures;
      entries = c.slots_keep_entries.ensures;
      few = c.region_fills_slots.ensures.slot (weave_fields found w);
      weave = c.weaves_fill_their_regions.ensures.kept s w found system is;
      ways = c.weaves_fill_their_regions.ensures.ways s w found system is;
    } in
    route_of s w found h lower system is from below

pub returns-clause-route : goal.returns-clause-route
returns-clause-route c = λ s w found h system is from below.
    let all = goal_of c s w found h system is from below in
    (all.route, all.chain, all.dealt)

pub returns-clause-only : goal.returns-clause-only
returns-clause-only c = λ s w found h outcome system is from below chain.
    let all = goal_of c s w found h system is from below in
    (all.route, c.chains_have_one_end.ensures s h outcome (Routed all.route) system.made chain all.chain, all.dealt)
