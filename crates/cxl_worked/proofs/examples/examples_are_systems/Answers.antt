use Rattle.std.proofs.Common.{refl, arith}
use Rattle.std.proofs.lemmas.Bool.{false≢true}
use Rattle.cxl_window.specs.Fields.{IsWindow, IsUsable}
use Rattle.cxl_model.specs.System.{bridge_uids}
use Rattle.cxl_worked.specs.Examples.{two_bridges, forwarding_bridges, four_ways, six_ways, window_of_both}
use Rattle.cxl_worked.specs.ExampleRegions.{window_of_three}
use Rattle.cxl_worked.proofs.ExamplesSystems.{none_fits, has_caps_of, blocks_from, made_alone, distinct_from, targets_from}
use Rattle.cxl_worked.proofs.examples.examples_are_systems.Goals as goal

usable-window_of_both : IsUsable window_of_both
usable-window_of_both = record {
  aligned = refl;
  some = omega arith;
  even = refl;
  low = omega arith;
  distinct = distinct_from (window_of_both).targets (λ d. refl);
  maps = λ on. absurd (false≢true on);
}

is_window-window_of_both : IsWindow window_of_both
is_window-window_of_both = record { ways_known = refl; gran_known = omega arith; four_maps = refl; target_each_way = refl; usable = λ is. usable-window_of_both }

usable-window_of_three : IsUsable window_of_three
usable-window_of_three = record {
  aligned = refl;
  some = omega arith;
  even = refl;
  low = omega arith;
  distinct = distinct_from (window_of_three).targets (λ d. refl);
  maps = λ on. absurd (false≢true on);
}

is_window-window_of_three : IsWindow window_of_three
is_window-window_of_three = record { ways_known = refl; gran_known = omega arith; four_maps = refl; target_each_way = refl; usable = λ is. usable-window_of_three }

pub returns-clause-two : goal.returns-clause-two
returns-clause-two c = record {
  tree = (c.tree_laws.ensures.legal (two_bridges).nodes).1 (none_fits (two_bridges).nodes record { few = refl; parents = refl; ports = refl; forks = refl; names = refl; uids = refl; depths = refl; caps = refl; capacities = refl });
  blocks = blocks_from (two_bridges).blocks refl;
  caps = has_caps_of (two_bridges).blocks (two_bridges).nodes refl refl;
  made = made_alone window_of_both (bridge_uids (two_bridges).nodes) refl is_window-window_of_both usable-window_of_both (targets_from (bridge_uids (two_bridges).nodes) (window_of_both).targets refl);
}

pub returns-clause-forwarding : goal.returns-clause-forwarding
returns-clause-forwarding c = record {
  tree = (c.tree_laws.ensures.legal (forwarding_bridges).nodes).1 (none_fits (forwarding_bridges).nodes record { few = refl; parents = refl; ports = refl; forks = refl; names = refl; uids = refl; depths = refl; caps = refl; capacities = refl });
  blocks = blocks_from (forwarding_bridges).blocks refl;
  caps = has_caps_of (forwarding_bridges).blocks (forwarding_bridges).nodes refl refl;
  made = made_alone window_of_both (bridge_uids (forwarding_bridges).nodes) refl is_window-window_of_both usable-window_of_both (targets_from (bridge_uids (forwarding_bridges).nodes) (window_of_both).targets refl);
}

pub returns-clause-four : goal.returns-clause-four
returns-clause-four c = record {
  tree = (c.tree_laws.ensures.legal (four_ways).nodes).1 (none_fits (four_ways).nodes record { few = refl; parents = refl; ports = refl; forks = refl; names = refl; uids = refl; depths = refl; caps = refl; capacities = refl });
  blocks = blocks_from (four_ways).blocks refl;
  caps = has_caps_of (four_ways).blocks (four_ways).nodes refl refl;
  made = made_alone window_of_both (bridge_uids (four_ways).nodes) refl is_window-window_of_both usable-window_of_both (targets_from (bridge_uids (four_ways).nodes) (window_of_both).targets refl);
}

pub returns-clause-six : goal.returns-clause-six
returns-clause-six c = record {
  tree = (c.tree_laws.ensures.legal (six_ways).nodes).1 (none_fits (six_ways).nodes record { few = refl; parents = refl; ports = refl; forks = refl; names = refl; uids = refl; depths = refl; caps = refl; capacities = refl });
  blocks = blocks_from (six_ways).blocks refl;
  caps = has_caps_of (six_ways).blocks (six_ways).nodes refl refl;
  made = made_alone window_of_three (bridge_uids (six_ways).nodes) refl is_window-window_of_three usable-window_of_three (targets_from (bridge_uids (six_ways).nodes) (window_of_three).targets refl);
}
