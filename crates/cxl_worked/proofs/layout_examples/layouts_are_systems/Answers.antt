use Rattle.std.proofs.Common.{refl, arith}
use Rattle.std.proofs.lemmas.Bool.{false≢true}
use Rattle.cxl_window.specs.Fields.{IsWindow, IsUsable}
use Rattle.cxl_model.specs.System.{bridge_uids}
use Rattle.cxl_worked.specs.Examples.{window_of_both}
use Rattle.cxl_worked.specs.ExampleRegions.{with_map}
use Rattle.cxl_worked.specs.ExampleLayouts.{one_bridge, ports_out_of_order, twelve_ways, with_switch, both_kinds, two_by_map, window_of_one, window_of_twelve}
use Rattle.cxl_worked.proofs.ExamplesSystems.{none_fits, has_caps_of, blocks_from, made_alone, distinct_from, targets_from}
use Rattle.cxl_worked.proofs.layout_examples.layouts_are_systems.Goals as goal

usable-window_of_one : IsUsable window_of_one
usable-window_of_one = record {
  aligned = refl;
  some = omega arith;
  even = refl;
  low = omega arith;
  distinct = distinct_from (window_of_one).targets (λ d. refl);
  maps = λ on. absurd (false≢true on);
}

is_window-window_of_one : IsWindow window_of_one
is_window-window_of_one = record { ways_known = refl; gran_known = omega arith; four_maps = refl; target_each_way = refl; usable = λ is. usable-window_of_one }

usable-window_of_twelve : IsUsable window_of_twelve
usable-window_of_twelve = record {
  aligned = refl;
  some = omega arith;
  even = refl;
  low = omega arith;
  distinct = distinct_from (window_of_twelve).targets (λ d. refl);
  maps = λ on. absurd (false≢true on);
}

is_window-window_of_twelve : IsWindow window_of_twelve
is_window-window_of_twelve = record { ways_known = refl; gran_known = omega arith; four_maps = refl; target_each_way = refl; usable = λ is. usable-window_of_twelve }

usable-window_of_both : IsUsable window_of_both
usable-window_of_both = record {
  aligned = refl;
  some = omega arith;
  even = refl;
  low = omega arith;
  distinct = distinct_from (window_of_both).targets (λ d. refl);
  maps = λ on. absurd (false≢true on);
}

is_window-window_of_both : IsWindow window_of_both
is_window-window_of_both = record { ways_known = refl; gran_known = omega arith; four_maps = refl; target_each_way = refl; usable = λ is. usable-window_of_both }

usable-by_map : IsUsable (with_map window_of_both)
usable-by_map = record {
  aligned = refl;
  some = omega arith;
  even = refl;
  low = omega arith;
  distinct = distinct_from (window_of_both).targets (λ d. refl);
  maps = λ on. refl;
}

is_window-by_map : IsWindow (with_map window_of_both)
is_window-by_map = record { ways_known = refl; gran_known = omega arith; four_maps = refl; target_each_way = refl; usable = λ is. usable-by_map }

pub returns-clause-one : goal.returns-clause-one
returns-clause-one c = record {
  tree = (c.tree_laws.ensures.legal (one_bridge).nodes).1 (none_fits (one_bridge).nodes record { few = refl; parents = refl; ports = refl; forks = refl; names = refl; uids = refl; depths = refl; caps = refl; capacities = refl });
  blocks = blocks_from (one_bridge).blocks refl;
  caps = has_caps_of (one_bridge).blocks (one_bridge).nodes refl refl;
  made = made_alone window_of_one (bridge_uids (one_bridge).nodes) refl is_window-window_of_one usable-window_of_one (targets_from (bridge_uids (one_bridge).nodes) window_of_one.targets refl);
}

pub returns-clause-out_of_order : goal.returns-clause-out_of_order
returns-clause-out_of_order c = record {
  tree = (c.tree_laws.ensures.legal (ports_out_of_order).nodes).1 (none_fits (ports_out_of_order).nodes record { few = refl; parents = refl; ports = refl; forks = refl; names = refl; uids = refl; depths = refl; caps = refl; capacities = refl });
  blocks = blocks_from (ports_out_of_order).blocks refl;
  caps = has_caps_of (ports_out_of_order).blocks (ports_out_of_order).nodes refl refl;
  made = made_alone window_of_one (bridge_uids (ports_out_of_order).nodes) refl is_window-window_of_one usable-window_of_one (targets_from (bridge_uids (ports_out_of_order).nodes) window_of_one.targets refl);
}

pub returns-clause-twelve : goal.returns-clause-twelve
returns-clause-twelve c = record {
  tree = (c.tree_laws.ensures.legal (twelve_ways).nodes).1 (none_fits (twelve_ways).nodes record { few = refl; parents = refl; ports = refl; forks = refl; names = refl; uids = refl; depths = refl; caps = refl; capacities = refl });
  blocks = blocks_from (twelve_ways).blocks refl;
  caps = has_caps_of (twelve_ways).blocks (twelve_ways).nodes refl refl;
  made = made_alone window_of_twelve (bridge_uids (twelve_ways).nodes) refl is_window-window_of_twelve usable-window_of_twelve (targets_from (bridge_uids (twelve_ways).nodes) window_of_twelve.targets refl);
}

pub returns-clause-switch : goal.returns-clause-switch
returns-clause-switch c = record {
  tree = (c.tree_laws.ensures.legal (with_switch).nodes).1 (none_fits (with_switch).nodes record { few = refl; parents = refl; ports = refl; forks = refl; names = refl; uids = refl; depths = refl; caps = refl; capacities = refl });
  blocks = blocks_from (with_switch).blocks refl;
  caps = has_caps_of (with_switch).blocks (with_switch).nodes refl refl;
  made = made_alone window_of_both (bridge_uids (with_switch).nodes) refl is_window-window_of_both usable-window_of_both (targets_from (bridge_uids (with_switch).nodes) window_of_both.targets refl);
}

pub returns-clause-kinds : goal.returns-clause-kinds
returns-clause-kinds c = record {
  tree = (c.tree_laws.ensures.legal (both_kinds).nodes).1 (none_fits (both_kinds).nodes record { few = refl; parents = refl; ports = refl; forks = refl; names = refl; uids = refl; depths = refl; caps = refl; capacities = refl });
  blocks = blocks_from (both_kinds).blocks refl;
  caps = has_caps_of (both_kinds).blocks (both_kinds).nodes refl refl;
  made = made_alone window_of_one (bridge_uids (both_kinds).nodes) refl is_window-window_of_one usable-window_of_one (targets_from (bridge_uids (both_kinds).nodes) window_of_one.targets refl);
}

pub returns-clause-by_map : goal.returns-clause-by_map
returns-clause-by_map c = record {
  tree = (c.tree_laws.ensures.legal (two_by_map).nodes).1 (none_fits (two_by_map).nodes record { few = refl; parents = refl; ports = refl; forks = refl; names = refl; uids = refl; depths = refl; caps = refl; capacities = refl });
  blocks = blocks_from (two_by_map).blocks refl;
  caps = has_caps_of (two_by_map).blocks (two_by_map).nodes refl refl;
  made = made_alone (with_map window_of_both) (bridge_uids (two_by_map).nodes) refl is_window-by_map usable-by_map (targets_from (bridge_uids (two_by_map).nodes) (with_map window_of_both).targets refl);
}
