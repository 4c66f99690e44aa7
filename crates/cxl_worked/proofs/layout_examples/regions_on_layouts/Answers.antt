use Rattle.std.proofs.Common.{refl, ℕ}
use Rattle.cxl_regs.specs.declared.reading.Range.{Range}
use Rattle.cxl_model.specs.declared.found.Place.{Place}
use Rattle.cxl_model.specs.System.{System}
use Rattle.cxl_model.specs.Ranges.{IsCommittedRange}
use Rattle.cxl_model.specs.Accepted.{IsAccepted, IsWhole}
use Rattle.cxl_model.specs.Regions.{past_port, at_endpoint, region_range}
use Rattle.cxl_worked.specs.Examples.{window_of_both}
use Rattle.cxl_worked.specs.ExampleRegions.{region_of_two, with_map}
use Rattle.cxl_worked.specs.ExampleLayouts.{one_bridge, ports_out_of_order, twelve_ways, with_switch, both_kinds, two_by_map, window_of_one, window_of_twelve, region_below_one, region_out_of_order, region_of_twelve, region_past_switch, region_of_pmem}
use Rattle.cxl_worked.proofs.ExamplesRegions.{behind_bridge, HasSpansBelow, no_spans, one_more_span, all_spans}
use Rattle.cxl_worked.proofs.layout_examples.regions_on_layouts.Goals as goal

whole : goal.After-accepted_where_whole → (s : System) (r : Range) → IsAccepted s → IsCommittedRange s r → IsWhole s r
whole c s r accepted committed = ((c.accepted_where_whole.ensures s).0 accepted).1 r committed

-- from device address 0 on of an endpoint
abbrev at : ℕ → Place
at n = record { endpoint = n; start = 0 }

one_spans : HasSpansBelow one_bridge window_of_one (region_range region_below_one) region_below_one.spans 2
one_spans =
    one_more_span one_bridge window_of_one (region_range region_below_one) region_below_one.spans 1 (at 2)
    (one_more_span one_bridge window_of_one (region_range region_below_one) region_below_one.spans 0 (at 1)
    (no_spans one_bridge window_of_one (region_range region_below_one) region_below_one.spans)
    refl (behind_bridge one_bridge window_of_one (region_range region_below_one) 0 0 (at 1) refl refl refl refl refl refl))
    refl (behind_bridge one_bridge window_of_one (region_range region_below_one) 1 0 (at 2) refl refl refl refl refl refl)

pub returns-clause-one : goal.returns-clause-one
returns-clause-one c = record {
  committed = (0, refl);
  whole = whole c one_bridge (region_range region_below_one) c.rules_on_layouts.ensures.one_bridge (0, refl);
  window = refl;
  index = refl;
  ways = refl;
  code = refl;
  kind = refl;
  slots = refl;
  spans = all_spans one_bridge window_of_one (region_range region_below_one) region_below_one.spans one_spans;
}

out_of_order_spans : HasSpansBelow ports_out_of_order window_of_one (region_range region_out_of_order) region_out_of_order.spans 2
out_of_order_spans =
    one_more_span ports_out_of_order window_of_one (region_range region_out_of_order) region_out_of_order.spans 1 (at 1)
    (one_more_span ports_out_of_order window_of_one (region_range region_out_of_order) region_out_of_order.spans 0 (at 2)
    (no_spans ports_out_of_order window_of_one (region_range region_out_of_order) region_out_of_order.spans)
    refl (behind_bridge ports_out_of_order window_of_one (region_range region_out_of_order) 0 0 (at 2) refl refl refl refl refl refl))
    refl (behind_bridge ports_out_of_order window_of_one (region_range region_out_of_order) 1 0 (at 1) refl refl refl refl refl refl)

pub returns-clause-out_of_order : goal.returns-clause-out_of_order
returns-clause-out_of_order c = record {
  committed = (0, refl);
  whole = whole c ports_out_of_order (region_range region_out_of_order) c.rules_on_layouts.ensures.ports_out_of_order (0, refl);
  window = refl;
  index = refl;
  ways = refl;
  code = refl;
  kind = refl;
  slots = refl;
  spans = all_spans ports_out_of_order window_of_one (region_range region_out_of_order) region_out_of_order.spans out_of_order_spans;
}

twelve_spans : HasSpansBelow twelve_ways window_of_twelve (region_range region_of_twelve) region_of_twelve.spans 12
twelve_spans =
    one_more_span twelve_ways window_of_twelve (region_range region_of_twelve) region_of_twelve.spans 11 (at 17)
    (one_more_span twelve_ways window_of_twelve (region_range region_of_twelve) region_of_twelve.spans 10 (at 15)
    (one_more_span twelve_ways window_of_twelve (region_range region_of_twelve) region_of_twelve.spans 9 (at 12)
    (one_more_span twelve_ways window_of_twelve (region_range region_of_twelve) region_of_twelve.spans 8 (at 10)
    (one_more_span twelve_ways window_of_twelve (region_range region_of_twelve) region_of_twelve.spans 7 (at 9)
    (one_more_span twelve_ways window_of_twelve (region_range region_of_twelve) region_of_twelve.spans 6 (at 7)
    (one_more_span twelve_ways window_of_twelve (region_range region_of_twelve) region_of_twelve.spans 5 (at 16)
    (one_more_span twelve_ways window_of_twelve (region_range region_of_twelve) region_of_twelve.spans 4 (at 14)
    (one_more_span twelve_ways window_of_twelve (region_range region_of_twelve) region_of_twelve.spans 3 (at 13)
    (one_more_span twelve_ways window_of_twelve (region_range region_of_twelve) region_of_twelve.spans 2 (at 11)
    (one_more_span twelve_ways window_of_twelve (region_range region_of_twelve) region_of_twelve.spans 1 (at 8)
    (one_more_span twelve_ways window_of_twelve (region_range region_of_twelve) region_of_twelve.spans 0 (at 6)
    (no_spans twelve_ways window_of_twelve (region_range region_of_twelve) region_of_twelve.spans)
    refl (behind_bridge twelve_ways window_of_twelve (region_range region_of_twelve) 0 0 (at 6) refl refl refl refl refl refl))
    refl (behind_bridge twelve_ways window_of_twelve (region_range region_of_twelve) 1 1 (at 8) refl refl refl refl refl refl))
    refl (behind_bridge twelve_ways window_of_twelve (region_range region_of_twelve) 2 2 (at 11) refl refl refl refl refl refl))
    refl (behind_bridge twelve_ways window_of_twelve (region_range region_of_twelve) 3 3 (at 13) refl refl refl refl refl refl))
    refl (behind_bridge twelve_ways window_of_twelve (region_range region_of_twelve) 4 4 (at 14) refl refl refl refl refl refl))
    refl (behind_bridge twelve_ways window_of_twelve (region_range region_of_twelve) 5 5 (at 16) refl refl refl refl refl refl))
    refl (behind_bridge twelve_ways window_of_twelve (region_range region_of_twelve) 6 0 (at 7) refl refl refl refl refl refl))
    refl (behind_bridge twelve_ways window_of_twelve (region_range region_of_twelve) 7 1 (at 9) refl refl refl refl refl refl))
    refl (behind_bridge twelve_ways window_of_twelve (region_range region_of_twelve) 8 2 (at 10) refl refl refl refl refl refl))
    refl (behind_bridge twelve_ways window_of_twelve (region_range region_of_twelve) 9 3 (at 12) refl refl refl refl refl refl))
    refl (behind_bridge twelve_ways window_of_twelve (region_range region_of_twelve) 10 4 (at 15) refl refl refl refl refl refl))
    refl (behind_bridge twelve_ways window_of_twelve (region_range region_of_twelve) 11 5 (at 17) refl refl refl refl refl refl)

pub returns-clause-twelve : goal.returns-clause-twelve
returns-clause-twelve c = record {
  committed = (0, refl);
  whole = whole c twelve_ways (region_range region_of_twelve) c.rules_on_layouts.ensures.twelve_ways (0, refl);
  window = refl;
  index = refl;
  ways = refl;
  code = refl;
  kind = refl;
  slots = refl;
  spans = all_spans twelve_ways window_of_twelve (region_range region_of_twelve) region_of_twelve.spans twelve_spans;
}

switch_spans : HasSpansBelow with_switch window_of_both (region_range region_past_switch) region_past_switch.spans 2
switch_spans =
    one_more_span with_switch window_of_both (region_range region_past_switch) region_past_switch.spans 1 (at 4)
    (one_more_span with_switch window_of_both (region_range region_past_switch) region_past_switch.spans 0 (at 3)
    (no_spans with_switch window_of_both (region_range region_past_switch) region_past_switch.spans)
    refl record { bridge = 0; target = refl; leads = past_port 0 2 (at 3) refl refl refl (past_port 2 3 (at 3) refl refl refl (at_endpoint (at 3) refl refl)) })
    refl (behind_bridge with_switch window_of_both (region_range region_past_switch) 1 1 (at 4) refl refl refl refl refl refl)

pub returns-clause-switch : goal.returns-clause-switch
returns-clause-switch c = record {
  committed = (0, refl);
  whole = whole c with_switch (region_range region_past_switch) c.rules_on_layouts.ensures.with_switch (0, refl);
  window = refl;
  index = refl;
  ways = refl;
  code = refl;
  kind = refl;
  slots = refl;
  spans = all_spans with_switch window_of_both (region_range region_past_switch) region_past_switch.spans switch_spans;
}

-- from the start of the device's pmem on
abbrev in_pmem_part : Place
in_pmem_part = record { endpoint = 1; start = 0x40000000 }

pmem_spans : HasSpansBelow both_kinds window_of_one (region_range region_of_pmem) region_of_pmem.spans 1
pmem_spans =
    one_more_span both_kinds window_of_one (region_range region_of_pmem) region_of_pmem.spans 0 in_pmem_part
    (no_spans both_kinds window_of_one (region_range region_of_pmem) region_of_pmem.spans)
    refl (behind_bridge both_kinds window_of_one (region_range region_of_pmem) 0 0 in_pmem_part refl refl refl refl refl refl)

pub returns-clause-pmem : goal.returns-clause-pmem
returns-clause-pmem c = record {
  committed = (0, refl);
  whole = whole c both_kinds (region_range region_of_pmem) c.rules_on_layouts.ensures.both_kinds (0, refl);
  window = refl;
  index = refl;
  ways = refl;
  code = refl;
  kind = refl;
  slots = refl;
  spans = all_spans both_kinds window_of_one (region_range region_of_pmem) region_of_pmem.spans pmem_spans;
}

by_map_spans : HasSpansBelow two_by_map (with_map window_of_both) (region_range region_of_two) region_of_two.spans 2
by_map_spans =
    one_more_span two_by_map (with_map window_of_both) (region_range region_of_two) region_of_two.spans 1 (at 3)
    (one_more_span two_by_map (with_map window_of_both) (region_range region_of_two) region_of_two.spans 0 (at 2)
    (no_spans two_by_map (with_map window_of_both) (region_range region_of_two) region_of_two.spans)
    refl (behind_bridge two_by_map (with_map window_of_both) (region_range region_of_two) 0 0 (at 2) refl refl refl refl refl refl))
    refl (behind_bridge two_by_map (with_map window_of_both) (region_range region_of_two) 1 1 (at 3) refl refl refl refl refl refl)

pub returns-clause-by_map : goal.returns-clause-by_map
returns-clause-by_map c = record {
  committed = (0, refl);
  whole = whole c two_by_map (region_range region_of_two) c.rules_on_layouts.ensures.two_by_map (0, refl);
  window = refl;
  index = refl;
  ways = refl;
  code = refl;
  kind = refl;
  slots = refl;
  spans = all_spans two_by_map (with_map window_of_both) (region_range region_of_two) region_of_two.spans by_map_spans;
}

pub returns-clause-third_target : goal.returns-clause-third_target
returns-clause-third_target c = refl

pub returns-clause-last_target : goal.returns-clause-last_target
returns-clause-last_target c = refl
