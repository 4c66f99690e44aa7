use Rattle.std.proofs.Common.{refl, ℕ}
use Rattle.cxl_regs.specs.declared.reading.Range.{Range}
use Rattle.cxl_model.specs.declared.found.Place.{Place}
use Rattle.cxl_model.specs.System.{System}
use Rattle.cxl_model.specs.Ranges.{IsCommittedRange}
use Rattle.cxl_model.specs.Accepted.{IsAccepted, IsWhole}
use Rattle.cxl_worked.specs.Examples.{two_bridges, forwarding_bridges, four_ways, six_ways, window_of_both}
use Rattle.cxl_worked.specs.ExampleRegions.{region_of_two, region_of_four, region_of_six, window_of_three}
use Rattle.cxl_model.specs.Regions.{past_forwarding, at_endpoint, region_range}
use Rattle.cxl_worked.proofs.ExamplesRegions.{behind_bridge, HasSpansBelow, no_spans, one_more_span, all_spans}
use Rattle.cxl_worked.proofs.examples.regions_on_examples.Goals as goal

whole : goal.After-accepted_where_whole → (s : System) (r : Range) → IsAccepted s → IsCommittedRange s r → IsWhole s r
whole c s r accepted committed = ((c.accepted_where_whole.ensures s).0 accepted).1 r committed

-- from device address 0 on of an endpoint
abbrev at : ℕ → Place
at n = record { endpoint = n; start = 0 }

two_spans : HasSpansBelow two_bridges window_of_both (region_range region_of_two) region_of_two.spans 2
two_spans =
    one_more_span two_bridges window_of_both (region_range region_of_two) region_of_two.spans 1 (at 3)
    (one_more_span two_bridges window_of_both (region_range region_of_two) region_of_two.spans 0 (at 2)
    (no_spans two_bridges window_of_both (region_range region_of_two) region_of_two.spans)
    refl (behind_bridge two_bridges window_of_both (region_range region_of_two) 0 0 (at 2) refl refl refl refl refl refl))
    refl (behind_bridge two_bridges window_of_both (region_range region_of_two) 1 1 (at 3) refl refl refl refl refl refl)

pub returns-clause-two : goal.returns-clause-two
returns-clause-two c = record {
  committed = (0, refl);
  whole = whole c two_bridges (region_range region_of_two) c.rules_on_examples.ensures.two_bridges (0, refl);
  window = refl;
  index = refl;
  ways = refl;
  code = refl;
  kind = refl;
  slots = refl;
  spans = all_spans two_bridges window_of_both (region_range region_of_two) region_of_two.spans two_spans;
}

forwarding_spans : HasSpansBelow forwarding_bridges window_of_both (region_range region_of_two) region_of_two.spans 2
forwarding_spans =
    one_more_span forwarding_bridges window_of_both (region_range region_of_two) region_of_two.spans 1 (at 3)
    (one_more_span forwarding_bridges window_of_both (region_range region_of_two) region_of_two.spans 0 (at 2)
    (no_spans forwarding_bridges window_of_both (region_range region_of_two) region_of_two.spans)
    refl record { bridge = 0; target = refl; leads = past_forwarding 0 2 (at 2) refl refl (at_endpoint (at 2) refl refl) })
    refl record { bridge = 1; target = refl; leads = past_forwarding 1 3 (at 3) refl refl (at_endpoint (at 3) refl refl) }

pub returns-clause-forwarding : goal.returns-clause-forwarding
returns-clause-forwarding c = record {
  committed = (2, refl);
  whole = whole c forwarding_bridges (region_range region_of_two) c.rules_on_examples.ensures.forwarding_bridges (2, refl);
  window = refl;
  index = refl;
  ways = refl;
  code = refl;
  kind = refl;
  slots = refl;
  spans = all_spans forwarding_bridges window_of_both (region_range region_of_two) region_of_two.spans forwarding_spans;
}

four_spans : HasSpansBelow four_ways window_of_both (region_range region_of_four) region_of_four.spans 4
four_spans =
    one_more_span four_ways window_of_both (region_range region_of_four) region_of_four.spans 3 (at 5)
    (one_more_span four_ways window_of_both (region_range region_of_four) region_of_four.spans 2 (at 3)
    (one_more_span four_ways window_of_both (region_range region_of_four) region_of_four.spans 1 (at 4)
    (one_more_span four_ways window_of_both (region_range region_of_four) region_of_four.spans 0 (at 2)
    (no_spans four_ways window_of_both (region_range region_of_four) region_of_four.spans)
    refl (behind_bridge four_ways window_of_both (region_range region_of_four) 0 0 (at 2) refl refl refl refl refl refl))
    refl (behind_bridge four_ways window_of_both (region_range region_of_four) 1 1 (at 4) refl refl refl refl refl refl))
    refl (behind_bridge four_ways window_of_both (region_range region_of_four) 2 0 (at 3) refl refl refl refl refl refl))
    refl (behind_bridge four_ways window_of_both (region_range region_of_four) 3 1 (at 5) refl refl refl refl refl refl)

pub returns-clause-four : goal.returns-clause-four
returns-clause-four c = record {
  committed = (0, refl);
  whole = whole c four_ways (region_range region_of_four) c.rules_on_examples.ensures.four_ways (0, refl);
  window = refl;
  index = refl;
  ways = refl;
  code = refl;
  kind = refl;
  slots = refl;
  spans = all_spans four_ways window_of_both (region_range region_of_four) region_of_four.spans four_spans;
}

six_spans : HasSpansBelow six_ways window_of_three (region_range region_of_six) region_of_six.spans 6
six_spans =
    one_more_span six_ways window_of_three (region_range region_of_six) region_of_six.spans 5 (at 8)
    (one_more_span six_ways window_of_three (region_range region_of_six) region_of_six.spans 4 (at 5)
    (one_more_span six_ways window_of_three (region_range region_of_six) region_of_six.spans 3 (at 4)
    (one_more_span six_ways window_of_three (region_range region_of_six) region_of_six.spans 2 (at 7)
    (one_more_span six_ways window_of_three (region_range region_of_six) region_of_six.spans 1 (at 6)
    (one_more_span six_ways window_of_three (region_range region_of_six) region_of_six.spans 0 (at 3)
    (no_spans six_ways window_of_three (region_range region_of_six) region_of_six.spans)
    refl (behind_bridge six_ways window_of_three (region_range region_of_six) 0 0 (at 3) refl refl refl refl refl refl))
    refl (behind_bridge six_ways window_of_three (region_range region_of_six) 1 1 (at 6) refl refl refl refl refl refl))
    refl (behind_bridge six_ways window_of_three (region_range region_of_six) 2 2 (at 7) refl refl refl refl refl refl))
    refl (behind_bridge six_ways window_of_three (region_range region_of_six) 3 0 (at 4) refl refl refl refl refl refl))
    refl (behind_bridge six_ways window_of_three (region_range region_of_six) 4 1 (at 5) refl refl refl refl refl refl))
    refl (behind_bridge six_ways window_of_three (region_range region_of_six) 5 2 (at 8) refl refl refl refl refl refl)

pub returns-clause-six : goal.returns-clause-six
returns-clause-six c = record {
  committed = (0, refl);
  whole = whole c six_ways (region_range region_of_six) c.rules_on_examples.ensures.six_ways (0, refl);
  window = refl;
  index = refl;
  ways = refl;
  code = refl;
  kind = refl;
  slots = refl;
  spans = all_spans six_ways window_of_three (region_range region_of_six) region_of_six.spans six_spans;
}
