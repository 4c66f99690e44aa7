use Rattle.std.proofs.Common.{refl}
use Rattle.cxl_span.specs.Breaches.{breaks as block_breaks}
use Rattle.cxl_model.specs.Accepted.{breaks}
use Rattle.cxl_worked.specs.ExampleLayouts.{one_bridge, ports_out_of_order, twelve_ways, with_switch, both_kinds, two_by_map, without_pmem, forwarding_alone}
use Rattle.cxl_worked.proofs.ExamplesTests.{Ends, accepted_from, below_nine, below_ten, first_breach_from}
use Rattle.cxl_worked.proofs.layout_examples.rules_on_layouts.Goals as goal

ends : goal.After-breaches_lie_in_images → Ends
ends c = record {
  decoders = c.breaches_lie_in_images.ensures.decoders;
  nodes = c.breaches_lie_in_images.ensures.nodes;
  rules = c.breaches_lie_in_images.ensures.rules;
}

pub returns-clause-one_bridge : goal.returns-clause-one_bridge
returns-clause-one_bridge c = accepted_from (ends c) one_bridge refl refl refl refl refl refl

pub returns-clause-ports_out_of_order : goal.returns-clause-ports_out_of_order
returns-clause-ports_out_of_order c = accepted_from (ends c) ports_out_of_order refl refl refl refl refl refl

pub returns-clause-twelve_ways : goal.returns-clause-twelve_ways
returns-clause-twelve_ways c = accepted_from (ends c) twelve_ways refl refl refl refl refl refl

pub returns-clause-with_switch : goal.returns-clause-with_switch
returns-clause-with_switch c = accepted_from (ends c) with_switch refl refl refl refl refl refl

pub returns-clause-both_kinds : goal.returns-clause-both_kinds
returns-clause-both_kinds c = accepted_from (ends c) both_kinds refl refl refl refl refl refl

pub returns-clause-two_by_map : goal.returns-clause-two_by_map
returns-clause-two_by_map c = accepted_from (ends c) two_by_map refl refl refl refl refl refl

pub returns-clause-without_pmem : goal.returns-clause-without_pmem
unfolding breaks block_breaks
returns-clause-without_pmem c = first_breach_from (ends c) without_pmem 9 1 1 (below_nine (ends c) without_pmem refl refl) refl refl refl

pub returns-clause-forwarding_alone : goal.returns-clause-forwarding_alone
unfolding breaks block_breaks
returns-clause-forwarding_alone c = first_breach_from (ends c) forwarding_alone 10 2 0 (below_ten (ends c) forwarding_alone refl refl refl) refl refl refl
