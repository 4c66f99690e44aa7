use Rattle.std.proofs.Common.{refl}
use Rattle.cxl_span.specs.Breaches.{breaks as block_breaks}
use Rattle.cxl_model.specs.Accepted.{breaks}
use Rattle.cxl_worked.specs.Examples.{two_bridges, forwarding_bridges, six_ways, four_ways, with_error, off_thirds, without_ram, without_hb1, with_repeated_port, with_stray_range, with_untargeted_bridge, with_committed_placeholder, with_wrong_code, with_window_code}
use Rattle.cxl_worked.proofs.ExamplesTests.{Ends, accepted_from, below_three, below_nine, below_ten, below_eleven, below_twelve, first_breach_from}
use Rattle.cxl_worked.proofs.examples.rules_on_examples.Goals as goal

ends : goal.After-breaches_lie_in_images → Ends
ends c = record {
  decoders = c.breaches_lie_in_images.ensures.decoders;
  nodes = c.breaches_lie_in_images.ensures.nodes;
  rules = c.breaches_lie_in_images.ensures.rules;
}

pub returns-clause-two_bridges : goal.returns-clause-two_bridges
returns-clause-two_bridges c = accepted_from (ends c) two_bridges refl refl refl refl refl refl

pub returns-clause-forwarding_bridges : goal.returns-clause-forwarding_bridges
returns-clause-forwarding_bridges c = accepted_from (ends c) forwarding_bridges refl refl refl refl refl refl

pub returns-clause-six_ways : goal.returns-clause-six_ways
returns-clause-six_ways c = accepted_from (ends c) six_ways refl refl refl refl refl refl

pub returns-clause-four_ways : goal.returns-clause-four_ways
returns-clause-four_ways c = accepted_from (ends c) four_ways refl refl refl refl refl refl

pub returns-clause-with_error : goal.returns-clause-with_error
unfolding breaks block_breaks
returns-clause-with_error c = first_breach_from (ends c) with_error 3 3 0 (below_three (ends c) with_error refl) refl refl refl

pub returns-clause-off_thirds : goal.returns-clause-off_thirds
unfolding breaks block_breaks
returns-clause-off_thirds c = first_breach_from (ends c) off_thirds 9 0 0 (below_nine (ends c) off_thirds refl refl) refl refl refl

pub returns-clause-without_ram : goal.returns-clause-without_ram
unfolding breaks block_breaks
returns-clause-without_ram c = first_breach_from (ends c) without_ram 9 2 0 (below_nine (ends c) without_ram refl refl) refl refl refl

pub returns-clause-without_hb1 : goal.returns-clause-without_hb1
unfolding breaks block_breaks
returns-clause-without_hb1 c = first_breach_from (ends c) without_hb1 10 0 0 (below_ten (ends c) without_hb1 refl refl refl) refl refl refl

pub returns-clause-with_repeated_port : goal.returns-clause-with_repeated_port
unfolding breaks block_breaks
returns-clause-with_repeated_port c = first_breach_from (ends c) with_repeated_port 10 0 0 (below_ten (ends c) with_repeated_port refl refl refl) refl refl refl

pub returns-clause-with_stray_range : goal.returns-clause-with_stray_range
unfolding breaks block_breaks
returns-clause-with_stray_range c = first_breach_from (ends c) with_stray_range 11 2 1 (below_eleven (ends c) with_stray_range refl refl refl refl) refl refl refl

pub returns-clause-with_untargeted_bridge : goal.returns-clause-with_untargeted_bridge
unfolding breaks block_breaks
returns-clause-with_untargeted_bridge c = first_breach_from (ends c) with_untargeted_bridge 11 1 0 (below_eleven (ends c) with_untargeted_bridge refl refl refl refl) refl refl refl

pub returns-clause-with_committed_placeholder : goal.returns-clause-with_committed_placeholder
unfolding breaks block_breaks
returns-clause-with_committed_placeholder c = first_breach_from (ends c) with_committed_placeholder 11 0 0 (below_eleven (ends c) with_committed_placeholder refl refl refl refl) refl refl refl

pub returns-clause-with_wrong_code : goal.returns-clause-with_wrong_code
unfolding breaks block_breaks
returns-clause-with_wrong_code c = first_breach_from (ends c) with_wrong_code 12 2 0 (below_twelve (ends c) with_wrong_code refl refl refl refl refl) refl refl refl

pub returns-clause-with_window_code : goal.returns-clause-with_window_code
unfolding breaks block_breaks
returns-clause-with_window_code c = first_breach_from (ends c) with_window_code 12 0 0 (below_twelve (ends c) with_window_code refl refl refl refl refl) refl refl refl
