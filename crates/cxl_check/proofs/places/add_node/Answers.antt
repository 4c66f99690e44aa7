use Rattle.std.proofs.Common.{◌≤◌, length, arith, ◌∙◌}
use Rattle.cxl_model.specs.Hosts.{as_system}
use Rattle.cxl_model.specs.Accepted.{breaks}
use Rattle.cxl_check.proofs.RuleTests.{all_rules, past_decoders}
use Rattle.cxl_check.proofs.Spots.{next_node}
use Rattle.cxl_check.proofs.FirstOfRule.{least_is}
use Rattle.cxl_check.proofs.places.add_node.Goals as goal

pub least_broken-least-requires-clause-met : goal.least_broken-least-requires-clause-met
least_broken-least-requires-clause-met c = c.loop-i.invariant.met

pub loop-i-preserved : goal.loop-i-preserved
loop-i-preserved c =
    let s = as_system c.args.host.now in
    record {
      met = c.least_broken-least.ensures.met;
      spots =
          c.in_ok-add_spot.ensures (breaks s c.args.rule)
          (c.eq.ensures ∙ least_is s c.args.node c.loop-i.i c.args.rule (λ lower below. c.requires.lower lower c.args.node c.loop-i.i below) c.least_broken-least.result c.least_broken-least.ensures.least)
          c.loop-i.invariant.spots;
    }

pub returns-clause-met : goal.returns-clause-met
returns-clause-met c = c.loop-i.invariant.met

pub returns-clause-spots : goal.returns-clause-spots
returns-clause-spots c =
    let s = as_system c.args.host.now in
    let all : length c.block-block.result.now.decoders ≤ c.loop-i.i = omega (arith, c.count-i-end.ensures.value) in
    next_node (breaks s c.args.rule) c.args.rule c.args.node c.loop-i.i _
    (λ j from. all_rules s c.requires.ready c.args.node j (λ late low high. past_decoders s late low high c.args.node j (rw c.block-block.ensures.value (omega (arith, all, from)))) c.args.rule)
    c.loop-i.invariant.spots
