use Rattle.std.proofs.Common.{◌≤◌, length, arith}
use Rattle.cxl_model.specs.Hosts.{as_system}
use Rattle.cxl_model.specs.Accepted.{breaks}
use Rattle.cxl_check.proofs.RuleTests.{found_of_all}
use Rattle.cxl_check.proofs.ranges.node_breach.Goals as goal

pub least_broken-rule-requires-clause-met : goal.least_broken-rule-requires-clause-met
least_broken-rule-requires-clause-met c = c.loop-i.invariant.met

pub loop-i-preserved : goal.loop-i-preserved
loop-i-preserved c = record {
  met = c.least_broken-rule.ensures.met;
  found = c.earlier_in_node-first.ensures (breaks (as_system c.args.host.now)) c.args.node c.loop-i.invariant.found c.least_broken-rule.ensures.least;
}

pub returns-clause-met : goal.returns-clause-met
returns-clause-met c = c.loop-i.invariant.met

pub returns-clause-found : goal.returns-clause-found
returns-clause-found c =
    let s = as_system c.args.host.now in
    let all : length c.block-block.result.now.decoders ≤ c.loop-i.i = omega (arith, c.count-i-end.ensures.value) in
    found_of_all s c.requires.ready c.args.node c.loop-i.i (rw c.block-block.ensures.value all) c.loop-i.first c.loop-i.invariant.found
