use Rattle.std.proofs.Common.{◌≤◌, length, arith}
use Rattle.cxl_model.specs.Hosts.{as_system}
use Rattle.cxl_model.specs.Accepted.{breaks}
use Rattle.cxl_check.proofs.FirstBreaches.{accepted_where_none, breach_where_some}
use Rattle.cxl_check.proofs.ranges.ranges_breach.Goals as goal

pub node_breach-found-requires-clause-met : goal.node_breach-found-requires-clause-met
node_breach-found-requires-clause-met c = c.loop-node.invariant.met

pub loop-node-preserved : goal.loop-node-preserved
loop-node-preserved c = record {
  met = c.node_breach-found.ensures.met;
  found = c.earlier_among_nodes-first.ensures (breaks (as_system c.args.host.now)) c.loop-node.invariant.found c.node_breach-found.ensures.found;
}

pub returns-clause-met : goal.returns-clause-met
returns-clause-met c = c.loop-node.invariant.met

pub returns-clause-none : goal.returns-clause-none
returns-clause-none c =
    let all : length c.args.host.now.image.now ≤ c.loop-node.node = omega (arith, c.count-node-end.ensures.count, c.requires.ready.system.caps.count) in
    accepted_where_none (as_system c.args.host.now) c.requires.ready c.loop-node.node all c.loop-node.first c.loop-node.invariant.found

pub returns-clause-first : goal.returns-clause-first
returns-clause-first c =
    let all : length c.args.host.now.image.now ≤ c.loop-node.node = omega (arith, c.count-node-end.ensures.count, c.requires.ready.system.caps.count) in
    breach_where_some (as_system c.args.host.now) c.requires.ready c.loop-node.node all c.loop-node.first c.loop-node.invariant.found
