use Rattle.std.proofs.Common.{refl, sym, ◌∙◌, arith}
use Rattle.cxl_model.specs.Hosts.{as_system}
use Rattle.cxl_check.proofs.Trees.{below_parent}
use Rattle.cxl_check.proofs.WaysUp.{ways_few, bits_few, no_ports, one_more, top_ways, top_bits, more_ways, more_bits, same_ways, same_bits}
use Rattle.cxl_check.proofs.Worked.{fewer_worked, lacks}
use Rattle.cxl_check.proofs.above.ports_above.Goals as goal

pub loop-parent-init : goal.loop-parent-init
loop-parent-init c = record { ways = refl; bits = refl; up = omega arith }

pub node-requires : goal.node-requires
node-requires c = omega (arith, c.loop-parent.invariant.up, c.requires.here)

pub index_for-requires : goal.index_for-requires
index_for-requires c = c.requires.ready

pub with_port-requires-clause-ready : goal.with_port-requires-clause-ready
with_port-requires-clause-ready c = c.requires.ready

pub with_port-requires-clause-here : goal.with_port-requires-clause-here
with_port-requires-clause-here c =
    let nodes = c.args.host.now.topo.now.nodes in
    let child = below_parent nodes c.count-count.ensures.tree c.loop-parent.below c.in-Some.parent (rw c.node.ensures c.in-Some.is) in
    let later = child.later in
    let inside = child.inside in
    omega (arith, later, inside)

pub with_port-requires-clause-index : goal.with_port-requires-clause-index
with_port-requires-clause-index c = sym c.index_for.ensures ∙ c.in-Some-index_for.is

pub with_port-requires-clause-before : goal.with_port-requires-clause-before
with_port-requires-clause-before c =
    let nodes = c.args.host.now.topo.now.nodes in
    let child = below_parent nodes c.count-count.ensures.tree c.loop-parent.below c.in-Some.parent (rw c.node.ensures c.in-Some.is) in
    let later = child.later in
    fewer_worked (as_system c.args.host.now) _ _ c.args.all.now (omega (arith, later, c.loop-parent.invariant.up)) c.requires.before

pub returns-in-Some-index_for-clause-ways : goal.returns-in-Some-index_for-clause-ways
returns-in-Some-index_for-clause-ways c =
    let s = as_system c.args.host.now in
    let laws = c.tree_laws.ensures.laws s.nodes c.count-count.ensures.tree in
    let below = c.loop-parent.below in
    let ports = one_more s.nodes below c.node.result.now (laws.ports below) c.node.ensures c.in-Some.parent c.in-Some.is in
    c.with_port.ensures.ways ∙ sym (more_ways s c.args.range.now below c.in-Some.parent ports c.with_port.ensures.d c.with_port.ensures.has) ∙ sym c.loop-parent.invariant.ways

pub returns-in-Some-index_for-clause-bits : goal.returns-in-Some-index_for-clause-bits
returns-in-Some-index_for-clause-bits c =
    let s = as_system c.args.host.now in
    let laws = c.tree_laws.ensures.laws s.nodes c.count-count.ensures.tree in
    let below = c.loop-parent.below in
    let ports = one_more s.nodes below c.node.result.now (laws.ports below) c.node.ensures c.in-Some.parent c.in-Some.is in
    c.with_port.ensures.bits ∙ sym (more_bits s c.args.range.now below c.in-Some.parent ports c.with_port.ensures.d c.with_port.ensures.has) ∙ sym c.loop-parent.invariant.bits

pub returns-in-Some-index_for-clause-few_ways : goal.returns-in-Some-index_for-clause-few_ways
returns-in-Some-index_for-clause-few_ways c =
    let s = as_system c.args.host.now in
    let laws = c.tree_laws.ensures.laws s.nodes c.count-count.ensures.tree in
    let ways = returns-in-Some-index_for-clause-ways c in
    let few = ways_few s c.args.range.now c.args.node (laws.few_ports c.args.node) in
    omega (arith, ways, few)

pub returns-in-Some-index_for-clause-few_bits : goal.returns-in-Some-index_for-clause-few_bits
returns-in-Some-index_for-clause-few_bits c =
    let s = as_system c.args.host.now in
    let laws = c.tree_laws.ensures.laws s.nodes c.count-count.ensures.tree in
    let bits = returns-in-Some-index_for-clause-bits c in
    let few = bits_few s c.args.range.now c.args.node (laws.few_ports c.args.node) in
    omega (arith, bits, few)

pub loop-parent-smaller : goal.loop-parent-smaller
loop-parent-smaller c =
    let nodes = c.args.host.now.topo.now.nodes in
    let child = below_parent nodes c.count-count.ensures.tree c.loop-parent.below c.in-Some.parent (rw c.node.ensures c.in-Some.is) in
    child.later

pub loop-parent-preserved : goal.loop-parent-preserved
loop-parent-preserved c =
    let s = as_system c.args.host.now in
    let laws = c.tree_laws.ensures.laws s.nodes c.count-count.ensures.tree in
    let below = c.loop-parent.below in
    let ports = one_more s.nodes below c.node.result.now (laws.ports below) c.node.ensures c.in-Some.parent c.in-Some.is in
    let none = lacks s c.args.range.now c.in-Some.parent.node (sym c.index_for.ensures ∙ c.in_default-index_for.is) in
    let later = (below_parent s.nodes c.count-count.ensures.tree below c.in-Some.parent (rw c.node.ensures c.in-Some.is)).later in
    record {
      ways = c.loop-parent.invariant.ways ∙ same_ways s c.args.range.now below c.in-Some.parent ports none;
      bits = c.loop-parent.invariant.bits ∙ same_bits s c.args.range.now below c.in-Some.parent ports none;
      up = omega (arith, later, c.loop-parent.invariant.up);
    }

pub returns-clause-ways : goal.returns-clause-ways
returns-clause-ways c =
    let s = as_system c.args.host.now in
    let laws = c.tree_laws.ensures.laws s.nodes c.count-count.ensures.tree in
    let below = c.loop-parent.below in
    let top = no_ports s.nodes below c.node.result.now (laws.ports below) c.node.ensures c.in_default.is in
    sym (c.loop-parent.invariant.ways ∙ top_ways s c.args.range.now below top)

pub returns-clause-bits : goal.returns-clause-bits
returns-clause-bits c =
    let s = as_system c.args.host.now in
    let laws = c.tree_laws.ensures.laws s.nodes c.count-count.ensures.tree in
    let below = c.loop-parent.below in
    let top = no_ports s.nodes below c.node.result.now (laws.ports below) c.node.ensures c.in_default.is in
    sym (c.loop-parent.invariant.bits ∙ top_bits s c.args.range.now below top)

pub returns-clause-few_ways : goal.returns-clause-few_ways
returns-clause-few_ways c = omega arith

pub returns-clause-few_bits : goal.returns-clause-few_bits
returns-clause-few_bits c = omega arith
