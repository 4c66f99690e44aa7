use Rattle.std.proofs.Common.{◌≡◌, ◌*◌, length, ℕ, sym, ap, ◌∙◌, arith}
use Rattle.cxl_topo.specs.declared.node.Parent.{Parent}
use Rattle.cxl_topo.specs.Tree.{ports_above}
use Rattle.cxl_regs.specs.Reading.{decoder_ways, select_bits}
use Rattle.cxl_model.specs.Hosts.{as_system}
use Rattle.cxl_check.proofs.Trees.{below_parent}
use Rattle.cxl_check.proofs.WaysUp.{one_more}
use Rattle.cxl_cause.proofs.Above.{left, few_now, product_fits, with_port, none_passed}
use Rattle.cxl_cause.proofs.lookups.ports_above.Goals as goal

pub loop-parent-init : goal.loop-parent-init
loop-parent-init c =
    let s = as_system c.args.host.now in
    let laws = c.tree_laws.ensures.laws s.nodes c.count-count.ensures.tree in
    none_passed s c.args.range.now c.args.node (laws.few_ports c.args.node)

pub node-requires : goal.node-requires
node-requires c = omega (arith, c.loop-parent.invariant.up, c.requires)

pub overflow_mul-ways : goal.overflow_mul-ways
overflow_mul-ways c =
    let s = as_system c.args.host.now in
    let laws = c.tree_laws.ensures.laws s.nodes c.count-count.ensures.tree in
    let below = c.loop-parent.below in
    let parent : Parent = c.in-Some.parent in
    let ports = one_more s.nodes below c.node.result.now (laws.ports below) c.node.ensures parent c.in-Some.is in
    let later = (below_parent s.nodes c.count-count.ensures.tree below parent (rw c.node.ensures c.in-Some.is)).later in
    let few = left s c.args.range.now c.args.node below parent ports (omega (arith, later)) c.loop-parent.ways c.loop-parent.bits c.loop-parent.invariant in
    let fits = product_fits c.loop-parent.ways c.loop-parent.bits (length (ports_above s.nodes parent.node)) c.in-Some-decoder_for.d few in
    let same : c.loop-parent.ways * c.from-ways.result ≡ c.loop-parent.ways * decoder_ways c.in-Some-decoder_for.d = ap (λ (k : ℕ). c.loop-parent.ways * k) (c.from-ways.ensures ∙ c.interleave_ways.ensures.value) in
    omega (arith, fits, same)

pub loop-parent-preserved-in-Some-decoder_for : goal.loop-parent-preserved-in-Some-decoder_for
loop-parent-preserved-in-Some-decoder_for c =
    let s = as_system c.args.host.now in
    let laws = c.tree_laws.ensures.laws s.nodes c.count-count.ensures.tree in
    let below = c.loop-parent.below in
    let parent : Parent = c.in-Some.parent in
    let d = c.in-Some-decoder_for.d in
    let ports = one_more s.nodes below c.node.result.now (laws.ports below) c.node.ensures parent c.in-Some.is in
    let later = (below_parent s.nodes c.count-count.ensures.tree below parent (rw c.node.ensures c.in-Some.is)).later in
    let ways : c.from-ways.result ≡ decoder_ways d = c.from-ways.ensures ∙ c.interleave_ways.ensures.value in
    let bits : c.from-bits.result ≡ select_bits d.ways = c.from-bits.ensures ∙ c.select_bits.ensures in
    rw (ways, bits) (with_port s c.args.range.now c.args.node below parent ports (omega (arith, later)) c.loop-parent.ways c.loop-parent.bits d c.loop-parent.invariant (sym c.decoder_for.ensures ∙ c.in-Some-decoder_for.is))

pub returns-clause-few_ways : goal.returns-clause-few_ways
returns-clause-few_ways c =
    let s = as_system c.args.host.now in
    (few_now c.loop-parent.ways c.loop-parent.bits (length (ports_above s.nodes c.loop-parent.below)) c.loop-parent.invariant.few).0
