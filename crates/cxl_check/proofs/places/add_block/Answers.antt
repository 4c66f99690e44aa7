use Rattle.std.proofs.Common.{◌≤◌, length, arith, sym, ◌∙◌}
use Rattle.std.proofs.lemmas.Option.{slice_get_past}
use Rattle.cxl_span.proofs.RulesBroken.{at_none}
use Rattle.cxl_model.specs.Hosts.{as_system}
use Rattle.cxl_model.specs.Accepted.{breaks_block}
use Rattle.cxl_check.proofs.FoundOfNodes.{of_block}
use Rattle.cxl_check.proofs.Spots.{next_node}
use Rattle.cxl_check.proofs.places.add_block.Goals as goal

pub block-block-requires : goal.block-block-requires
block-block-requires c = omega (arith, c.requires.here, c.requires.caps.count)

pub loop-i-preserved : goal.loop-i-preserved
loop-i-preserved c =
    let s = as_system c.args.host.now in
    let same = of_block s c.args.node c.block-block.result.now c.capacity_at-capacity.result.ram c.capacity_at-capacity.result.pmem c.block-block.ensures.value c.capacity_at-capacity.ensures.ram c.capacity_at-capacity.ensures.pmem c.args.rule c.loop-i.i in
    c.in_ok-add_spot.ensures (breaks_block s c.args.rule) (c.breaks_at-broken.ensures ∙ sym same) c.loop-i.invariant

pub returns : goal.returns
returns c =
    let s = as_system c.args.host.now in
    let block = c.block-block.result.now in
    let ram = c.capacity_at-capacity.result.ram in
    let pmem = c.capacity_at-capacity.result.pmem in
    let all : length block.decoders ≤ c.loop-i.i = omega (arith, c.count-i-end.ensures.value) in
    next_node (breaks_block s c.args.rule) c.args.rule c.args.node c.loop-i.i _
    (λ j from. of_block s c.args.node block ram pmem c.block-block.ensures.value c.capacity_at-capacity.ensures.ram c.capacity_at-capacity.ensures.pmem c.args.rule j
    ∙ at_none block c.args.rule ram pmem j (slice_get_past block.decoders j (omega (arith, all, from))))
    c.loop-i.invariant
