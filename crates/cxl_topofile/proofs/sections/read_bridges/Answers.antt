use Rattle.std.proofs.Common.{arith}
use Rattle.std.proofs.lemmas.Result.{err_from_is_err_and}
use Rattle.cxl_topofile.specs.declared.fault.Section.TheVariants as sections
use Rattle.cxl_topofile.specs.Drafts.{bridge_of}
use Rattle.cxl_topofile.proofs.Turns.{each_is_table, goes_on, ends, is_done}
use Rattle.cxl_topofile.proofs.sections.read_bridges.Goals as goal

pub add_bridge_of-requires : goal.add_bridge_of-requires
add_bridge_of-requires c = rw c.index-values-i.is (each_is_table c.args.values.now c.loop-i.i c.index-values-i.result c.requires (omega arith))

pub returns-in_err-add_bridge_of : goal.returns-in_err-add_bridge_of
returns-in_err-add_bridge_of c =
    let p = err_from_is_err_and c.from_residual.result c.from_residual.ensures.1 in
    rw (p.1, p.2) (ends sections.Bridge bridge_of c.args.values.now c.loop-i.i c.index-values-i.result c.loop-i.nodes.items c.add_bridge_of.new.nodes.items c.in_err-add_bridge_of.field-0.0 (omega arith) c.index-values-i.is c.in_err-add_bridge_of.ensures c.loop-i.invariant)

pub loop-i-preserved : goal.loop-i-preserved
loop-i-preserved c = goes_on sections.Bridge bridge_of c.args.values.now c.loop-i.i c.index-values-i.result c.loop-i.nodes.items c.add_bridge_of.new.nodes.items c.in_ok-add_bridge_of.field-0 (omega arith) c.index-values-i.is c.in_ok-add_bridge_of.ensures c.loop-i.invariant

pub returns : goal.returns
returns c = is_done sections.Bridge bridge_of c.args.values.now c.loop-i.i c.loop-i.nodes.items (omega arith) c.loop-i.invariant
