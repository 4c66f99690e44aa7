use Rattle.std.proofs.Common.{arith}
use Rattle.std.proofs.lemmas.Result.{err_from_is_err_and}
use Rattle.cxl_topofile.specs.Groups.{section_of, draft_of}
use Rattle.cxl_topofile.proofs.Turns.{each_is_table, goes_on, ends, is_done}
use Rattle.cxl_topofile.proofs.sections.read_drafts.Goals as goal

pub add_draft_of-requires : goal.add_draft_of-requires
add_draft_of-requires c = rw c.index-values-i.is (each_is_table c.args.values.now c.loop-i.i c.index-values-i.result c.requires (omega arith))

pub returns-in_err-add_draft_of : goal.returns-in_err-add_draft_of
returns-in_err-add_draft_of c =
    let p = err_from_is_err_and c.from_residual.result c.from_residual.ensures.1 in
    rw (p.1, p.2) (ends (section_of c.args.group) (draft_of c.args.group) c.args.values.now c.loop-i.i c.index-values-i.result c.loop-i.drafts.items c.add_draft_of.new.drafts.items c.in_err-add_draft_of.field-0.0 (omega arith) c.index-values-i.is c.in_err-add_draft_of.ensures c.loop-i.invariant)

pub loop-i-preserved : goal.loop-i-preserved
loop-i-preserved c = goes_on (section_of c.args.group) (draft_of c.args.group) c.args.values.now c.loop-i.i c.index-values-i.result c.loop-i.drafts.items c.add_draft_of.new.drafts.items c.in_ok-add_draft_of.field-0 (omega arith) c.index-values-i.is c.in_ok-add_draft_of.ensures c.loop-i.invariant

pub returns : goal.returns
returns c = is_done (section_of c.args.group) (draft_of c.args.group) c.args.values.now c.loop-i.i c.loop-i.drafts.items (omega arith) c.loop-i.invariant
