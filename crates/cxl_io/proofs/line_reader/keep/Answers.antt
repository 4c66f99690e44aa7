use Rattle.std.proofs.Common.{◌∙◌, arith}
use Rattle.cxl_io.proofs.Reading.{kept_is}
use Rattle.cxl_io.proofs.line_reader.keep.Goals as goal

pub returns-clause-kept : goal.returns-clause-kept
returns-clause-kept c =
    let len = c.args.line.now.ok.0 in
    let few = c.requires.few in
    let least = c.min-n.ensures in
    let now = c.len.ensures in
    (rw c.unwrap.ensures at c.extend_from_slice.ensures.items)
    ∙ kept_is c.args.line.now.items c.args.piece.now c.min-n.result (omega arith) (omega arith)
