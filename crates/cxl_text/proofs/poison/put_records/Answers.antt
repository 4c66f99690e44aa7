use Rattle.std.proofs.lemmas.Result.{IfOk-from_err}
use Rattle.std.proofs.Common.{arith}
use Rattle.cxl_reply.specs.Texts.{record_text}
use Rattle.cxl_text.proofs.Lines.{pair_step}
use Rattle.cxl_text.proofs.poison.put_records.Goals as goal

pub returns-in_err-put_record : goal.returns-in_err-put_record
returns-in_err-put_record c = IfOk-from_err c.from_residual.result _ c.from_residual.ensures.0

pub loop-i-preserved : goal.loop-i-preserved
loop-i-preserved c =
    pair_step (record_text c.args.names.now) c.args.records.now c.args.pieces.now c.loop-i.i _ c.index-pieces-i.result _ _ _ c.loop-i-test.true
    (omega (arith, c.loop-i-test.true, c.requires.len)) c.index-pieces-i.is c.loop-i.invariant c.in_ok-put_record.ensures
