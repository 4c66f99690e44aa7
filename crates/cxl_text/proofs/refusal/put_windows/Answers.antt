use Rattle.std.proofs.lemmas.Result.{IfOk-from_err}
use Rattle.cxl_reply.specs.Refusals.{window_text}
use Rattle.cxl_text.proofs.Lines.{line_step}
use Rattle.cxl_text.proofs.refusal.put_windows.Goals as goal

pub returns-in_err-put_window : goal.returns-in_err-put_window
returns-in_err-put_window c = IfOk-from_err c.from_residual.result _ c.from_residual.ensures.0

pub loop-index-preserved : goal.loop-index-preserved
loop-index-preserved c =
    line_step (window_text c.args.topo.now.nodes) c.args.reasons.now c.loop-index.index _ _ _ _ c.loop-index-test.true c.loop-index.invariant c.in_ok-put_window.ensures
