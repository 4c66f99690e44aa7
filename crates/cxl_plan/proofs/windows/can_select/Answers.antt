use Rattle.std.proofs.Common.{ap, ◌∙◌}
use Rattle.cxl_plan.specs.declared.stages.Stage.{Stage}
use Rattle.cxl_plan.proofs.Reasons.{selects_tested}
use Rattle.cxl_plan.proofs.windows.can_select.Goals as goal

pub returns : goal.returns
returns c nodes n used is =
    c.selects.ensures
    ∙ selects_tested nodes c.args.request.now c.args.w.now n _ _ _ used (c.stage_code.ensures nodes n is) (ap (λ (s : Stage). s.bits) is) (ap (λ (s : Stage). s.cap) is)
