use Rattle.std.proofs.Common.{ℕ, ◌+◌, sym, ap, ◌∙◌}
use Rattle.std.proofs.lemmas.Bool.{eqb-true, eqb-false}
use Rattle.cxl_enc.specs.Codes.{bits_of}
use Rattle.cxl_model.specs.Plans.{plan_code}
use Rattle.cxl_legal.specs.Used.{request_ways}
use Rattle.cxl_plan.specs.declared.stages.Stage.{Stage}
use Rattle.cxl_plan.specs.inner.Uses.{ways_at}
use Rattle.cxl_plan.proofs.PlannedWays.{code_one, code_endpoint, code_port}
use Rattle.cxl_plan.proofs.stages.stage_code.Goals as goal

pub returns-then-stage : goal.returns-then-stage
returns-then-stage c nodes n is =
    sym (code_one nodes c.args.request.now c.args.w.now n (eqb-true (ways_at nodes c.args.request.now n) 1 (sym (ap (λ (s : Stage). s.single) is) ∙ c.if-stage.true)))

pub returns-then-stage-2 : goal.returns-then-stage-2
returns-then-stage-2 c nodes n is =
    c.from.ensures ∙ c.plan_code-code.ensures
    ∙ sym (code_endpoint nodes c.args.request.now c.args.w.now n (eqb-false (ways_at nodes c.args.request.now n) 1 (sym (ap (λ (s : Stage). s.single) is) ∙ c.if-stage.false)) (sym (ap (λ (s : Stage). s.endpoint) is) ∙ c.if-stage-2.true))

pub returns : goal.returns
returns c nodes n is =
    let code = plan_code c.args.request.now c.args.w.now (request_ways c.args.request.now) in
    c.code_below.ensures
    ∙ ap (λ (m : ℕ). m + c.split.result.bits + c.args.stage.now.above) c.plan_code-code.ensures
    ∙ ap (λ (m : ℕ). code + m + c.args.stage.now.above) (c.split.ensures.bits ∙ ap bits_of c.ways.ensures.value)
    ∙ ap (λ (m : ℕ). code + bits_of c.args.w.now.ways + m) (ap (λ (s : Stage). s.above) is)
    ∙ sym (code_port nodes c.args.request.now c.args.w.now n (eqb-false (ways_at nodes c.args.request.now n) 1 (sym (ap (λ (s : Stage). s.single) is) ∙ c.if-stage.false)) (sym (ap (λ (s : Stage). s.endpoint) is) ∙ c.if-stage-2.false))
