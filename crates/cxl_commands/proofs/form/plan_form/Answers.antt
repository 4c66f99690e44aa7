use Rattle.std.proofs.lemmas.Result.{IfOk-from_err}
use Rattle.std.proofs.Common.{arith, refl, sym, ap, ◌∙◌}
use Rattle.std.proofs.lemmas.Bool.Decides.{nat_tests}
use Rattle.cxl_commands.specs.Form.{create_on_line}
use Rattle.cxl_commands.proofs.Results.{on_err_from}
use Rattle.cxl_commands.proofs.WordCounts.{plan_form-few, plan_form-many, plan_form-three, plan_takes_memory}
use Rattle.cxl_commands.proofs.form.plan_form.Goals as goal
use Rattle.cxl_commands.proofs.form.plan_form.Goals.{in_default-via-then-words-lt3, in_default-via-else-words-lt3+else-words-lt4}

pub returns-in_err-create-in-len3-clause-form : goal.returns-in_err-create-in-len3-clause-form
returns-in_err-create-in-len3-clause-form c = IfOk-from_err c.from_residual.result _ c.from_residual.ensures.0

pub returns-in_err-create-in-len3-clause-memory : goal.returns-in_err-create-in-len3-clause-memory
returns-in_err-create-in-len3-clause-memory c =
    let is = plan_form-three c.args.words.now _ _ _ c.in-len3.len_at_least c.in-len3.len_below c.cedt-item.is c.topo-item.is c.line-item.is in
    on_err_from c.from_residual.result _ (rw is (plan_takes_memory _ _ _))

pub returns-in-Some-clause-form : goal.returns-in-Some-clause-form
returns-in-Some-clause-form c =
    let is = plan_form-three c.args.words.now _ _ _ c.in-len3.len_at_least c.in-len3.len_below c.cedt-item.is c.topo-item.is c.line-item.is in
    let asked = sym c.in-Some.is ∙ c.in_ok-create-in-len3.ensures ∙ ap create_on_line c.as_bytes.ensures.value in
    rw (c.as_str.ensures.value, c.as_str-in-Some.ensures.value, is, ← asked) refl

pub returns-in-None-clause-form : goal.returns-in-None-clause-form
returns-in-None-clause-form c =
    let is = plan_form-three c.args.words.now _ _ _ c.in-len3.len_at_least c.in-len3.len_below c.cedt-item.is c.topo-item.is c.line-item.is in
    let asked = sym c.in-None.is ∙ c.in_ok-create-in-len3.ensures ∙ ap create_on_line c.as_bytes.ensures.value in
    rw (is, ← asked) refl

pub returns-in_default-clause-form : goal.returns-in_default-clause-form
returns-in_default-clause-form c =
    elim c.in_default.branch [
      | in_default-via-then-words-lt3 w ↦ plan_form-few c.args.words.now (grind (arith, nat_tests))
      | in_default-via-else-words-lt3+else-words-lt4 w ↦ plan_form-many c.args.words.now (grind (arith, nat_tests))
    ]
