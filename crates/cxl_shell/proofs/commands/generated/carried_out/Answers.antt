use Rattle.std.proofs.Common.{ℕ, length, ap, subst, ◌∙◌}
use Rattle.std.proofs.lemmas.Result.{IfOk-from_err, IfOk-weaker}
use Rattle.cxl_inputs.specs.Outcome.{one_piece}
use Rattle.cxl_inputs.specs.declared.status.Status.TheVariants.{Done}
use Rattle.cxl_machine.specs.Turns.{machine_after}
use Rattle.cxl_model.specs.System.{System}
use Rattle.cxl_session.specs.State.{SessionState}
use Rattle.cxl_turns.specs.declared.counts.Counts.{Counts}
use Rattle.cxl_shell.specs.commands.Gen.{made_asked, gen_text, HasChecked}
use Rattle.cxl_shell.proofs.Generated.{gone_first_all, image_is_present}
use Rattle.cxl_commands.proofs.Results.{on_err_from}
use Rattle.cxl_shell.proofs.commands.generated.carried_out.Goals as goal

pub returns-in_err-counts-clause-all : goal.returns-in_err-counts-clause-all
returns-in_err-counts-clause-all g c = IfOk-from_err c.from_residual.result _ c.from_residual.ensures.0

pub returns-in_err-checked-clause-all : goal.returns-in_err-checked-clause-all
returns-in_err-checked-clause-all g c = IfOk-from_err c.from_residual-in_err-checked.result _ c.from_residual-in_err-checked.ensures.0

pub returns-in_err-checked-clause-some : goal.returns-in_err-checked-clause-some
returns-in_err-checked-clause-some g c =
    on_err_from c.from_residual-in_err-checked.result _ (λ m at.
    let all = c.in_ok-counts.ensures.all m at in
    (length (made_asked c.args.n), all.0, gone_first_all c.args.n m all.0 _ _ _ _ all.1))

pub returns-clause-some : goal.returns-clause-some
returns-clause-some g c =
    on_err_from c.told.result _ (λ m at.
    let all = c.in_ok-counts.ensures.all m at in
    (length (made_asked c.args.n), all.0, gone_first_all c.args.n m all.0 _ _ _ _ all.1))

pub returns-clause-all : goal.returns-clause-all
returns-clause-all g c =
    IfOk-weaker c.told.result _ _
    (λ outcome told m at.
    let (turns, gone, counts) = c.in_ok-counts.ensures.all m at in
    let session : SessionState = c.carry_out_made.new.session in
    let checked : ℕ = c.in_ok-checked.checked in (
      turns,
      gone,
      checked,
      subst (λ (s : System). HasChecked s checked) (image_is_present session (machine_after m turns) gone.at.stands) c.in_ok-checked.ensures,
      told ∙ ap (λ (n : Counts). one_piece Done (gen_text c.args.n n checked)) counts,
    ))
    c.told.ensures
