use Rattle.std.proofs.Common.{Some, pos, sym, ◌∙◌}
use Rattle.std.proofs.lemmas.Result.{err_from_is_err_and}
use Rattle.cxl_enc.specs.Caps.{is_target_count}
use Rattle.cxl_topofile.specs.declared.key.Key.TheVariants as keys
use Rattle.cxl_topofile.specs.inner.Fields.{members_of}
use Rattle.cxl_topofile.proofs.Steps.{number_fails, number_passes, number_refused}
use Rattle.cxl_topofile.proofs.value.targets.Goals as goal

pub returns-in_err-n-clause-targets : goal.returns-in_err-n-clause-targets
returns-in_err-n-clause-targets c =
    let p = err_from_is_err_and c.from_residual.result c.from_residual.ensures.1 in
    rw (p.1, p.2) (number_fails (members_of c.args.fields.now) keys.Targets (Some (pos 8)) is_target_count c.in_err-n.field-0.0 c.in_err-n.ensures)

pub returns-then-not-is_target_count-clause-targets : goal.returns-then-not-is_target_count-clause-targets
returns-then-not-is_target_count-clause-targets c =
    rw c.out_of_range.ensures (number_refused (members_of c.args.fields.now) keys.Targets (Some (pos 8)) is_target_count c.in_ok-n.n c.in_ok-n.ensures (sym c.is_target_count.ensures.value ∙ c.if-not-is_target_count.true))

pub returns-clause-targets : goal.returns-clause-targets
returns-clause-targets c = number_passes (members_of c.args.fields.now) keys.Targets (Some (pos 8)) is_target_count c.in_ok-n.n c.in_ok-n.ensures (sym c.is_target_count.ensures.value ∙ c.if-not-is_target_count.false)
