use Rattle.std.proofs.Common.{◌≡◌, ℕ, Some, Result, Ok, Err, refl, sym, subst, ◌∙◌}
use Rattle.std.specs.Prelude.{IsSome, IfOk, IfErr}
use Rattle.std.specs.Result.{result_err}
use Rattle.std.proofs.lemmas.Option.{none-some, same_Some}
use Rattle.cxl_window.specs.Fields.{WindowFields}
use Rattle.cxl_model.specs.declared.request.Request.{Request}
use Rattle.cxl_model.specs.declared.plan.Reason.{Reason}
use Rattle.cxl_model.specs.System.{System}
use Rattle.cxl_model.specs.Hosts.{as_system}
use Rattle.cxl_plan.specs.Faults.{IsReason, TakesRequest}
use Rattle.cxl_plan.specs.inner.Choices.{HasReason}
use Rattle.cxl_plan.proofs.LegalPlans.{no_reason}
use Rattle.cxl_plan.proofs.choosing.reason_in.Goals as goal

-- a window with a reason gives no base
gives_reason : (s : System) (request : Request) (w : WindowFields) (result : Result ℕ Reason) → IfOk result (TakesRequest s request w) → HasReason s request w → IsSome (result_err result)
gives_reason s request w (Ok base) takes has =
    absurd (no_reason s request w base takes.window record { can = takes.least.can; inside = takes.inside } has.0 has.1.holds)
gives_reason s request w (Err reason) takes has = refl

is_its_reason : (s : System) (request : Request) (w : WindowFields) (result : Result ℕ Reason) (reason : Reason) → IfErr result (IsReason s request w) → result_err result ≡ Some reason → IsReason s request w reason
is_its_reason s request w (Ok base) reason is err = absurd (none-some reason err)
is_its_reason s request w (Err own) reason is err = subst (IsReason s request w) (same_Some own reason err) is

pub unwrap-requires : goal.unwrap-requires
unwrap-requires c =
    let takes = c.base_in.ensures.takes c.args.host.now.image.now c.args.host.now.windows.now c.requires.floor c.requires.here in
    rw c.err.ensures.value (gives_reason (as_system c.args.host.now) c.args.request.now c.args.w.now c.base_in.result takes c.requires.none)

pub returns : goal.returns
returns c =
    is_its_reason (as_system c.args.host.now) c.args.request.now c.args.w.now c.base_in.result c.unwrap.result
    (c.base_in.ensures.reason c.args.host.now.image.now c.args.host.now.windows.now c.requires.floor) (sym c.err.ensures.value ∙ c.unwrap.ensures)
