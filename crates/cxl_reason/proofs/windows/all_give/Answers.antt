use Rattle.std.proofs.Common.{ℕ, List, map, sym, ap, ◌∙◌, arith}
use Rattle.std.specs.Prelude.{is_some}
use Rattle.cxl_model.specs.Hosts.{as_system}
use Rattle.cxl_pick.specs.Picking.{all_given}
use Rattle.cxl_reason.specs.inner.Gifts.{at_target}
use Rattle.cxl_reason.proofs.Targets.{all_some, none_given}
use Rattle.cxl_reason.proofs.windows.all_give.Goals as goal

pub returns-then-not-gives_at : goal.returns-then-not-gives_at
returns-then-not-gives_at c =
    let f = at_target (as_system c.args.host.now) c.args.want.now c.args.w.now c.args.start in
    sym (none_given f c.targets-targets.result.now c.loop-uid.uid-index c.loop-uid-test.true (sym c.gives_at.ensures ∙ c.if-not-gives_at.true))
    ∙ ap (λ (us : List ℕ). is_some (all_given (map f us))) c.targets-targets.ensures.value

pub returns : goal.returns
returns c =
    let f = at_target (as_system c.args.host.now) c.args.want.now c.args.w.now c.args.start in
    let end = c.loop-uid-test.false in
    sym (all_some f c.targets-targets.result.now (λ k within. c.loop-uid.invariant k (omega (arith, within, end))))
    ∙ ap (λ (us : List ℕ). is_some (all_given (map f us))) c.targets-targets.ensures.value
