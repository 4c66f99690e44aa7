use Rattle.std.proofs.Common.{ℕ, Bool, sym, ap, ◌∙◌, arith}
use Rattle.std.specs.List.{list_any}
use Rattle.std.proofs.lemmas.List.Folds.{list_any_at}
use Rattle.cxl_reason.specs.Reasons.{is_below}
use Rattle.cxl_reason.proofs.Targets.{none_passes}
use Rattle.cxl_reason.proofs.counting.lies_below.Goals as goal

pub returns-then-stands_above : goal.returns-then-stands_above
returns-then-stands_above c =
    let p : ℕ → Bool = λ uid. is_below c.args.host.now.topo.now.nodes uid c.args.node in
    sym (list_any_at p c.targets-targets.result.now c.loop-uid.uid-index 0 c.loop-uid-test.true (sym c.stands_above.ensures ∙ c.if-stands_above.true))
    ∙ ap (list_any p) c.targets-targets.ensures.value

pub returns : goal.returns
returns c =
    let p : ℕ → Bool = λ uid. is_below c.args.host.now.topo.now.nodes uid c.args.node in
    let end = c.loop-uid-test.false in
    sym (none_passes p c.targets-targets.result.now (λ k within. c.loop-uid.invariant k (omega (arith, within, end))))
    ∙ ap (list_any p) c.targets-targets.ensures.value
