use Rattle.std.proofs.Common.{◌≡◌, ◌+◌, ◌∷◌, ℕ, List, drop, get_or, Some, None, refl, sym, ap, ◌∙◌, add-one, drop-cons}
use Rattle.cxl_model.specs.Hosts.{as_system}
use Rattle.cxl_cause.specs.RangeCauses.{target_cause, targets_cause}
use Rattle.cxl_cause.proofs.targets.targets_cause.Goals as goal

pub returns-in-Some : goal.returns-in-Some
returns-in-Some c =
    let s = as_system c.args.host.now in
    let r = c.args.range.now in
    let w = c.args.w.now in
    let targets : List ℕ = c.targets-targets.result.now in
    let i : ℕ = c.loop-uid.uid-index in
    let rest : drop i targets ≡ get_or targets i 0 ∷ drop (i + 1) targets = rw add-one (drop-cons targets i 0 c.loop-uid-test.true) in
    let found : target_cause s r w (get_or targets i 0) ≡ Some c.in-Some.cause = sym c.target_cause.ensures ∙ c.in-Some.is in
    sym (c.loop-uid.invariant ∙ ap (targets_cause s r w) rest ∙ rw found refl)

pub loop-uid-preserved : goal.loop-uid-preserved
loop-uid-preserved c =
    let s = as_system c.args.host.now in
    let r = c.args.range.now in
    let w = c.args.w.now in
    let targets : List ℕ = c.targets-targets.result.now in
    let i : ℕ = c.loop-uid.uid-index in
    let rest : drop i targets ≡ get_or targets i 0 ∷ drop (i + 1) targets = rw add-one (drop-cons targets i 0 c.loop-uid-test.true) in
    let none : target_cause s r w (get_or targets i 0) ≡ None = sym c.target_cause.ensures ∙ c.in_default.is in
    c.loop-uid.invariant ∙ ap (targets_cause s r w) rest ∙ rw none refl
