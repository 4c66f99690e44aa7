use Rattle.std.proofs.Common.{◌≡◌, ℕ, Bool, true, false, List, get_or, sym, ap, subst, ◌∙◌}
use Rattle.std.specs.List.{list_all}
use Rattle.std.specs.Option.{option_map_or}
use Rattle.std.proofs.lemmas.List.Folds.{list_all_at}
use Rattle.std.proofs.lemmas.List.{take_all}
use Rattle.cxl_topo.specs.Tree.{bridge_with}
use Rattle.cxl_model.specs.Hosts.{as_system}
use Rattle.cxl_model.specs.Rules.{lands_on}
use Rattle.cxl_check.proofs.Searches.{all_more}
use Rattle.cxl_check.proofs.targets.targets_land.Goals as goal

pub returns-then-not-target_lands : goal.returns-then-not-target_lands
returns-then-not-target_lands c =
    let lands : ℕ → Bool = (λ (uid : ℕ). option_map_or (lands_on (as_system c.args.host.now) c.args.range.now) (bridge_with c.args.host.now.topo.now.nodes uid) false) in
    let targets : List ℕ = c.targets-targets.result.now in
    let fails : lands (get_or targets c.loop-uid.uid-index 0) ≡ false = sym c.target_lands.ensures ∙ c.if-not-target_lands.true in
    sym (ap (list_all lands) (sym c.targets-targets.ensures.value) ∙ list_all_at lands targets c.loop-uid.uid-index 0 c.loop-uid-test.true fails)

pub loop-uid-preserved : goal.loop-uid-preserved
loop-uid-preserved c =
    all_more (λ (uid : ℕ). option_map_or (lands_on (as_system c.args.host.now) c.args.range.now) (bridge_with c.args.host.now.topo.now.nodes uid) false)
    c.targets-targets.result.now c.loop-uid.uid-index 0 c.loop-uid-test.true c.loop-uid.invariant (sym c.target_lands.ensures ∙ c.if-not-target_lands.false)

pub returns : goal.returns
returns c =
    let lands : ℕ → Bool = (λ (uid : ℕ). option_map_or (lands_on (as_system c.args.host.now) c.args.range.now) (bridge_with c.args.host.now.topo.now.nodes uid) false) in
    let all = take_all c.loop-uid.uid-index c.targets-targets.result.now c.loop-uid-test.false ∙ c.targets-targets.ensures.value in
    sym (subst (λ (uids : List ℕ). list_all lands uids ≡ true) all c.loop-uid.invariant)
