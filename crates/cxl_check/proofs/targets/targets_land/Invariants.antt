use Rattle.std.proofs.Common.{◌≡◌, true, false, take}
use Rattle.std.specs.List.{list_all}
use Rattle.std.specs.Option.{option_map_or}
use Rattle.cxl_topo.specs.Tree.{bridge_with}
use Rattle.cxl_model.specs.Hosts.{as_system}
use Rattle.cxl_model.specs.Rules.{lands_on}
use Rattle.cxl_check.proofs.targets.targets_land.Given as goal

abbrev pub invariant-loop-uid : goal.invariant-loop-uid
invariant-loop-uid l =
    list_all (λ uid. option_map_or (lands_on (as_system l.host) l.range) (bridge_with l.host.topo.now.nodes uid) false) (take l.uid-index l.targets) ≡ true
