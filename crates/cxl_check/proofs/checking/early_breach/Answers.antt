use Rattle.cxl_model.specs.Hosts.{as_system}
use Rattle.cxl_model.specs.System.{IsSystem}
use Rattle.cxl_check.proofs.FirstBreaches.{first_of_caps, ready_where_none, first_where_some}
use Rattle.cxl_check.proofs.checking.early_breach.Goals as goal

pub returns-in-Some-clause-first : goal.returns-in-Some-clause-first
returns-in-Some-clause-first c = first_of_caps (as_system c.args.host.now) c.in-Some.node c.in-Some.ensures.first

pub blocks_breach-requires : goal.blocks_breach-requires
blocks_breach-requires c =
    let s = as_system c.args.host.now in
    let system = c.hosts_with_caps_are_systems.ensures.system s (record { tree = c.count-count.ensures.tree; blocks = c.count-blocks.ensures.image.each; made = c.requires }) c.in_default.ensures.none in
    record { caps = system.caps }

pub returns-clause-none : goal.returns-clause-none
returns-clause-none c =
    let s = as_system c.args.host.now in
    let system : IsSystem s = c.hosts_with_caps_are_systems.ensures.system s (record { tree = c.count-count.ensures.tree; blocks = c.count-blocks.ensures.image.each; made = c.requires }) c.in_default.ensures.none in
    ready_where_none s c.in_default.ensures.none system.caps.count system c.blocks_breach.result c.blocks_breach.ensures

pub returns-clause-first : goal.returns-clause-first
returns-clause-first c =
    let s = as_system c.args.host.now in
    let system : IsSystem s = c.hosts_with_caps_are_systems.ensures.system s (record { tree = c.count-count.ensures.tree; blocks = c.count-blocks.ensures.image.each; made = c.requires }) c.in_default.ensures.none in
    first_where_some s c.in_default.ensures.none system.caps.count c.blocks_breach.result c.blocks_breach.ensures
