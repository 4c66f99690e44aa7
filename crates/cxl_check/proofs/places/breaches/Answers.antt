use Rattle.std.proofs.Common.{None}
use Rattle.std.proofs.lemmas.Result.{IfOk-weaker}
use Rattle.cxl_model.specs.System.{System, IsSystem, system_of}
use Rattle.cxl_check.proofs.FirstBreaches.{first_of_caps, ready_where_none}
use Rattle.cxl_check.proofs.FirstOfRule.{first_breaches, of_blocks}
use Rattle.cxl_check.proofs.places.breaches.Goals as goal

pub returns-in-Some : goal.returns-in-Some
returns-in-Some c =
    let s : System = system_of c.args.image.now c.args.topo.now c.args.windows.now in
    IfOk-weaker c.caps_spots.result _ _ (λ found are. first_breaches s 1 c.in-Some._node 0 (first_of_caps s c.in-Some._node c.in-Some.ensures.first) found.items are) c.caps_spots.ensures

pub blocks_breach-requires : goal.blocks_breach-requires
blocks_breach-requires c =
    let s : System = system_of c.args.image.now c.args.topo.now c.args.windows.now in
    let system = c.hosts_with_caps_are_systems.ensures.system s (record { tree = c.count-count.ensures.tree; blocks = c.count-blocks.ensures.image.each; made = c.requires }) c.in_default.ensures.none in
    record { caps = system.caps }

pub blocks_spots-requires : goal.blocks_spots-requires
blocks_spots-requires c =
    let s : System = system_of c.args.image.now c.args.topo.now c.args.windows.now in
    let system : IsSystem s = c.hosts_with_caps_are_systems.ensures.system s (record { tree = c.count-count.ensures.tree; blocks = c.count-blocks.ensures.image.each; made = c.requires }) c.in_default.ensures.none in
    system.caps

pub returns-in-Some-blocks_breach : goal.returns-in-Some-blocks_breach
returns-in-Some-blocks_breach c =
    let s : System = system_of c.args.image.now c.args.topo.now c.args.windows.now in
    let system : IsSystem s = c.hosts_with_caps_are_systems.ensures.system s (record { tree = c.count-count.ensures.tree; blocks = c.count-blocks.ensures.image.each; made = c.requires }) c.in_default.ensures.none in
    IfOk-weaker c.blocks_spots.result _ _
    (λ found spots. of_blocks s c.in_default.ensures.none system.caps.count c.in-Some-blocks_breach.breach c.in-Some-blocks_breach.ensures found.items spots) c.blocks_spots.ensures

pub ranges_spots-requires : goal.ranges_spots-requires
ranges_spots-requires c =
    let s : System = system_of c.args.image.now c.args.topo.now c.args.windows.now in
    let system : IsSystem s = c.hosts_with_caps_are_systems.ensures.system s (record { tree = c.count-count.ensures.tree; blocks = c.count-blocks.ensures.image.each; made = c.requires }) c.in_default.ensures.none in
    ready_where_none s c.in_default.ensures.none system.caps.count system None c.in-None.ensures
