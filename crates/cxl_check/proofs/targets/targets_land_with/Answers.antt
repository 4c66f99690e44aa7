use Rattle.std.proofs.Common.{◌≡◌, true, false, Option, refl, sym, ap, ◌∙◌}
use Rattle.std.specs.Option.{option_map_or}
use Rattle.std.proofs.lemmas.Option.{get_or_from_slice_get}
use Rattle.cxl_window.specs.Fields.{WindowFields}
use Rattle.cxl_model.specs.Hosts.{as_system}
use Rattle.cxl_model.specs.Rules.{is_bridge_landing, targets_land}
use Rattle.cxl_check.proofs.targets.targets_land_with.Goals as goal

pub returns-then-not-landings-node : goal.returns-then-not-landings-node
returns-then-not-landings-node c =
    let nodes = c.args.host.now.topo.now.nodes in
    let read = get_or_from_slice_get c.args.landings.now c.args.node (is_bridge_landing nodes c.args.node) false (c.requires.landings.each c.args.node c.requires.here) in
    let other : is_bridge_landing nodes c.args.node ≡ false = sym read ∙ c.if-not-landings-node.true in
    rw other refl

pub returns-in-Some : goal.returns-in-Some
returns-in-Some c =
    let nodes = c.args.host.now.topo.now.nodes in
    let s = as_system c.args.host.now in
    let read = get_or_from_slice_get c.args.landings.now c.args.node (is_bridge_landing nodes c.args.node) false (c.requires.landings.each c.args.node c.requires.here) in
    let landing : is_bridge_landing nodes c.args.node ≡ true = sym read ∙ c.if-not-landings-node.false in
    rw landing (c.targets_land.ensures ∙ ap (λ (o : Option WindowFields). option_map_or (targets_land s c.args.range.now) o true) c.in-Some.ensures)
