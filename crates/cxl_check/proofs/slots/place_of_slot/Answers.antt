use Rattle.std.proofs.Common.{◌≡◌, ℕ, ◌<◌, Some, length, get_or, refl, sym, ap, subst, ◌∙◌, arith}
use Rattle.std.specs.Prelude.{slice_get}
use Rattle.std.proofs.lemmas.Option.{slice_get_within, get_or_from_slice_get, same_Some}
use Rattle.cxl_enc.proofs.Options.{some_and}
use Rattle.cxl_topo.specs.Tree.{bridge_with}
use Rattle.cxl_model.specs.Hosts.{as_system}
use Rattle.cxl_model.specs.Regions.{target_position, LeadsTo}
use Rattle.cxl_check.proofs.WaysUp.{above_bridge}
use Rattle.cxl_check.proofs.slots.place_of_slot.Goals as goal

pub offset_bounds-targets-from : goal.offset_bounds-targets-from
offset_bounds-targets-from c =
    let position = target_position c.args.w.now c.args.slot in
    let uid = some_and (slice_get c.args.w.now.targets position) (λ (uid : ℕ). bridge_with c.args.host.now.topo.now.nodes uid ≡ Some c.requires.some.1.bridge) c.requires.some.1.target in
    let within : c.from.result < length c.targets.result.now = rw (c.targets.ensures.value, c.from.ensures, c.target_position.ensures.value) (slice_get_within c.args.w.now.targets position uid.0 uid.1) in
    let fits = c.targets.type_inv.1 in
    omega (arith, within, fits)

pub bounds-targets-from : goal.bounds-targets-from
bounds-targets-from c =
    let position = target_position c.args.w.now c.args.slot in
    let uid = some_and (slice_get c.args.w.now.targets position) (λ (uid : ℕ). bridge_with c.args.host.now.topo.now.nodes uid ≡ Some c.requires.some.1.bridge) c.requires.some.1.target in
    rw (c.targets.ensures.value, c.from.ensures, c.target_position.ensures.value) (slice_get_within c.args.w.now.targets position uid.0 uid.1)

pub unwrap-bridge-requires : goal.unwrap-bridge-requires
unwrap-bridge-requires c =
    let w = c.args.w.now in
    let nodes = c.args.host.now.topo.now.nodes in
    let position = target_position w c.args.slot in
    let span = c.requires.some.1 in
    let uid = some_and (slice_get w.targets position) (λ (uid : ℕ). bridge_with nodes uid ≡ Some span.bridge) span.target in
    let read : get_or c.targets.result.now c.from.result 0 ≡ uid.0 = rw (c.targets.ensures.value, c.from.ensures, c.target_position.ensures.value) (get_or_from_slice_get w.targets position uid.0 0 uid.1) in
    rw (c.target_with.ensures ∙ ap (bridge_with nodes) read ∙ uid.2) refl

pub place_below-requires-clause-some : goal.place_below-requires-clause-some
place_below-requires-clause-some c =
    let w = c.args.w.now in
    let nodes = c.args.host.now.topo.now.nodes in
    let position = target_position w c.args.slot in
    let span = c.requires.some.1 in
    let uid = some_and (slice_get w.targets position) (λ (uid : ℕ). bridge_with nodes uid ≡ Some span.bridge) span.target in
    let read : get_or c.targets.result.now c.from.result 0 ≡ uid.0 = rw (c.targets.ensures.value, c.from.ensures, c.target_position.ensures.value) (get_or_from_slice_get w.targets position uid.0 0 uid.1) in
    let bridge : bridge_with nodes uid.0 ≡ Some c.unwrap-bridge.result = ap (bridge_with nodes) (sym read) ∙ sym c.target_with.ensures ∙ c.unwrap-bridge.ensures in
    let same : span.bridge ≡ c.unwrap-bridge.result = same_Some span.bridge c.unwrap-bridge.result (sym uid.2 ∙ bridge) in
    (c.requires.some.0, subst (λ (n : ℕ). LeadsTo (as_system c.args.host.now) w c.args.range.now c.args.slot n c.requires.some.0) same span.leads)

pub place_below-requires-clause-above : goal.place_below-requires-clause-above
place_below-requires-clause-above c =
    let s = as_system c.args.host.now in
    let tree = c.count-count.ensures.tree in
    above_bridge s c.args.range.now (record { tree = tree; laws = c.tree_laws.ensures.laws s.nodes tree })
    (get_or c.targets.result.now c.from.result 0) c.unwrap-bridge.result (sym c.target_with.ensures ∙ c.unwrap-bridge.ensures)

pub returns : goal.returns
returns c =
    let w = c.args.w.now in
    let nodes = c.args.host.now.topo.now.nodes in
    let position = target_position w c.args.slot in
    let span = c.requires.some.1 in
    let uid = some_and (slice_get w.targets position) (λ (uid : ℕ). bridge_with nodes uid ≡ Some span.bridge) span.target in
    let read : get_or c.targets.result.now c.from.result 0 ≡ uid.0 = rw (c.targets.ensures.value, c.from.ensures, c.target_position.ensures.value) (get_or_from_slice_get w.targets position uid.0 0 uid.1) in
    let bridge : bridge_with nodes uid.0 ≡ Some c.unwrap-bridge.result = ap (bridge_with nodes) (sym read) ∙ sym c.target_with.ensures ∙ c.unwrap-bridge.ensures in
    record { bridge = c.unwrap-bridge.result; target = rw uid.1 bridge; leads = c.place_below.ensures }
