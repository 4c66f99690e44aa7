use Rattle.std.specs.Prelude.{slice_get, IsSome}
use Rattle.std.proofs.lemmas.Option.{slice_get-get_or, same_Some}
use Rattle.cxl_topo.specs.declared.node.Node.{Node}
use Rattle.cxl_topo.specs.Tree.{bridge_with}
use Rattle.cxl_model.specs.Hosts.{as_system}
use Rattle.cxl_model.specs.System.{decoders_at, ram_at, pmem_at}
use Rattle.cxl_model.specs.Regions.{target_position}
use Rattle.cxl_model.specs.declared.request.Request.{Request}
use Rattle.cxl_legal.specs.Endpoints.{share_of}
use Rattle.cxl_plan.proofs.StatedRows.{least_start}
use Rattle.cxl_plan.proofs.StatedSpans.{reached_over}
use Rattle.std.proofs.Common.{Some, ◌≡◌, ℕ, ◌<◌, List, Ok, true, length, get_or, refl, sym, ap, subst, ◌∙◌, arith}
use Rattle.std.specs.Result.{IsOk}
use Rattle.std.specs.List.{list_all}
use Rattle.std.proofs.lemmas.Bool.{and_parts}
use Rattle.cxl_topo.proofs.Trees.{KnownTree}
use Rattle.cxl_legal.specs.Used.{is_used}
use Rattle.cxl_legal.specs.Windows.{is_used_bridge}
use Rattle.cxl_plan.specs.inner.Uses.{tree_alone}
use Rattle.cxl_plan.proofs.UsedItems.{used_asked, used_below}
use Rattle.cxl_plan.proofs.Leading.{target_at, used_bridge}
use Rattle.cxl_plan.proofs.spans.place_of.Goals as goal

pub unwrap-bridge-requires : goal.unwrap-bridge-requires
unwrap-bridge-requires c =
    let nodes = c.args.host.now.topo.now.nodes in
    let request = c.args.request.now in
    let targets : List ℕ = c.targets.result.now in
    let all : list_all (is_used_bridge (tree_alone nodes) request) targets ≡ true =
    ap (list_all (is_used_bridge (tree_alone nodes) request)) c.targets.ensures.value ∙ (and_parts (list_all (is_used_bridge (tree_alone nodes) request) c.args.w.now.targets) _ c.requires.settled.window.bridges).0 in
    let long = ap length c.targets.ensures.value in
    let each = c.targets.ensures.each_way in
    let within = c.target_position.ensures.within in
    let from = c.from.ensures in
    let bridge = used_bridge nodes request (get_or targets c.from.result 0) (target_at nodes request targets c.from.result all (omega arith)) in
    subst (λ o. IsSome o) (sym (c.bridge.ensures.bridge ∙ bridge.1)) refl

-- the bridge of a target is used
used_target : (nodes : List Node) (request : Request) (targets : List ℕ) (k b : ℕ) → list_all (is_used_bridge (tree_alone nodes) request) targets ≡ true → k < length targets
    → bridge_with nodes (get_or targets k 0) ≡ Some b → is_used (tree_alone nodes) request b ≡ true
used_target nodes request targets k b all below is =
    let bridge = used_bridge nodes request (get_or targets k 0) (target_at nodes request targets k all below) in
    let same : bridge.0 ≡ b = same_Some bridge.0 b (sym bridge.1 ∙ is) in
    subst (λ (n : ℕ). is_used (tree_alone nodes) request n ≡ true) same bridge.2

pub used_above-above-requires : goal.used_above-above-requires
used_above-above-requires c =
    let nodes = c.args.host.now.topo.now.nodes in
    let request = c.args.request.now in
    let targets : List ℕ = c.targets.result.now in
    let all : list_all (is_used_bridge (tree_alone nodes) request) targets ≡ true =
    ap (list_all (is_used_bridge (tree_alone nodes) request)) c.targets.ensures.value ∙ (and_parts (list_all (is_used_bridge (tree_alone nodes) request) c.args.w.now.targets) _ c.requires.settled.window.bridges).0 in
    let long = ap length c.targets.ensures.value in
    let each = c.targets.ensures.each_way in
    let within = c.target_position.ensures.within in
    let from = c.from.ensures in
    let used = used_target nodes request targets c.from.result c.unwrap-bridge.result all (omega (arith, long, each, within, from)) (sym c.bridge.ensures.bridge ∙ c.unwrap-bridge.ensures) in
    let tree : KnownTree nodes = record { tree = c.requires.settled.ready.system.tree; laws = c.requires.settled.ready.laws } in
    record {
      uses = c.requires.settled.tables;
      ways = c.requires.settled.ways;
      here = used_below nodes tree request c.requires.settled.ready.named c.unwrap-bridge.result used;
      used = used;
    }

pub reached-endpoint-requires : goal.reached-endpoint-requires
reached-endpoint-requires c =
    let nodes = c.args.host.now.topo.now.nodes in
    let request = c.args.request.now in
    let targets : List ℕ = c.targets.result.now in
    let all : list_all (is_used_bridge (tree_alone nodes) request) targets ≡ true =
    ap (list_all (is_used_bridge (tree_alone nodes) request)) c.targets.ensures.value ∙ (and_parts (list_all (is_used_bridge (tree_alone nodes) request) c.args.w.now.targets) _ c.requires.settled.window.bridges).0 in
    let long = ap length c.targets.ensures.value in
    let each = c.targets.ensures.each_way in
    let within = c.target_position.ensures.within in
    let from = c.from.ensures in
    let used = used_target nodes request targets c.from.result c.unwrap-bridge.result all (omega (arith, long, each, within, from)) (sym c.bridge.ensures.bridge ∙ c.unwrap-bridge.ensures) in
    let tree : KnownTree nodes = record { tree = c.requires.settled.ready.system.tree; laws = c.requires.settled.ready.laws } in
    record {
      uses = c.requires.settled.tables;
      ways = c.requires.settled.ways;
      here = used_below nodes tree request c.requires.settled.ready.named c.unwrap-bridge.result used;
      used = used;
      above = c.used_above-above.ensures.ways;
      some = c.used_above-above.ensures.some;
      few = c.used_above-above.ensures.few_ways;
    }

pub unwrap-requires : goal.unwrap-requires
unwrap-requires c =
    let nodes = c.args.host.now.topo.now.nodes in
    let request = c.args.request.now in
    let tree : KnownTree nodes = record { tree = c.requires.settled.ready.system.tree; laws = c.requires.settled.ready.laws } in
    let asked = used_asked nodes tree request c.requires.settled.ready.named c.reached-endpoint.result c.reached-endpoint.ensures.endpoint c.reached-endpoint.ensures.used in
    let room = c.requires.settled.endpoints.room c.reached-endpoint.result asked in
    subst (λ r. IsOk r) (sym ((c.span_of.ensures (Ok room.0)).1 room.1)) refl

pub returns : goal.returns
returns c =
    let s = as_system c.args.host.now in
    let nodes = c.args.host.now.topo.now.nodes in
    let request = c.args.request.now in
    let w = c.args.w.now in
    let m = c.reached-endpoint.result in
    let targets : List ℕ = c.targets.result.now in
    let long = ap length c.targets.ensures.value in
    let each = c.targets.ensures.each_way in
    let within = c.target_position.ensures.within in
    let from = c.from.ensures in
    let uid : ℕ = get_or targets c.from.result 0 in
    let there : slice_get targets c.from.result ≡ Some uid = slice_get-get_or targets c.from.result 0 (omega arith) in
    let at : slice_get w.targets (target_position w c.args.slot) ≡ Some uid =
    ap (slice_get w.targets) (sym (c.from.ensures ∙ c.target_position.ensures.value)) ∙ ap (λ (xs : List ℕ). slice_get xs c.from.result) (sym c.targets.ensures.value) ∙ there in
    let bridge : bridge_with nodes uid ≡ Some c.unwrap-bridge.result = sym c.bridge.ensures.bridge ∙ c.unwrap-bridge.ensures in
    let span = c.unwrap.result in
    record {
      bridge = c.unwrap-bridge.result;
      target = rw at bridge;
      reaches = reached_over nodes request w c.args.slot c.unwrap-bridge.result m c.reached-endpoint.ensures.reaches c.args.host.now.image.now c.args.host.now.windows.now;
      start = least_start (decoders_at s m) (ram_at s m) (pmem_at s m) request.kind (share_of request) span ((c.span_of.ensures (Ok span)).0 c.unwrap.ensures);
    }
