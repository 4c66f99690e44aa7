use Rattle.std.proofs.Common.{ℕ, ◌≤◌, List, Ok, length, refl, sym, ap, subst, ◌∙◌}
use Rattle.cxl_model.specs.Hosts.{as_system}
use Rattle.cxl_model.specs.System.{decoders_at, ram_at, pmem_at}
use Rattle.cxl_legal.specs.Endpoints.{share_of}
use Rattle.cxl_legal.specs.Stated.{targets_word}
use Rattle.cxl_plan.proofs.StatedRows.{skip_is, tail_endpoint, tail_port}
use Rattle.cxl_plan.proofs.FaultOrder.{few_ports}
use Rattle.std.specs.Result.{IsOk}
use Rattle.cxl_topo.proofs.Trees.{KnownTree}
use Rattle.cxl_plan.proofs.UsedItems.{used_asked}
use Rattle.cxl_plan.proofs.rows.tail.Goals as goal

pub unwrap-requires : goal.unwrap-requires
unwrap-requires c =
    let nodes = c.args.host.now.topo.now.nodes in
    let request = c.args.request.now in
    let tree : KnownTree nodes = record { tree = c.requires.settled.ready.system.tree; laws = c.requires.settled.ready.laws } in
    let asked = used_asked nodes tree request c.requires.settled.ready.named c.args.node (sym c.is_endpoint.ensures ∙ c.if-is_endpoint.true) c.requires.used in
    let room = c.requires.settled.endpoints.room c.args.node asked in
    subst (λ r. IsOk r) (sym ((c.span_of.ensures (Ok room.0)).1 room.1)) refl

pub targets_word-requires : goal.targets_word-requires
targets_word-requires c =
    let s = as_system c.args.host.now in
    let few = few_ports s c.args.request.now c.requires.settled.endpoints c.args.node c.requires.used c.requires.here (sym c.is_endpoint.ensures ∙ c.if-is_endpoint.false) in
    subst (λ (xs : List ℕ). length xs ≤ 8) (sym c.ports_of.ensures) few

pub returns-then-is_endpoint : goal.returns-then-is_endpoint
returns-then-is_endpoint c =
    let s = as_system c.args.host.now in
    let node = c.args.node in
    let request = c.args.request.now in
    let span = c.unwrap.result in
    let room = (c.span_of.ensures (Ok span)).0 c.unwrap.ensures in
    skip_is (decoders_at s node) (ram_at s node) (pmem_at s node) request.kind (share_of request) span room ∙ sym (tail_endpoint s.nodes c.args.host.now.image.now request node (sym c.is_endpoint.ensures ∙ c.if-is_endpoint.true))

pub returns-else-is_endpoint : goal.returns-else-is_endpoint
returns-else-is_endpoint c =
    c.targets_word.ensures.value ∙ ap targets_word c.ports_of.ensures
    ∙ sym (tail_port c.args.host.now.topo.now.nodes c.args.host.now.image.now c.args.request.now c.args.node (sym c.is_endpoint.ensures ∙ c.if-is_endpoint.false))
