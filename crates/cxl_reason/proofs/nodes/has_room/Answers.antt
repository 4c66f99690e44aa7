use Rattle.std.proofs.Common.{◌≡◌, ℕ, [], Ok, Err, Option, refl, sym, ap, ◌∙◌, subst}
use Rattle.std.specs.Option.{option_map_or}
use Rattle.cxl_regs.specs.Registers.{Registers}
use Rattle.cxl_span.specs.Allotting.{all_committed}
use Rattle.cxl_span.specs.Breaches.{BlockKeeps}
use Rattle.cxl_model.specs.Hosts.{as_system}
use Rattle.cxl_model.specs.System.{decoders_at, ram_at}
use Rattle.cxl_model.proofs.RangeRules.{block_keeps}
use Rattle.cxl_reason.proofs.Rooms.{endpoint_at}
use Rattle.cxl_reason.proofs.Rooms.{is_roomy, roomy_where_allotted, full_where_refused}
use Rattle.cxl_reason.proofs.nodes.has_room.Goals as goal

pub allot-requires-clause-endpoint : goal.allot-requires-clause-endpoint
allot-requires-clause-endpoint c =
    endpoint_at (as_system c.args.host.now) c.requires.ready c.args.node c.block.result.now c.requires.endpoint c.block.ensures.value

pub allot-requires-clause-keeps : goal.allot-requires-clause-keeps
allot-requires-clause-keeps c =
    let s = as_system c.args.host.now in
    let block = c.block.result.now in
    subst (λ (r : ℕ). BlockKeeps block r c.capacity_at-capacity.result.pmem) (sym c.capacity_at-capacity.ensures.ram)
    (subst (λ (p : ℕ). BlockKeeps block (ram_at s c.args.node) p) (sym c.capacity_at-capacity.ensures.pmem) (block_keeps s c.requires.ready.blocks c.args.node block c.block.ensures.value))

pub returns-in-Ok : goal.returns-in-Ok
returns-in-Ok c =
    let decoders : decoders_at (as_system c.args.host.now) c.args.node ≡ c.block.result.now.decoders = ap (λ (o : Option Registers). option_map_or (λ block. block.decoders) o []) c.block.ensures.value in
    let ram = c.capacity_at-capacity.ensures.ram in
    let pmem = c.capacity_at-capacity.ensures.pmem in
    let share = c.share.ensures.value in
    let allots = (c.in-Ok.ensures.exact (Ok c.in-Ok.field-0)).0 refl in
    roomy_where_allotted c.block.result.now.decoders c.capacity_at-capacity.result.ram c.capacity_at-capacity.result.pmem c.args.want.now.kind c.share.result c.in-Ok.field-0 allots
    ∙ (λ k. is_roomy (sym decoders k) (ram k) (pmem k) c.args.want.now.kind (share k))

pub returns-in-Err : goal.returns-in-Err
returns-in-Err c =
    let decoders : decoders_at (as_system c.args.host.now) c.args.node ≡ c.block.result.now.decoders = ap (λ (o : Option Registers). option_map_or (λ block. block.decoders) o []) c.block.ensures.value in
    let ram = c.capacity_at-capacity.ensures.ram in
    let pmem = c.capacity_at-capacity.ensures.pmem in
    let share = c.share.ensures.value in
    let refused = (c.in-Err.ensures.exact (Err c.in-Err.field-0)).0 refl in
    full_where_refused c.block.result.now.decoders c.capacity_at-capacity.result.ram c.capacity_at-capacity.result.pmem c.args.want.now.kind c.share.result c.in-Err.field-0 (ap all_committed (sym decoders) ∙ c.requires.left) refused
    ∙ (λ k. is_roomy (sym decoders k) (ram k) (pmem k) c.args.want.now.kind (share k))
