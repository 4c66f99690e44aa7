use Rattle.std.proofs.Common.{◌≡◌, ℕ, ◌≤◌, max, get_or, sym, ap, subst, ◌∙◌, arith}
use Rattle.cxl_enc.specs.Limits.{address_limit}
use Rattle.cxl_topo.proofs.Trees.{KnownTree}
use Rattle.cxl_model.specs.Hosts.{as_system}
use Rattle.cxl_model.specs.System.{ram_at, pmem_at}
use Rattle.cxl_legal.specs.Bases.{last_end}
use Rattle.cxl_plan.specs.inner.Judging.{without_windows}
use Rattle.cxl_model.proofs.RangeRules.{block_keeps}
use Rattle.cxl_plan.proofs.UsedItems.{item_inside, item_used, used_stands, floor_more}
use Rattle.cxl_plan.proofs.base.floor.Goals as goal

pub block-requires : goal.block-requires
block-requires c =
    let inside = item_inside c.args.host.now.topo.now.nodes c.args.request.now c.deref-node-items.result.now (c.deref-node-items.ensures.value ∙ c.requires.uses.listed) c.loop-node.node-index (omega arith) in
    omega (arith, inside, c.requires.ready.system.caps.count)

pub last_end-requires : goal.last_end-requires
last_end-requires c =
    let s = as_system c.args.host.now in
    let n = get_or c.deref-node-items.result.now c.loop-node.node-index 0 in
    (ram_at s n, pmem_at s n, block_keeps s c.requires.ready.blocks n c.block.result.now c.block.ensures.value)

pub loop-node-preserved : goal.loop-node-preserved
loop-node-preserved c =
    let s = without_windows c.args.host.now.topo.now.nodes c.args.host.now.image.now in
    let items = c.deref-node-items.result.now in
    let i = c.loop-node.node-index in
    let is : last_end s (get_or items i 0) ≡ c.last_end.result = rw c.block.ensures.value (sym c.last_end.ensures.value) in
    let low : last_end s (get_or items i 0) ≤ address_limit = subst (λ (m : ℕ). m ≤ address_limit) (sym is) c.last_end.ensures.low in
    floor_more (λ k. last_end s (get_or items k 0)) i c.loop-node.floor c.greater-floor.result address_limit (c.greater-floor.ensures ∙ ap (λ (m : ℕ). max m c.loop-node.floor) (sym is)) low c.loop-node.invariant

pub returns : goal.returns
returns c =
    let s = without_windows c.args.host.now.topo.now.nodes c.args.host.now.image.now in
    let nodes = c.args.host.now.topo.now.nodes in
    let request = c.args.request.now in
    let items = c.deref-node-items.result.now in
    let tree : KnownTree nodes = record { tree = c.requires.ready.system.tree; laws = c.requires.ready.laws } in
    let is = c.deref-node-items.ensures.value ∙ c.requires.uses.listed in
    record {
      above = λ n used.
          let at = used_stands nodes tree request c.requires.ready.named items is n used in
          let within = at.within in
          subst (λ (m : ℕ). last_end s m ≤ c.loop-node.floor) at.here (c.loop-node.invariant.0 at.place (omega arith));
      least = λ bound all. c.loop-node.invariant.1 bound (λ k below. all (get_or items k 0) (item_used nodes request items is k (omega arith)));
      low = c.loop-node.invariant.2;
    }
