use Rattle.std.proofs.Common.{ℕ, sym, subst}
use Rattle.cxl_topo.proofs.Trees.{endpoint_within}
use Rattle.cxl_span.specs.Breaches.{BlockKeeps}
use Rattle.cxl_model.specs.Hosts.{as_system}
use Rattle.cxl_model.specs.System.{ram_at}
use Rattle.cxl_model.proofs.RangeRules.{block_keeps}
use Rattle.cxl_plan.proofs.KeptBlocks.{endpoint_at, node_inside}
use Rattle.cxl_plan.proofs.room.span_of.Goals as goal

pub allot-requires : goal.allot-requires
allot-requires c = record {
  endpoint = endpoint_at (as_system c.args.host.now) c.args.request.now c.requires.ready c.args.endpoint c.block.result.now c.requires.endpoint c.block.ensures.value;
  keeps =
      let s = as_system c.args.host.now in
      let block = c.block.result.now in
      subst (λ (r : ℕ). BlockKeeps block r c.capacity_at-capacity.result.pmem) (sym c.capacity_at-capacity.ensures.ram)
      (subst (λ (p : ℕ). BlockKeeps block (ram_at s c.args.endpoint) p) (sym c.capacity_at-capacity.ensures.pmem) (block_keeps s c.requires.ready.blocks c.args.endpoint block c.block.ensures.value));
  capacity = c.capacity_at-capacity.ensures.small;
  short = c.share_of-share.ensures.low;
}

pub block-requires : goal.block-requires
block-requires c = node_inside (as_system c.args.host.now) c.args.request.now c.requires.ready c.args.endpoint c.requires.endpoint

pub capacity_at-capacity-requires : goal.capacity_at-capacity-requires
capacity_at-capacity-requires c = endpoint_within c.args.host.now.topo.now.nodes c.args.endpoint c.requires.endpoint

pub share_of-share-requires : goal.share_of-share-requires
share_of-share-requires c = c.requires.sound
