use Rattle.std.proofs.Common.{◌≡◌, ℕ, List, length, ap, ◌∙◌, arith}
use Rattle.cxl_regs.specs.Registers.{Registers}
use Rattle.cxl_model.specs.Regions.{region_range}
use Rattle.cxl_model.specs.System.{system_of, blocks_alone}
use Rattle.cxl_walk.specs.inner.Gathering.{own_below}
use Rattle.cxl_walk.proofs.RegionLists.{fresh, held_once, start, zipped}
use Rattle.cxl_walk.proofs.gathering.own_of_each.Goals as goal

pub loop-node-init : goal.loop-node-init
loop-node-init c = record {
  long = c.in_ok-owns.ensures.long;
  each = λ k found own at own_at. start (blocks_alone c.args.image.now) (region_range found) 0 own.items (c.in_ok-owns.ensures.empty k own own_at);
}

pub gather_node-requires-clause-once : goal.gather_node-requires-clause-once
gather_node-requires-clause-once c =
    held_once c.one_holder.ensures.range (system_of c.args.image.now c.args.topo.now c.requires.blocks.0) c.requires.blocks.1 c.loop-node.node

pub returns : goal.returns
returns c =
    let blocks : List Registers = c.args.image.now in
    let n : ℕ = c.loop-node.node in
    let all : n ≡ length c.args.topo.now.nodes = omega (arith, c.loop-node-test.false, c.loop-node.auto.node-end, c.count-node-end.ensures.count) in
    zipped _ c.args.founds.now c.loop-node.owns.items c.loop-node.invariant.long
    (λ k found own at own_at. fresh (blocks_alone blocks) (region_range found) n own.items (c.loop-node.invariant.each k found own at own_at)
    ∙ ap (own_below (blocks_alone blocks) (region_range found)) all)

pub gather_node-requires-clause-rising : goal.gather_node-requires-clause-rising
gather_node-requires-clause-rising c = c.requires.rising
