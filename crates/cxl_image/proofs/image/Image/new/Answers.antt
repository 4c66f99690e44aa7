use Rattle.std.proofs.Common.{◌≡◌, List, [], ◌∷◌, ◌++◌, length, map, sym, ap, subst, ◌∙◌, arith}
use Rattle.std.proofs.lemmas.List.{length_push, take_all}
use Rattle.std.proofs.lemmas.List.Elements.{All-nil, All-push}
use Rattle.std.specs.Prelude.{All}
use Rattle.cxl_regs.specs.Registers.{Registers, IsBlock, reset_block}
use Rattle.cxl_topo.specs.declared.node.Node.{Node}
use Rattle.cxl_topo.specs.Kinds.{is_endpoint}
use Rattle.cxl_image.specs.Images.{reset_block_of, reset_blocks, HasCapsOf}
use Rattle.cxl_image.proofs.Blocks.{reset_is_block, reset_caps, reset_more}
use Rattle.cxl_image.proofs.image.Image.new.Goals as goal

pub loop-i-init : goal.loop-i-init
loop-i-init c = record {
  reset = c.in_ok-blocks.ensures.items;
  each = subst (All IsBlock) (sym c.in_ok-blocks.ensures.items) (All-nil IsBlock);
  count = ap (λ (blocks : List Registers). length blocks) c.in_ok-blocks.ensures.items;
  room = omega (arith, c.in_ok-blocks.ensures.capacity, c.count.ensures.count);
}

pub new-requires : goal.new-requires
new-requires c = rw c.is_endpoint.ensures (c.count-i-end.ensures.tree.caps c.loop-i.i c.node-node.result.now c.node-node.ensures)

pub loop-i-preserved : goal.loop-i-preserved
loop-i-preserved c =
    let node : Node = c.node-node.result.now in
    let is : c.new.result ≡ reset_block_of node = c.new.ensures ∙ ap (reset_block node.cap) c.is_endpoint.ensures in
    let legal = c.count.ensures.tree.caps c.loop-i.i node c.node-node.ensures in
    rw c.push_reserved.ensures.items (record {
      reset = ap (λ (front : List Registers). front ++ c.new.result ∷ []) c.loop-i.invariant.reset ∙ reset_more c.args.topo.now.nodes c.loop-i.i node c.new.result c.node-node.ensures is;
      each = All-push IsBlock c.loop-i.blocks.items c.new.result c.loop-i.invariant.each (subst IsBlock (sym is) (reset_is_block node.cap (is_endpoint node.kind) legal));
      count = omega (arith, c.loop-i.invariant.count, length_push c.loop-i.blocks.items c.new.result);
      room = omega (arith, c.push_reserved.ensures.capacity, c.loop-i.invariant.room);
    })

pub push_reserved-requires : goal.push_reserved-requires
push_reserved-requires c = omega (arith, c.loop-i.blocks.ok.0, c.loop-i.invariant.count, c.loop-i.invariant.room)

all_reset : (c : goal.After-loop-i) → c.loop-i.blocks.items ≡ reset_blocks c.args.topo.now.nodes
all_reset c = c.loop-i.invariant.reset ∙ ap (map reset_block_of) (take_all c.loop-i.i c.args.topo.now.nodes (omega arith))

pub invariant_of-result : goal.invariant_of-result
invariant_of-result c = record {
  few = omega (arith, c.loop-i.invariant.count, c.count-i-end.ensures.count, c.count-i-end.ensures.tree.few_nodes);
  each = c.loop-i.invariant.each;
}

pub returns-clause-reset : goal.returns-clause-reset
returns-clause-reset c = all_reset c

pub returns-clause-caps : goal.returns-clause-caps
returns-clause-caps c = subst (λ (blocks : List Registers). HasCapsOf blocks c.args.topo.now.nodes) (sym (all_reset c)) (reset_caps c.args.topo.now.nodes)
