use Rattle.std.proofs.Common.{◌≡◌, List, [], ◌∷◌, ◌++◌, length, take, sym, ap, ◌∙◌, arith}
use Rattle.std.proofs.lemmas.List.{length-take-le, take_all, take_more}
use Rattle.cxl_regs.specs.Registers.{Registers}
use Rattle.cxl_regs.proofs.block.copies.Goals as goal

pub loop-block-init : goal.loop-block-init
loop-block-init c = record { copied = c.in_ok-copies.ensures.items; room = omega (arith, c.in_ok-copies.ensures.capacity) }

pub push_reserved-requires : goal.push_reserved-requires
push_reserved-requires c =
    let count : length c.loop-block.copies.items ≡ c.loop-block.block-index =
    ap (λ (blocks : List Registers). length blocks) c.loop-block.invariant.copied ∙ length-take-le c.loop-block.block-index c.args.blocks.now (omega (arith, c.loop-block-test.true)) in
    omega (arith, count, c.loop-block.copies.ok.0, c.loop-block.invariant.room, c.loop-block-test.true)

pub loop-block-preserved : goal.loop-block-preserved
loop-block-preserved c = record {
  copied =
      c.push_reserved.ensures.items
      ∙ ap (λ (front : List Registers). front ++ c.copy.result ∷ []) c.loop-block.invariant.copied
      ∙ ap (λ (block : Registers). take c.loop-block.block-index c.args.blocks.now ++ block ∷ []) (c.copy.ensures ∙ c.block-item.is)
      ∙ sym (take_more c.args.blocks.now c.loop-block.block-index c.block-item.result c.loop-block-test.true);
  room = omega (arith, c.push_reserved.ensures.capacity, c.loop-block.invariant.room);
}

pub returns : goal.returns
returns c = c.loop-block.invariant.copied ∙ take_all c.loop-block.block-index c.args.blocks.now (omega (arith, c.loop-block-test.false))
