use Rattle.std.proofs.Common.{ap, sym, ◌∙◌, ◌++◌, List, arith}
use Rattle.std.specs.List.{flat_map}
use Rattle.std.proofs.lemmas.List.{append-nil, take_all}
use Rattle.cxl_regs.specs.Registers.{Registers}
use Rattle.cxl_image.specs.Text.{block_text}
use Rattle.cxl_image.proofs.Texts.{appended_more}
use Rattle.cxl_image.proofs.writing.put_blocks.Goals as goal

pub loop-block-init : goal.loop-block-init
loop-block-init c = sym (append-nil c.args.out.now.items)

pub loop-block-preserved : goal.loop-block-preserved
loop-block-preserved c =
    appended_more block_text c.args.out.now.items c.loop-block.out.items c.put_block.new.out.items c.args.blocks.now c.loop-block.block-index c.block-item.result c.loop-block-test.true c.loop-block.invariant
    (c.in_ok-put_block.ensures ∙ ap (λ (block : Registers). c.loop-block.out.items ++ block_text block) c.block-item.is)

pub returns : goal.returns
returns c = c.loop-block.invariant ∙ ap (λ (blocks : List Registers). c.args.out.now.items ++ flat_map block_text blocks) (take_all c.loop-block.block-index c.args.blocks.now (omega arith))
