use Rattle.std.proofs.Common.{◌≡◌, ◌++◌, take}
use Rattle.std.specs.List.{flat_map}
use Rattle.cxl_image.specs.Text.{block_text}
use Rattle.cxl_image.proofs.writing.put_blocks.Given as goal

-- the words of the first blocks are appended
abbrev pub invariant-loop-block : goal.invariant-loop-block
invariant-loop-block l = l.out.items ≡ l.fn.out.items ++ flat_map block_text (take l.block-index l.blocks)
