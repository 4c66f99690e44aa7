use Rattle.std.proofs.Common.{◌≡◌, ◌≤◌, take, length}
use Rattle.std.specs.Vec.{vec_capacity}
use Rattle.cxl_regs.proofs.block.copies.Given as goal

-- the copies of the first blocks, and room for those of all
abbrev pub invariant-loop-block : goal.invariant-loop-block
invariant-loop-block l = record {
  copied : l.copies.items ≡ take l.block-index l.blocks;
  room : length l.blocks ≤ vec_capacity l.copies;
}
