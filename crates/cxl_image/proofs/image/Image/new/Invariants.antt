use Rattle.std.proofs.Common.{◌≡◌, ◌≤◌, length, map, take}
use Rattle.std.specs.Prelude.{All}
use Rattle.std.specs.Vec.{vec_capacity}
use Rattle.cxl_regs.specs.Registers.{IsBlock}
use Rattle.cxl_image.specs.Images.{reset_block_of}
use Rattle.cxl_image.proofs.image.Image.new.Given as goal

-- the blocks of the first nodes, and room for those of all
abbrev pub invariant-loop-i : goal.invariant-loop-i
invariant-loop-i l = record {
  reset : l.blocks.items ≡ map reset_block_of (take l.i l.topo.nodes);
  each : All IsBlock l.blocks.items;
  count : length l.blocks.items ≡ l.i;
  room : length l.topo.nodes ≤ vec_capacity l.blocks;
}
