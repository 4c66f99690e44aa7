use Rattle.std.proofs.Common.{◌≤◌, length}
use Rattle.std.specs.Vec.{vec_capacity}
use Rattle.cxl_image.proofs.Blocks.{AreReadTo}
use Rattle.cxl_image.proofs.reading.sound_image.Given as goal

-- the blocks of the first nodes are read, and there is room for those of all
abbrev pub invariant-loop-i : goal.invariant-loop-i
invariant-loop-i l = record {
  read : AreReadTo l.bytes l.topo.nodes l.blocks.items l.i l.at;
  room : length l.topo.nodes ≤ vec_capacity l.blocks;
}
