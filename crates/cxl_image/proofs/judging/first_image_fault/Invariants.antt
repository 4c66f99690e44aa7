use Rattle.std.proofs.Common.{◌≡◌, ◌≤◌, length}
use Rattle.cxl_image.specs.Fields.{start_of}
use Rattle.cxl_image.specs.File.{AgreesUpTo}
use Rattle.cxl_image.proofs.judging.first_image_fault.Given as goal

-- nothing is wrong before the block of node i
abbrev pub invariant-loop-i : goal.invariant-loop-i
invariant-loop-i l = record {
  place : l.at ≡ start_of l.topo.nodes l.i;
  before : l.at ≤ length l.bytes;
  agrees : AgreesUpTo l.bytes l.topo.nodes l.at;
}
