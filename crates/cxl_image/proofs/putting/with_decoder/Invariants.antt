use Rattle.std.proofs.Common.{◌≡◌, length, take}
use Rattle.cxl_image.proofs.putting.with_decoder.Given as goal

-- the first decoders are the block's
abbrev pub invariant-loop-i : goal.invariant-loop-i
invariant-loop-i l = record {
  same : take l.i l.decoders ≡ take l.i l.block.decoders;
  all : length l.decoders ≡ 10;
}
