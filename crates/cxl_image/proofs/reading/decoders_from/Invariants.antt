use Rattle.std.proofs.Common.{◌≡◌, ◌+◌, ◌*◌, length, map, take}
use Rattle.std.specs.Prelude.{All}
use Rattle.std.specs.List.{range_with_len}
use Rattle.cxl_regs.specs.Registers.{IsDecoder}
use Rattle.cxl_image.specs.Fields.{decoder_from}
use Rattle.cxl_image.proofs.reading.decoders_from.Given as goal

-- the first decoders are read
abbrev pub invariant-loop-i : goal.invariant-loop-i
invariant-loop-i l = record {
  read : take l.i l.decoders ≡ map (λ i. decoder_from l.bytes l.endpoint (l.at + 32 * i)) (range_with_len 0 l.i);
  each : All (IsDecoder l.endpoint) (take l.i l.decoders);
  all : length l.decoders ≡ 10;
}
