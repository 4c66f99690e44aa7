use Rattle.std.proofs.Common.{◌≡◌, length}
use Rattle.std.specs.Io.KnownBytes.{Keeps}
use Rattle.cxl_io.proofs.std_source.read_some.Given as goal

-- an interrupted read leaves what the reader has, and the room
abbrev pub invariant-loop : goal.invariant-loop
invariant-loop g l = record {
  known : Keeps (g.R.Read.remaining l.fn.input) (g.R.Read.remaining l.input);
  room : length l.into ≡ length l.fn.into;
}
