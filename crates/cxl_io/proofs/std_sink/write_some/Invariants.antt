use Rattle.std.specs.Io.KnownBytes.{Keeps}
use Rattle.cxl_io.proofs.std_sink.write_some.Given as goal

-- an interrupted write leaves what the writer holds
abbrev pub invariant-loop : goal.invariant-loop
invariant-loop g l = record {
  known : Keeps (g.W.Write.contents l.fn.to) (g.W.Write.contents l.to);
}
