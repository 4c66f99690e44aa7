use Rattle.std.proofs.Common.{arith}
use Rattle.cxl_span.proofs.Sums.{taken_more}
use Rattle.cxl_cause.proofs.lookups.span_start.Goals as goal

pub loop-j-preserved : goal.loop-j-preserved
loop-j-preserved c =
    let more = taken_more c.args.block.now.decoders c.loop-j.j c.decoder-d.result c.decoder-d.ensures.value in
    record {
      value = cc (more, c.loop-j.invariant.value, c.bytes_taken-taken.ensures.value);
      small = omega (arith, c.loop-j.invariant.small, c.bytes_taken-taken.ensures.small);
    }
