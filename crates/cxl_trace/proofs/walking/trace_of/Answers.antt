use Rattle.cxl_trace.specs.Traces.{inside}
use Rattle.cxl_trace.proofs.walking.trace_of.Goals as goal

pub returns-clause-trace : goal.returns-clause-trace
returns-clause-trace c =
    inside c.in-Some.outset c.trace_from.ensures.outset (c.in-Some.ensures.some c.args.image.now) (c.trace_from.ensures.walk c.args.windows.now)
