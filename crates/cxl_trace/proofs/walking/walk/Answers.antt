use Rattle.cxl_model.specs.System.{system_of}
use Rattle.cxl_trace.proofs.SameTraces.{chain_of_trace, one_trace}
use Rattle.cxl_trace.proofs.walking.walk.Goals as goal

pub returns-clause-only : goal.returns-clause-only
returns-clause-only c = λ other is.
    one_trace c.ranges_rise.ensures.apart (system_of c.args.image.now c.args.topo.now c.args.windows.now) c.args.h c.trace_of.result other c.requires.made c.trace_of.ensures.trace is

pub returns-clause-chain : goal.returns-clause-chain
returns-clause-chain c =
    chain_of_trace (system_of c.args.image.now c.args.topo.now c.args.windows.now) c.args.h c.trace_of.result c.trace_of.ensures.trace
