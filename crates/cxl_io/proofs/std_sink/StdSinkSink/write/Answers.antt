use Rattle.std.proofs.Common.{rules}
use Rattle.cxl_io.proofs.std_sink.StdSinkSink.write.Goals as goal

pub returns-in_default : goal.returns-in_default
returns-in_default g c = search rules
