use Rattle.std.proofs.Common.{rules}
use Rattle.cxl_io.proofs.line_reader.LineReader.stop.Goals as goal

pub returns-clause-after : goal.returns-clause-after
returns-clause-after c = search rules
