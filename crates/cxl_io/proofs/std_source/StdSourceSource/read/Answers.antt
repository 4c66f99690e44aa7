use Rattle.std.proofs.Common.{rules}
use Rattle.cxl_io.proofs.std_source.StdSourceSource.read.Goals as goal

pub returns-in-Err : goal.returns-in-Err
returns-in-Err g c = search rules
