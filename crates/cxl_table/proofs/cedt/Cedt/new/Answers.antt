use Rattle.std.proofs.Common.{rules}
use Rattle.cxl_table.proofs.cedt.Cedt.new.Goals as goal

pub of_size-requires-clause-size : goal.of_size-requires-clause-size
of_size-requires-clause-size c = search rules
