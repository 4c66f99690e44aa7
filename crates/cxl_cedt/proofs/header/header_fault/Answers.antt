use Rattle.std.proofs.Common.{rules}
use Rattle.cxl_cedt.specs.Table.{header_fault}
use Rattle.cxl_cedt.proofs.header.header_fault.Goals as goal

pub returns-clause-value : goal.returns-clause-value
unfolding header_fault
returns-clause-value c = search rules
