use Rattle.std.proofs.Common.{rules}
use Rattle.cxl_cedt.proofs.Laws.{only_table, only_fault}
use Rattle.cxl_cedt.proofs.reading.read.Goals as goal

pub returns-clause-table : goal.returns-clause-table
returns-clause-table c = search rules

pub returns-clause-fault : goal.returns-clause-fault
returns-clause-fault c = search rules

pub returns-clause-only_table : goal.returns-clause-only_table
returns-clause-only_table c = only_table c.args.bytes.now c.cedt_from.result c.cedt_from.ensures.table c.cedt_from.ensures.fault

pub returns-clause-only_fault : goal.returns-clause-only_fault
returns-clause-only_fault c = only_fault c.args.bytes.now c.cedt_from.result c.cedt_from.ensures.table c.cedt_from.ensures.fault
