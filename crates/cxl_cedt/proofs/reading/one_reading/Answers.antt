use Rattle.cxl_cedt.proofs.Laws.{one_table, one_fault, not_both, some_reading, read_alike}
use Rattle.cxl_cedt.proofs.reading.one_reading.Goals as goal

pub returns-clause-one_table : goal.returns-clause-one_table
returns-clause-one_table c = one_table

pub returns-clause-one_fault : goal.returns-clause-one_fault
returns-clause-one_fault c = one_fault

pub returns-clause-not_both : goal.returns-clause-not_both
returns-clause-not_both c = not_both

pub returns-clause-some : goal.returns-clause-some
returns-clause-some c = some_reading

pub returns-clause-alike : goal.returns-clause-alike
returns-clause-alike c = read_alike
