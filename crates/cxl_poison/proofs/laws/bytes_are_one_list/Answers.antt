use Rattle.cxl_poison.proofs.Readings.{one_list, one_fault, not_both, some_reading}
use Rattle.cxl_poison.proofs.laws.bytes_are_one_list.Goals as goal

pub returns-clause-one_list : goal.returns-clause-one_list
returns-clause-one_list c = one_list

pub returns-clause-one_fault : goal.returns-clause-one_fault
returns-clause-one_fault c = one_fault

pub returns-clause-not_both : goal.returns-clause-not_both
returns-clause-not_both c = not_both

pub returns-clause-some : goal.returns-clause-some
returns-clause-some c = some_reading
