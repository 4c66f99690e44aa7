use Rattle.cxl_poison.proofs.Readings.{only_list, only_fault}
use Rattle.cxl_poison.proofs.list.read_list.Goals as goal

pub returns-clause-only_list : goal.returns-clause-only_list
returns-clause-only_list c = only_list c.args.bytes.now c.list_of.result c.list_of.ensures.list c.list_of.ensures.fault

pub returns-clause-only_fault : goal.returns-clause-only_fault
returns-clause-only_fault c = only_fault c.args.bytes.now c.list_of.result c.list_of.ensures.list c.list_of.ensures.fault
