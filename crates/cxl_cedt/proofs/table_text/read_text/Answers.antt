use Rattle.cxl_cedt.proofs.Laws.{only_table, only_fault}
use Rattle.cxl_cedt.proofs.table_text.read_text.Goals as goal

pub returns-clause-only_table : goal.returns-clause-only_table
returns-clause-only_table c = only_table c.args.bytes.items c.text_of.result c.text_of.ensures.table c.text_of.ensures.fault

pub returns-clause-only_fault : goal.returns-clause-only_fault
returns-clause-only_fault c = only_fault c.args.bytes.items c.text_of.result c.text_of.ensures.table c.text_of.ensures.fault
