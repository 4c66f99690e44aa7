use Rattle.std.proofs.Common.{rules}
use Rattle.cxl_table.proofs.lengths.record_length.Goals as goal

pub returns-in-Cfmws-clause-length : goal.returns-in-Cfmws-clause-length
returns-in-Cfmws-clause-length c = search rules
