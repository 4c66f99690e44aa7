use Rattle.std.proofs.Common.{rules}
use Rattle.cxl_enc.proofs.codes.gran_code_in_table.Goals as goal

pub returns-in-512 : goal.returns-in-512
returns-in-512 c = search rules
