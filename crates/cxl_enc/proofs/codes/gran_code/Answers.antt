use Rattle.std.proofs.Common.{◌∙◌}
use Rattle.cxl_enc.proofs.Tables.{gran_code_is, gran_code_found}
use Rattle.cxl_enc.proofs.codes.gran_code.Goals as goal

pub returns-clause-code : goal.returns-clause-code
returns-clause-code c = rw c.gran_code_in_table.ensures (gran_code_found c.args.bytes)

pub returns-clause-only : goal.returns-clause-only
returns-clause-only c = λ code e. c.gran_code_in_table.ensures ∙ gran_code_is code c.args.bytes e
