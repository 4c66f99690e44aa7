use Rattle.std.proofs.Common.{◌∙◌}
use Rattle.cxl_enc.proofs.Tables.{code_is, code_found}
use Rattle.cxl_enc.proofs.codes.code_of.Goals as goal

pub returns-clause-code : goal.returns-clause-code
returns-clause-code c = rw c.code_in_table.ensures (code_found c.args.ways)

pub returns-clause-only : goal.returns-clause-only
returns-clause-only c = λ code e. c.code_in_table.ensures ∙ code_is code c.args.ways e
