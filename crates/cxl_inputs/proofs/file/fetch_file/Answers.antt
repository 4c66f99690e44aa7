use Rattle.std.proofs.Common.{rules}
use Rattle.cxl_inputs.proofs.file.fetch_file.Goals as goal

pub returns-in-Err-TooLarge-clause-stops : goal.returns-in-Err-TooLarge-clause-stops
returns-in-Err-TooLarge-clause-stops g c = search rules

pub returns-in-Err-Failed-clause-stops : goal.returns-in-Err-Failed-clause-stops
returns-in-Err-Failed-clause-stops g c = search rules
