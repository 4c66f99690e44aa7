use Rattle.cxl_script.proofs.Ranged.{line_states_codes}
use Rattle.cxl_script.proofs.laws.stated_granularities_are_codes.Goals as goal

pub returns : goal.returns
returns c = line_states_codes
