use Rattle.std.proofs.Common.{rules}
use Rattle.cxl_text.proofs.digits.lower_digit.Goals as goal

pub returns-else-value-lt10 : goal.returns-else-value-lt10
returns-else-value-lt10 c = search rules
