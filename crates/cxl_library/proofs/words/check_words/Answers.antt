use Rattle.std.proofs.Common.{rules}
use Rattle.cxl_library.proofs.words.check_words.Goals as goal

pub returns : goal.returns
returns c = search rules
