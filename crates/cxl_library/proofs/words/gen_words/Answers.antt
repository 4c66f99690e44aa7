use Rattle.std.proofs.Common.{arith, rules}
use Rattle.cxl_library.proofs.words.gen_words.Goals as goal
use Rattle.cxl_library.proofs.FormWords.{form_of-gen}

pub returns : goal.returns
returns c = form_of-gen c.args.number (omega (arith, c.ranges.number.fits)) _ (search rules) _ c.in_ok-words.ensures
