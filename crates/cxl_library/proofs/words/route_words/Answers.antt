use Rattle.std.proofs.Common.{rules}
use Rattle.cxl_library.proofs.words.route_words.Goals as goal
use Rattle.cxl_library.proofs.FormWords.{form_of-route}

pub returns : goal.returns
returns c = form_of-route c.args.hpa c.ranges.hpa.fits _ (search rules) _ c.in_ok-words.ensures
