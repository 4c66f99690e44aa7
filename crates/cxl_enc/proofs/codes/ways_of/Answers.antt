use Rattle.std.proofs.Common.{rules}
use Rattle.cxl_enc.proofs.codes.ways_of.Goals as goal

pub returns-in-10-clause-exact : goal.returns-in-10-clause-exact
returns-in-10-clause-exact c = search rules
