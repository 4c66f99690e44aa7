use Rattle.std.proofs.Common.{rules}
use Rattle.cxl_enc.proofs.caps.has_own_bits.Goals as goal

pub returns-then-matches : goal.returns-then-matches
returns-then-matches c = search rules
