use Rattle.std.proofs.Common.{sym}
use Rattle.cxl_io.proofs.ReadBack.{decimal-three}
use Rattle.cxl_io.proofs.print.three_digits.Goals as goal

pub returns : goal.returns
returns c = sym (decimal-three c.args.n c.requires.some c.requires.few)
