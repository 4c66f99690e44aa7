use Rattle.std.proofs.Common.{sym}
use Rattle.cxl_io.proofs.ReadBack.{decimal-two}
use Rattle.cxl_io.proofs.print.two_digits.Goals as goal

pub returns : goal.returns
returns c = sym (decimal-two c.args.n c.requires.some c.requires.few)
