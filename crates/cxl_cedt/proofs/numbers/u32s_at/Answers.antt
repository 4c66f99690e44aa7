use Rattle.std.proofs.Common.{arith}
use Rattle.cxl_cedt.proofs.Places.{fields_read}
use Rattle.cxl_cedt.proofs.numbers.u32s_at.Goals as goal

pub returns : goal.returns
returns c = fields_read c.args.text.now c.args.at 4 c.args.count _ _ _ _ (omega arith) (omega (arith, c.read_u32_into.auto.dst, c.deref_mut.ensures.len, c.in_ok-numbers.ensures.len)) (omega (arith, c.in_ok-numbers.ensures.len)) c.read_u32_into.ensures
