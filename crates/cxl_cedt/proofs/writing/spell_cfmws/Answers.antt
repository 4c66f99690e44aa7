use Rattle.std.proofs.Common.{arith, length, ap}
use Rattle.cxl_cedt.proofs.writing.spell_cfmws.Goals as goal

pub put_window_range-requires : goal.put_window_range-requires
put_window_range-requires c = omega (arith, c.targets-targets.ensures.few, ap length c.targets-targets.ensures.value)
