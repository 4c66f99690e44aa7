use Rattle.cxl_cedt.proofs.Appended.{number_appended}
use Rattle.cxl_cedt.proofs.numbers.put_u32s.Goals as goal

pub loop-number-preserved : goal.loop-number-preserved
loop-number-preserved c =
    number_appended 4 c.args.out.now.items c.loop-number.out.items c.put_u32.new.out.items c.args.numbers.now c.loop-number.number-index c.loop-number-test.true c.loop-number.invariant c.in_ok-put_u32.ensures
