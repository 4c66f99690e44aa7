use Rattle.cxl_cedt.proofs.Appended.{number_appended}
use Rattle.cxl_cedt.proofs.numbers.put_u64s.Goals as goal

pub loop-number-preserved : goal.loop-number-preserved
loop-number-preserved c =
    number_appended 8 c.args.out.now.items c.loop-number.out.items c.put_u64.new.out.items c.args.numbers.now c.loop-number.number-index c.loop-number-test.true c.loop-number.invariant c.in_ok-put_u64.ensures
