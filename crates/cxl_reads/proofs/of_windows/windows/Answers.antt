use Rattle.cxl_reads.specs.Windows.{AreWindows}
use Rattle.cxl_reads.proofs.Endings.{answered}
use Rattle.cxl_reads.proofs.of_windows.windows.Goals as goal

pub returns-clause-answer : goal.returns-clause-answer
returns-clause-answer g c =
    answered (AreWindows c.args.cedt.now c.args.topo.now) c.windows_told.result c.finish.result _ _ c.windows_told.ensures c.finish.ensures.finishes
