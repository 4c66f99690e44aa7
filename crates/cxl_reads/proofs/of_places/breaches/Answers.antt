use Rattle.cxl_reads.specs.Breaches.{AreBreaches}
use Rattle.cxl_reads.proofs.Endings.{answered}
use Rattle.cxl_reads.proofs.of_places.breaches.Goals as goal

pub returns-clause-answer : goal.returns-clause-answer
returns-clause-answer g c =
    answered (AreBreaches c.args.cedt.now c.args.topo.now c.args.image.now) c.breaches_told.result c.finish.result _ _ c.breaches_told.ensures c.finish.ensures.finishes
