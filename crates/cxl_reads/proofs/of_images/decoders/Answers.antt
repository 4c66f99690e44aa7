use Rattle.cxl_reads.specs.Decoders.{AreDecoders}
use Rattle.cxl_reads.proofs.Endings.{answered}
use Rattle.cxl_reads.proofs.of_images.decoders.Goals as goal

pub returns-clause-answer : goal.returns-clause-answer
returns-clause-answer g c =
    answered (AreDecoders c.args.topo.now c.args.image.now) c.decoders_told.result c.finish.result _ _ c.decoders_told.ensures c.finish.ensures.finishes
