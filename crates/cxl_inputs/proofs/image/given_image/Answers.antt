use Rattle.cxl_inputs.proofs.Images.{bad_image-given}
use Rattle.cxl_inputs.proofs.image.given_image.Goals as goal

pub returns-in-Err-clause-stops : goal.returns-in-Err-clause-stops
returns-in-Err-clause-stops c =
    rw c.of.ensures (bad_image-given c.args.file.now c.args.bytes.now c.args.topo.now.nodes c.in-Err.fault c.faulty.result c.in_ok-within_limit.ensures.within c.in-Err.ensures.fault c.faulty.ensures)
