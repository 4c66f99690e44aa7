use Rattle.cxl_image.proofs.Readings.{only_image, only_fault, read_caps}
use Rattle.cxl_image.proofs.reading.read_image.Goals as goal

pub returns-clause-only_image : goal.returns-clause-only_image
returns-clause-only_image c = only_image c.args.bytes.now c.args.topo.now.nodes c.image_of.result c.image_of.ensures.image c.image_of.ensures.fault

pub returns-clause-only_fault : goal.returns-clause-only_fault
returns-clause-only_fault c = only_fault c.args.bytes.now c.args.topo.now.nodes c.image_of.result c.image_of.ensures.image c.image_of.ensures.fault

pub returns-clause-caps : goal.returns-clause-caps
returns-clause-caps c = read_caps c.args.bytes.now c.args.topo.now.nodes c.image_of.result c.image_of.ensures.image
