use Rattle.cxl_image.proofs.AfterWrite.{law_caps, law_image}
use Rattle.cxl_image.proofs.laws.image_laws.Goals as goal

pub returns-clause-caps : goal.returns-clause-caps
returns-clause-caps c = law_caps c.write_laws.ensures.shape

pub returns-clause-image : goal.returns-clause-image
returns-clause-image c = law_image c.write_laws.ensures.block
