use Rattle.cxl_image.proofs.Readings.{one_image, one_fault, not_both}
use Rattle.cxl_image.proofs.Every.{some_reading}
use Rattle.cxl_image.proofs.laws.one_image_reading.Goals as goal

pub returns-clause-one_image : goal.returns-clause-one_image
returns-clause-one_image c = one_image

pub returns-clause-one_fault : goal.returns-clause-one_fault
returns-clause-one_fault c = one_fault

pub returns-clause-not_both : goal.returns-clause-not_both
returns-clause-not_both c = not_both

pub returns-clause-some : goal.returns-clause-some
returns-clause-some c = some_reading
