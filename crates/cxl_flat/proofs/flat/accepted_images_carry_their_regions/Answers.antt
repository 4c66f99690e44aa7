use Rattle.cxl_flat.proofs.flat.accepted_images_carry_their_regions.Goals as goal

pub returns : goal.returns
returns c = λ s regions system accepted listed. c.images_carry_their_regions.ensures s regions system listed.listed.each
