use Rattle.cxl_machine.specs.Machine.{present}
use Rattle.cxl_machine.specs.Reports.{live_regions}
use Rattle.cxl_flat.proofs.Machines.{are_regions}
use Rattle.cxl_flat.proofs.flat.machines_carry_their_regions.Goals as goal

pub returns : goal.returns
returns c = λ m is.
    c.images_carry_their_regions.ensures (present m) (live_regions m) (c.live_regions_stay.ensures.system m is).0
    (are_regions c.live_regions_stay.ensures.region m is)
