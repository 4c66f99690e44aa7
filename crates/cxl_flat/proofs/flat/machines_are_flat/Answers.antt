use Rattle.cxl_flat.proofs.Machines.{PendingLaws, is_flat}
use Rattle.cxl_flat.proofs.flat.machines_are_flat.Goals as goal

pub returns : goal.returns
returns c = λ m is.
    let laws : PendingLaws = record {
      stays = c.live_regions_stay.ensures.region;
      onto = c.bytes_are_carried_one_to_one.ensures.onto;
      host = c.pending_regions_are_unmapped.ensures.host;
      device = c.pending_regions_are_unmapped.ensures.device;
      name = c.pending_regions_are_unmapped.ensures.name;
    } in
    is_flat laws m is (c.machines_carry_their_regions.ensures m is)
