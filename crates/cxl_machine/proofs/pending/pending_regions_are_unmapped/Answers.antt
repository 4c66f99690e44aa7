use Rattle.cxl_machine.proofs.Unmapped.{ApartLaws, no_host, no_device, no_name}
use Rattle.cxl_machine.proofs.pending.pending_regions_are_unmapped.Goals as goal

laws : goal.After-regions_stay_after_a_create → ApartLaws
laws c = record {
  host = c.regions_share_no_byte.ensures.host;
  device = c.regions_share_no_byte.ensures.device;
  inside = c.bytes_are_carried_one_to_one.ensures.inside;
  system = c.regions_stay_after_a_create.ensures.system;
  region = c.regions_stay_after_a_create.ensures.region;
}

pub returns-clause-host : goal.returns-clause-host
returns-clause-host c m job h is pending from below = no_host (laws c) m is job pending h from below

pub returns-clause-device : goal.returns-clause-device
returns-clause-device c m job endpoint dpa reply is pending lies tells = no_device (laws c) m is job pending endpoint dpa reply lies tells

pub returns-clause-name : goal.returns-clause-name
returns-clause-name c m job is pending = no_name (laws c) m is job pending
