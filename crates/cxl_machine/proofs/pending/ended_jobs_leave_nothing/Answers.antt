use Rattle.std.proofs.Common.{refl}
use Rattle.cxl_machine.proofs.Released.{made_holds_none, no_block}
use Rattle.cxl_machine.proofs.Unmapped.{ApartLaws}
use Rattle.cxl_machine.proofs.pending.ended_jobs_leave_nothing.Goals as goal

laws : goal.After-finished_jobs_keep_machines → ApartLaws
laws c = record {
  host = c.regions_share_no_byte.ensures.host;
  device = c.regions_share_no_byte.ensures.device;
  inside = c.bytes_are_carried_one_to_one.ensures.inside;
  system = c.regions_stay_after_a_create.ensures.system;
  region = c.regions_stay_after_a_create.ensures.region;
}

pub returns-clause-made : goal.returns-clause-made
returns-clause-made c = made_holds_none

pub returns-clause-undone : goal.returns-clause-undone
returns-clause-undone c m job = refl

pub returns-clause-released : goal.returns-clause-released
returns-clause-released c m job place media endpoint block is pending kind lies are =
    no_block (laws c) m is job pending place kind (c.finished_jobs_keep_machines.ensures m job is pending) media endpoint block lies are
