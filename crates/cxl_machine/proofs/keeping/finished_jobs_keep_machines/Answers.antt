use Rattle.cxl_machine.proofs.KeepingJobs.{ImageLaws, finished_keeps}
use Rattle.cxl_machine.proofs.keeping.finished_jobs_keep_machines.Goals as goal

laws : goal.After-regions_stay_after_a_release → ImageLaws
laws c = record {
  one = c.whole_ranges_have_one_region.ensures.one;
  planned_system = c.regions_stay_after_a_create.ensures.system;
  planned_enabled = c.regions_stay_after_a_create.ensures.enabled;
  planned_region = c.regions_stay_after_a_create.ensures.region;
  planned_ranges = c.regions_stay_after_a_create.ensures.ranges;
  released_system = c.regions_stay_after_a_release.ensures.system;
  released_accepted = c.released_image_is_accepted.ensures.accepted;
  released_enabled = c.released_image_is_accepted.ensures.enabled;
  released_region = c.regions_stay_after_a_release.ensures.region;
  released_ranges = c.regions_stay_after_a_release.ensures.ranges;
}

pub returns : goal.returns
returns c m job is = finished_keeps (laws c) m is job
