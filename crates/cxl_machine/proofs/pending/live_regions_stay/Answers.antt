use Rattle.cxl_machine.proofs.Present.{BetweenLaws, present_system, stays}
use Rattle.cxl_machine.proofs.pending.live_regions_stay.Goals as goal

laws : goal.After-regions_stay_in_a_release → BetweenLaws
laws c = record {
  create_system = c.regions_stay_in_a_create.ensures.system;
  release_system = c.regions_stay_in_a_release.ensures.system;
  one = c.whole_ranges_have_one_region.ensures.one;
  create_keeps = c.regions_stay_in_a_create.ensures.keeps;
  create_decoders = c.regions_stay_in_a_create.ensures.decoders;
  create_region = c.regions_stay_in_a_create.ensures.region;
  release_keeps = c.regions_stay_in_a_release.ensures.keeps;
  release_decoders = c.regions_stay_in_a_release.ensures.decoders;
  release_region = c.regions_stay_in_a_release.ensures.region;
}

pub returns-clause-system : goal.returns-clause-system
returns-clause-system c m is = present_system (laws c) m is

pub returns-clause-region : goal.returns-clause-region
returns-clause-region c m region is there = stays (laws c) m is region there
