use Rattle.cxl_machine.proofs.KeepingOpened.{opens_machine}
use Rattle.cxl_machine.proofs.keeping.openings_are_machines.Goals as goal

pub returns : goal.returns
returns c =
    opens_machine record {
      caps = c.hosts_with_caps_are_systems.ensures.caps;
      where_whole = c.accepted_where_whole.ensures;
      region = c.regions_stay.ensures.region;
      whole = c.regions_stay.ensures.whole;
    }
