use Rattle.cxl_shell.proofs.Complete.{completes}
use Rattle.cxl_commands.proofs.Readings.{one_table, one_topology, one_image}
use Rattle.cxl_shell.proofs.completeness.runs_are_complete.Goals as goal

pub returns : goal.returns
returns c = λ form old new before after status run ready files_well source_well sink_well.
    completes old new before after status files_well source_well sink_well (record {
      of_table = one_table c.one_reading.ensures.one_table c.one_reading.ensures.one_fault c.one_reading.ensures.not_both;
      of_tree = one_topology c.one_topology_reading.ensures.one_tree c.one_topology_reading.ensures.one_fault c.one_topology_reading.ensures.not_both;
      of_image = one_image c.one_image_reading.ensures.one_image c.one_image_reading.ensures.one_fault c.one_image_reading.ensures.not_both;
    }) form ready run
