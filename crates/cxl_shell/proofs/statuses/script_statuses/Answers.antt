use Rattle.std.proofs.Common.{subst}
use Rattle.cxl_commands.specs.Readings.{AreKnown, ByHost}
use Rattle.cxl_shell.specs.Run.{IsRun}
use Rattle.cxl_commands.proofs.Readings.{HaveOneReading, one_table, one_topology, one_image}
use Rattle.cxl_shell.proofs.laws.Script.{reads_out, read_failed, bus_rose, is_refused, refused_comes, only_long, is_too_long, memory_in_script}
use Rattle.cxl_shell.proofs.statuses.script_statuses.Goals as goal

have : (c : goal.After-tree_laws) → HaveOneReading
have c = record {
  of_table = one_table c.one_reading.ensures.one_table c.one_reading.ensures.one_fault c.one_reading.ensures.not_both;
  of_tree = one_topology c.one_topology_reading.ensures.one_tree c.one_topology_reading.ensures.one_fault c.one_topology_reading.ensures.not_both;
  of_image = one_image c.one_image_reading.ensures.one_image c.one_image_reading.ensures.one_fault c.one_image_reading.ensures.not_both;
}

pub returns-clause-read_out : goal.returns-clause-read_out
returns-clause-read_out c = λ form old new before after status run end form_reads reads is. reads_out form old new before after status end form_reads reads is run

pub returns-clause-read_fault : goal.returns-clause-read_fault
returns-clause-read_fault c = λ form old new before after status run is. read_failed form old new before after status is run

pub returns-clause-write_fault : goal.returns-clause-write_fault
returns-clause-write_fault c = c.run_ends.ensures.write_fault

pub returns-clause-bus_fault : goal.returns-clause-bus_fault
returns-clause-bus_fault c = λ form old new before after status run is. bus_rose form old new before after status is run

pub returns-clause-refused : goal.returns-clause-refused
returns-clause-refused c = λ form old new before after status run reads is. is_refused old new before after status form reads is run

pub returns-clause-only_refused : goal.returns-clause-only_refused
returns-clause-only_refused c = λ form old new before after status run cedt topo image table tree blocks outcome is known refused.
    refused_comes (have c) c.accepted_or_breach.ensures.not_both c.tree_laws.ensures.laws old new before after status cedt topo image table tree blocks outcome
    (subst (λ f. AreKnown f old.files.told (ByHost table tree blocks)) is known) refused (subst (λ f. IsRun f old new before after status) is run)

pub returns-clause-only_too_long : goal.returns-clause-only_too_long
returns-clause-only_too_long c = λ form old new before after status run bytes reads all more. only_long form old new before after status bytes reads all more run

pub returns-clause-too_long : goal.returns-clause-too_long
returns-clause-too_long c = λ form old new before after status run bytes is all. is_too_long form old new before after status bytes is all run

pub returns-clause-memory : goal.returns-clause-memory
returns-clause-memory c = λ form old new before after status run reads is. memory_in_script form old new before after status reads is run
