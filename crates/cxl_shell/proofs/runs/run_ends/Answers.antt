use Rattle.std.proofs.Common.{refl}
use Rattle.cxl_inputs.specs.declared.status.Status.TheVariants.{WriteFault, Refused, Memory}
use Rattle.cxl_shell.proofs.Lifted.{lifted, not_early, behind_takes}
use Rattle.cxl_commands.proofs.Endings.{memory_writes, ends_or_memory, no_memory_left}
use Rattle.cxl_commands.proofs.Readings.{HaveOneReading, one_table, one_topology, one_image, answer_comes}
use Rattle.cxl_commands.proofs.Runs.{came_to, sink_rose, refuses_some, memory_left}
use Rattle.cxl_shell.proofs.runs.run_ends.Goals as goal

have : (c : goal.After-one_image_reading) → HaveOneReading
have c = record {
  of_table = one_table c.one_reading.ensures.one_table c.one_reading.ensures.one_fault c.one_reading.ensures.not_both;
  of_tree = one_topology c.one_topology_reading.ensures.one_tree c.one_topology_reading.ensures.one_fault c.one_topology_reading.ensures.not_both;
  of_image = one_image c.one_image_reading.ensures.one_image c.one_image_reading.ensures.one_fault c.one_image_reading.ensures.not_both;
}

pub returns-clause-answer : goal.returns-clause-answer
returns-clause-answer c = λ form old new status run. ends_or_memory old new form status run

pub returns-clause-answered : goal.returns-clause-answered
returns-clause-answered c = λ form old new status run readings known. answer_comes old new status (have c) form run readings known

pub returns-clause-refused : goal.returns-clause-refused
returns-clause-refused c = lifted _ (λ form old new status run is. refuses_some old new form (came_to old new form status Refused run is))
    (λ form old new status behind is. absurd (not_early form old new status Refused refl behind is))

pub returns-clause-write_fault : goal.returns-clause-write_fault
returns-clause-write_fault c = lifted _ (λ form old new status run is. sink_rose old new form (came_to old new form status WriteFault run is))
    (λ form old new status behind is. behind.is_late.cut is)

pub returns-clause-memory : goal.returns-clause-memory
returns-clause-memory c = λ form old new status run is. (memory_left old new form (came_to old new form status Memory run is)).1

pub returns-clause-memory_writes : goal.returns-clause-memory_writes
returns-clause-memory_writes c = λ form old new status run one is.
    memory_writes old new form one (memory_left old new form (came_to old new form status Memory run is)).1

pub returns-clause-no_memory : goal.returns-clause-no_memory
returns-clause-no_memory c = lifted _ (λ form old new status run none is. no_memory_left old new form none (came_to old new form status Memory run is))
    (λ form old new status behind none is. let some = behind_takes form old new status behind in cc)
