use Rattle.cxl_flat.proofs.Turning.{TurnLaws, each_flat, last_machine, last_host}
use Rattle.cxl_flat.proofs.flat.turns_are_flat.Goals as goal

laws : goal.After-refusals_write_nothing → TurnLaws
laws c = record {
  flat = c.machines_are_flat.ensures;
  accesses = c.accesses_are_of_one_memory.ensures;
  bytes = c.reads_keep_bytes.ensures.behind;
  way = c.reads_keep_bytes.ensures.between;
  between = c.words_pass_by_machines.ensures.between;
  left = c.words_pass_by_machines.ensures.left;
  keeps = c.commands_keep_machines.ensures.machine;
  host = c.commands_keep_machines.ensures.host;
  leaves = c.refusals_leave_the_machine.ensures;
  quiet = c.refusals_write_nothing.ensures;
}

pub returns-clause-each : goal.returns-clause-each
returns-clause-each c m asked turns is ranged are = each_flat (laws c) m asked turns is ranged are

pub returns-clause-machine : goal.returns-clause-machine
returns-clause-machine c m asked turns is ranged are = last_machine m asked turns is (each_flat (laws c) m asked turns is ranged are)

pub returns-clause-host : goal.returns-clause-host
returns-clause-host c m asked turns is ranged are = last_host m asked turns (each_flat (laws c) m asked turns is ranged are)
