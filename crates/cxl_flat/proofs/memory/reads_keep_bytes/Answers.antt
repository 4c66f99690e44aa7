use Rattle.cxl_script.specs.declared.command.Command.TheVariants as commands
use Rattle.cxl_flat.proofs.Keeping.{JobLaws, turn_keeps, works_keeps}
use Rattle.cxl_flat.proofs.memory.reads_keep_bytes.Goals as goal

laws : goal.After-releases_begin_as_machines → JobLaws
laws c = record {
  new = record { made = c.ended_jobs_leave_nothing.ensures.made; name = c.pending_regions_are_unmapped.ensures.name };
  legal = λ n create sound. c.creates_are_legal.ensures n (commands.Create create) sound;
  creates = c.asked_creates_begin_as_machines.ensures.machine;
  releases = c.releases_begin_as_machines.ensures.machine;
}

pub returns-clause-behind : goal.returns-clause-behind
returns-clause-behind c m one turn is = turn_keeps (laws c) m is one turn

pub returns-clause-between : goal.returns-clause-between
returns-clause-between c m command words way is = works_keeps (laws c) m is command way.job way.at way.done way.works
