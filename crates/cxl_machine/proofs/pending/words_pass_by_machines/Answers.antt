use Rattle.cxl_machine.proofs.PendingJobs.{JobLaws}
use Rattle.cxl_machine.proofs.TrailsPassing.{BegunLaws, between, left}
use Rattle.cxl_machine.proofs.pending.words_pass_by_machines.Goals as goal

jobs : goal.After-releases_begin_as_machines → JobLaws
jobs c = record { back = c.pending_jobs_settle.ensures.back; ends = c.pending_jobs_settle.ensures.ends }

begun : goal.After-releases_begin_as_machines → BegunLaws
begun c = record {
  create = c.asked_creates_begin_as_machines.ensures.machine;
  create_idle = c.asked_creates_begin_as_machines.ensures.idle;
  create_fresh = c.asked_creates_begin_as_machines.ensures.fresh;
  release = c.releases_begin_as_machines.ensures.machine;
  release_idle = c.releases_begin_as_machines.ensures.idle;
  release_fresh = c.releases_begin_as_machines.ensures.fresh;
}

pub returns-clause-between : goal.returns-clause-between
returns-clause-between c m command outcome answer trail k is at sends low = between (jobs c) (begun c) m is command outcome answer trail k at sends low

pub returns-clause-left : goal.returns-clause-left
returns-clause-left c m command outcome answer trail is at sends = left (jobs c) (begun c) m is command outcome answer trail at sends
