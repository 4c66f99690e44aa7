use Rattle.cxl_machine.proofs.PendingJobs.{WriteLaws, known, all_made}
use Rattle.cxl_machine.proofs.pending.pending_jobs_settle.Goals as goal

laws : goal.After-release_releases_its_rows → WriteLaws
laws c = record {
  create_rows = c.create_commits_its_rows.ensures.rows;
  create_ends = c.create_commits_its_rows.ensures.committed;
  create_back = c.writes_are_taken_back.ensures.create;
  release_rows = c.release_releases_its_rows.ensures.rows;
  release_ends = c.release_releases_its_rows.ensures.released;
  release_back = c.writes_are_taken_back.ensures.release;
}

pub returns-clause-back : goal.returns-clause-back
returns-clause-back c m job is pending = (known (laws c) m is job pending).back

pub returns-clause-ends : goal.returns-clause-ends
returns-clause-ends c m job is pending = all_made (laws c) m is job pending
