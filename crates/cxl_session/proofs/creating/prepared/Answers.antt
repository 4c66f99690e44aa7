use Rattle.std.proofs.Common.{List, refl, sym, subst}
use Rattle.std.specs.Prelude.{All}
use Rattle.cxl_apply.specs.Jobs.{AreCreateWrites, AreOfDifferentNodes, CanCreate}
use Rattle.cxl_model.specs.declared.plan.Row.{Row}
use Rattle.cxl_model.specs.Hosts.{as_system}
use Rattle.cxl_opening.proofs.Errors.{not_ok}
use Rattle.cxl_session.proofs.creating.prepared.Goals as goal

pub create-requires-clause-each : goal.create-requires-clause-each
create-requires-clause-each c =
    subst (All (CanCreate c.args.host.now.image.now)) (sym c.items.ensures)
    (c.create_commits_its_rows.ensures.rows (as_system c.args.host.now) c.requires.legal.0 c.args.plan c.requires.settled.accepted c.requires.legal.1)

pub returns-clause-pending : goal.returns-clause-pending
returns-clause-pending c = record {
  place = refl;
  name = refl;
  found = refl;
  writes =
      c.jobs_have_one_list_of_writes.ensures.create (as_system c.args.host.now) c.args.plan.rows c.in_ok-job.job.writes c.requires.legal.1.1.rows_of.rising
      (subst (λ (rows : List Row). AreCreateWrites c.args.host.now.image.now rows c.in_ok-job.job.writes) c.items.ensures c.in_ok-job.ensures.writes);
  done = c.in_ok-job.ensures.none_done;
  kept = c.in_ok-kept.ensures;
}

pub returns-in_err-job-clause-pending : goal.returns-in_err-job-clause-pending
returns-in_err-job-clause-pending c = not_ok _ c.from_residual.result _ c.from_residual.ensures.1

pub returns-in_err-job-clause-words : goal.returns-in_err-job-clause-words
returns-in_err-job-clause-words c = not_ok _ c.from_residual.result _ c.from_residual.ensures.1

pub returns-in_err-kept-clause-pending : goal.returns-in_err-kept-clause-pending
returns-in_err-kept-clause-pending c = not_ok _ c.from_residual-in_err-kept.result _ c.from_residual-in_err-kept.ensures.1

pub returns-in_err-kept-clause-words : goal.returns-in_err-kept-clause-words
returns-in_err-kept-clause-words c = not_ok _ c.from_residual-in_err-kept.result _ c.from_residual-in_err-kept.ensures.1

pub create-requires-clause-apart : goal.create-requires-clause-apart
create-requires-clause-apart c =
    subst AreOfDifferentNodes (sym c.items.ensures) (c.create_commits_its_rows.ensures.apart (as_system c.args.host.now) c.requires.legal.0 c.args.plan c.requires.legal.1)

pub routes_ahead-requires-clause-legal : goal.routes_ahead-requires-clause-legal
routes_ahead-requires-clause-legal c = c.requires.legal

pub routes_ahead-requires-clause-settled : goal.routes_ahead-requires-clause-settled
routes_ahead-requires-clause-settled c = c.requires.settled

pub returns-clause-words : goal.returns-clause-words
returns-clause-words c = c.in_ok-job.ensures.words
