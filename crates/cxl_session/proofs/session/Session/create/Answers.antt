use Rattle.std.proofs.Common.{Result, Ok, refl, sym, ap, subst, ◌∙◌}
use Rattle.std.proofs.Math.Nat.{le_refl}
use Rattle.std.specs.Prelude.{IfOk}
use Rattle.cxl_apply.specs.Steps.{HasWordsOf}
use Rattle.cxl_reply.specs.declared.reply.Reply.{Reply}
use Rattle.cxl_machine.specs.Machine.{Machine}
use Rattle.cxl_machine.specs.Jobs.{create_job, begun}
use Rattle.cxl_session.specs.declared.pending.PendingJob.{PendingJob}
use Rattle.cxl_session.specs.Inside.{job_fields}
use Rattle.cxl_session.specs.State.{SessionState}
use Rattle.cxl_session.specs.Standing.{IsAt}
use Rattle.cxl_session.specs.inner.Creating.{IsAskedCreate}
use Rattle.cxl_session.specs.inner.Regions.{IsWholeFor, LeavesUndone}
use Rattle.cxl_session.proofs.Creates.{BeginLaws, begun_at, undone_before, created, create_refused}
use Rattle.cxl_opening.proofs.Errors.{not_ok, at_any_err}
use Rattle.std.proofs.lemmas.Bool.{false≢true}
use Rattle.cxl_session.proofs.session.Session.create.Goals as goal

pub returns-in-Err-clause-turn : goal.returns-in-Err-clause-turn
returns-in-Err-clause-turn g c =
    create_refused c.args.self.now c.args.create.now c.in-Err.refusal
    (λ m stands is. subst (λ (a : Result PendingJob Reply). IsAskedCreate m c.args.create.now a) c.in-Err.is (c.in_ok-pending.ensures.asked m stands is))
    (g.R.Regs.state c.args.regs.now) (g.M.Media.state c.args.media.now)

pub carry_out-requires : goal.carry_out-requires
carry_out-requires g c =
    let laws : BeginLaws = record { machine = c.asked_creates_begin_as_machines.ensures.machine; idle = c.asked_creates_begin_as_machines.ensures.idle } in
    let m : Machine = c.requires.stands.0 in
    let at = c.requires.stands.1 in
    let is : IsAskedCreate m c.args.create.now (Ok c.in-Ok.pending) =
    subst (λ (a : Result PendingJob Reply). IsAskedCreate m c.args.create.now a) c.in-Ok.is (c.in_ok-pending.ensures.asked m at.stands at.sound.machine) in (
      m,
      create_job m.settled is.plan,
      subst (λ (s : SessionState). IsAt s (g.R.Regs.state c.args.regs.now) (g.M.Media.state c.args.media.now) (begun (create_job m.settled is.plan) m)) (sym c.keep.ensures)
          (begun_at laws c.args.self.now c.args.create.now (job_fields c.in-Ok.pending) m is (g.R.Regs.state c.args.regs.now) (g.M.Media.state c.args.media.now) at),
    )

pub returns-clause-turn : goal.returns-clause-turn
returns-clause-turn g c =
    created (record { machine = c.asked_creates_begin_as_machines.ensures.machine; idle = c.asked_creates_begin_as_machines.ensures.idle }) c.args.self.now c.args.create.now (job_fields c.in-Ok.pending)
    (λ m stands is. subst (λ (a : Result PendingJob Reply). IsAskedCreate m c.args.create.now a) c.in-Ok.is (c.in_ok-pending.ensures.asked m stands is))
    c.carry_out.new.self (g.R.Regs.state c.args.regs.now) (g.R.Regs.state c.carry_out.new.regs) (g.M.Media.state c.args.media.now) (g.M.Media.state c.carry_out.new.media) c.carry_out.result
    (subst (λ (s : SessionState). IsWholeFor s c.carry_out.new.self (g.R.Regs.state c.args.regs.now) (g.R.Regs.state c.carry_out.new.regs) (g.M.Media.state c.args.media.now) (g.M.Media.state c.carry_out.new.media)
    c.carry_out.result) c.keep.ensures c.carry_out.ensures.whole)

pub returns-clause-refused : goal.returns-clause-refused
returns-clause-refused g c = λ refused.
    let laws : BeginLaws = record { machine = c.asked_creates_begin_as_machines.ensures.machine; idle = c.asked_creates_begin_as_machines.ensures.idle } in
    let m : Machine = c.requires.stands.0 in
    let at = c.requires.stands.1 in
    let is : IsAskedCreate m c.args.create.now (Ok c.in-Ok.pending) =
    subst (λ (a : Result PendingJob Reply). IsAskedCreate m c.args.create.now a) c.in-Ok.is (c.in_ok-pending.ensures.asked m at.stands at.sound.machine) in
    undone_before laws c.args.self.now c.args.create.now (job_fields c.in-Ok.pending) m is c.carry_out.new.self (g.R.Regs.state c.args.regs.now) (g.R.Regs.state c.carry_out.new.regs)
    (g.M.Media.state c.args.media.now) (g.M.Media.state c.carry_out.new.media) at.stands
    (subst (λ (s : SessionState). LeavesUndone s c.carry_out.new.self (g.R.Regs.state c.args.regs.now) (g.R.Regs.state c.carry_out.new.regs) (g.M.Media.state c.args.media.now) (g.M.Media.state c.carry_out.new.media))
    c.keep.ensures (c.carry_out.ensures.refused refused))

pub returns-in_err-pending-clause-turn : goal.returns-in_err-pending-clause-turn
returns-in_err-pending-clause-turn g c = not_ok _ c.from_residual.result _ c.from_residual.ensures.1

pub returns-in_err-pending-clause-refused : goal.returns-in_err-pending-clause-refused
returns-in_err-pending-clause-refused g c = not_ok _ c.from_residual.result _ c.from_residual.ensures.1

pub returns-in_err-pending-clause-memory : goal.returns-in_err-pending-clause-memory
returns-in_err-pending-clause-memory g c = at_any_err c.from_residual.result _ (refl, refl, refl)

pub returns-in_err-pending-clause-host : goal.returns-in_err-pending-clause-host
returns-in_err-pending-clause-host g c = (refl, refl)

pub returns-in_err-pending-clause-counts : goal.returns-in_err-pending-clause-counts
returns-in_err-pending-clause-counts g c = le_refl (g.R.Regs.state c.args.regs.now).faults

pub returns-in-Err-clause-refused : goal.returns-in-Err-clause-refused
returns-in-Err-clause-refused g c = λ _. (refl, refl, refl)

pub returns-in-Err-clause-memory : goal.returns-in-Err-clause-memory
returns-in-Err-clause-memory g c = tt

pub returns-in-Err-clause-host : goal.returns-in-Err-clause-host
returns-in-Err-clause-host g c = (refl, refl)

pub returns-in-Err-clause-counts : goal.returns-in-Err-clause-counts
returns-in-Err-clause-counts g c = le_refl (g.R.Regs.state c.args.regs.now).faults

pub returns-clause-memory : goal.returns-clause-memory
returns-clause-memory g c = tt

pub returns-clause-host : goal.returns-clause-host
returns-clause-host g c = (
  c.carry_out.ensures.host.0 ∙ ap (λ (s : SessionState). s.topo) c.keep.ensures,
  c.carry_out.ensures.host.1 ∙ ap (λ (s : SessionState). s.windows) c.keep.ensures,
)

pub returns-clause-counts : goal.returns-clause-counts
returns-clause-counts g c = c.carry_out.ensures.counts

pub keep-requires : goal.keep-requires
keep-requires g c =
    subst (λ (a : Result PendingJob Reply). IfOk a (λ pending. HasWordsOf c.args.self.now.image pending.job.writes)) c.in-Ok.is c.in_ok-pending.ensures.words

pub returns-in_err-pending-clause-outright : goal.returns-in_err-pending-clause-outright
returns-in_err-pending-clause-outright g c = λ m stands is refused. absurd (false≢true (c.in_err-pending.ensures.outright m stands is refused))

pub returns-in-Err-clause-outright : goal.returns-in-Err-clause-outright
returns-in-Err-clause-outright g c = λ _ _ _ _. refl

pub returns-clause-outright : goal.returns-clause-outright
returns-clause-outright g c = λ _ _ _ _. refl
