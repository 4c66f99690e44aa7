use Rattle.std.proofs.Common.{List, Result, refl, sym, ap, subst, ◌∙◌}
use Rattle.std.proofs.Math.Nat.{le_refl}
use Rattle.std.specs.Prelude.{All}
use Rattle.cxl_regs.specs.Registers.{Registers}
use Rattle.cxl_apply.specs.Jobs.{AreReleaseWrites, CanRelease}
use Rattle.cxl_apply.specs.Steps.{HasWordsOf}
use Rattle.cxl_model.specs.declared.plan.Row.{Row}
use Rattle.cxl_reply.specs.declared.reply.Reply.{Reply}
use Rattle.cxl_machine.specs.Machine.{Machine}
use Rattle.cxl_machine.specs.Jobs.{release_job}
use Rattle.cxl_session.specs.declared.requests.Release.{Release}
use Rattle.cxl_session.specs.State.{SessionState}
use Rattle.cxl_session.specs.inner.Requests.{IsNamedRelease, IsAskedRelease}
use Rattle.cxl_session.proofs.Begins.{begun_here, begun_from, release_within, can_release, released_apart}
use Rattle.cxl_opening.proofs.Errors.{not_ok, at_any_err}
use Rattle.cxl_session.proofs.Undoing.{refused_again}
use Rattle.cxl_session.proofs.Wholes.{destroyed, destroy_refused}
use Rattle.std.proofs.lemmas.Bool.{false≢true}
use Rattle.cxl_session.proofs.AskedReleases.{released_unrefused}
use Rattle.cxl_session.proofs.session.Session.destroy.Goals as goal

pub returns-in-Err-clause-turn : goal.returns-in-Err-clause-turn
returns-in-Err-clause-turn g c =
    destroy_refused c.args.self.now c.args.name c.in-Err.refusal (g.R.Regs.state c.args.regs.now) (g.M.Media.state c.args.media.now)
    (λ m stands is. subst (λ (a : Result Release Reply). IsAskedRelease m c.args.name a) c.in-Err.is (c.in_ok-release.ensures.asked m stands is))

pub begin_release-requires-clause-here : goal.begin_release-requires-clause-here
begin_release-requires-clause-here g c =
    let m : Machine = c.requires.0 in
    let at = c.requires.1 in
    release_within c.args.self.now m c.args.name c.in-Ok.release at.stands
    (subst (λ (a : Result Release Reply). IsAskedRelease m c.args.name a) c.in-Ok.is (c.in_ok-release.ensures.asked m at.stands at.sound.machine))

pub carry_out-requires : goal.carry_out-requires
carry_out-requires g c =
    let m : Machine = c.requires.0 in
    let at = c.requires.1 in
    let is : IsNamedRelease m c.args.name c.in-Ok.release =
    subst (λ (a : Result Release Reply). IsAskedRelease m c.args.name a) c.in-Ok.is (c.in_ok-release.ensures.asked m at.stands at.sound.machine) in (
      m,
      release_job m.settled c.in-Ok.release.place is.region,
      begun_here c.jobs_have_one_list_of_writes.ensures.release c.releases_begin_as_machines.ensures.machine c.args.self.now c.begin_release.new.self c.args.name c.in-Ok.release c.in_ok-job.job
          c.begin_release.ensures.begun (subst (λ (rows : List Row). AreReleaseWrites rows c.in_ok-job.job.writes) c.deref.ensures.value c.in_ok-job.ensures.writes) c.in_ok-job.ensures.none_done
          m (g.R.Regs.state c.args.regs.now) (g.M.Media.state c.args.media.now) at is,
    )

pub returns-clause-turn : goal.returns-clause-turn
returns-clause-turn g c =
    destroyed c.args.self.now c.begin_release.new.self c.carry_out.new.self c.args.name c.in-Ok.release (g.R.Regs.state c.args.regs.now) (g.R.Regs.state c.carry_out.new.regs)
    (g.M.Media.state c.args.media.now) (g.M.Media.state c.carry_out.new.media) c.carry_out.result
    (λ m stands is. subst (λ (a : Result Release Reply). IsAskedRelease m c.args.name a) c.in-Ok.is (c.in_ok-release.ensures.asked m stands is))
    (λ m at is. begun_here c.jobs_have_one_list_of_writes.ensures.release c.releases_begin_as_machines.ensures.machine c.args.self.now c.begin_release.new.self c.args.name c.in-Ok.release c.in_ok-job.job
    c.begin_release.ensures.begun (subst (λ (rows : List Row). AreReleaseWrites rows c.in_ok-job.job.writes) c.deref.ensures.value c.in_ok-job.ensures.writes) c.in_ok-job.ensures.none_done
    m (g.R.Regs.state c.args.regs.now) (g.M.Media.state c.args.media.now) at is)
    c.carry_out.ensures.whole

pub returns-clause-refused : goal.returns-clause-refused
returns-clause-refused g c = λ refused.
    let m : Machine = c.requires.0 in
    let at = c.requires.1 in
    let is : IsNamedRelease m c.args.name c.in-Ok.release =
    subst (λ (a : Result Release Reply). IsAskedRelease m c.args.name a) c.in-Ok.is (c.in_ok-release.ensures.asked m at.stands at.sound.machine) in
    let (own, begun, from, fresh) = begun_from c.jobs_have_one_list_of_writes.ensures.release c.releases_begin_as_machines.ensures.machine c.args.self.now c.begin_release.new.self c.args.name c.in-Ok.release c.in_ok-job.job
    c.begin_release.ensures.begun (subst (λ (rows : List Row). AreReleaseWrites rows c.in_ok-job.job.writes) c.deref.ensures.value c.in_ok-job.ensures.writes) c.in_ok-job.ensures.none_done
    m at.stands is in
    refused_again c.args.self.now c.begin_release.new.self c.carry_out.new.self own (g.R.Regs.state c.args.regs.now) (g.R.Regs.state c.carry_out.new.regs)
    (g.M.Media.state c.args.media.now) (g.M.Media.state c.carry_out.new.media) from begun fresh (c.carry_out.ensures.refused refused)

pub release-requires-clause-each : goal.release-requires-clause-each
release-requires-clause-each g c =
    let m : Machine = c.requires.0 in
    let at = c.requires.1 in
    subst (λ (blocks : List Registers). All (CanRelease blocks) c.deref.result.now) (ap (λ (s : SessionState). s.image) (sym c.self.view_is))
    (can_release c.args.self.now m c.args.name c.in-Ok.release c.deref.result.now
    (subst (λ (a : Result Release Reply). IsAskedRelease m c.args.name a) c.in-Ok.is (c.in_ok-release.ensures.asked m at.stands at.sound.machine)) c.deref.ensures.value
    c.release_releases_its_rows.ensures.rows at.stands at.sound.machine)

pub release-requires-clause-apart : goal.release-requires-clause-apart
release-requires-clause-apart g c =
    let m : Machine = c.requires.0 in
    let at = c.requires.1 in
    released_apart c.args.self.now m c.args.name c.in-Ok.release c.deref.result.now
    (subst (λ (a : Result Release Reply). IsAskedRelease m c.args.name a) c.in-Ok.is (c.in_ok-release.ensures.asked m at.stands at.sound.machine)) c.deref.ensures.value
    c.release_releases_its_rows.ensures.apart

pub begin_release-requires-clause-words : goal.begin_release-requires-clause-words
begin_release-requires-clause-words g c =
    subst (λ (blocks : List Registers). HasWordsOf blocks c.in_ok-job.job.writes) (ap (λ (s : SessionState). s.image) c.self.view_is) c.in_ok-job.ensures.words

pub returns-in_err-release-clause-turn : goal.returns-in_err-release-clause-turn
returns-in_err-release-clause-turn g c = not_ok _ c.from_residual.result _ c.from_residual.ensures.1

pub returns-in_err-release-clause-refused : goal.returns-in_err-release-clause-refused
returns-in_err-release-clause-refused g c = not_ok _ c.from_residual.result _ c.from_residual.ensures.1

pub returns-in_err-release-clause-memory : goal.returns-in_err-release-clause-memory
returns-in_err-release-clause-memory g c = at_any_err c.from_residual.result _ (refl, refl, refl)

pub returns-in_err-release-clause-host : goal.returns-in_err-release-clause-host
returns-in_err-release-clause-host g c = (refl, refl)

pub returns-in_err-release-clause-counts : goal.returns-in_err-release-clause-counts
returns-in_err-release-clause-counts g c = le_refl (g.R.Regs.state c.args.regs.now).faults

pub returns-in_err-job-clause-turn : goal.returns-in_err-job-clause-turn
returns-in_err-job-clause-turn g c = not_ok _ c.from_residual-in_err-job.result _ c.from_residual-in_err-job.ensures.1

pub returns-in_err-job-clause-refused : goal.returns-in_err-job-clause-refused
returns-in_err-job-clause-refused g c = not_ok _ c.from_residual-in_err-job.result _ c.from_residual-in_err-job.ensures.1

pub returns-in_err-job-clause-memory : goal.returns-in_err-job-clause-memory
returns-in_err-job-clause-memory g c = at_any_err c.from_residual-in_err-job.result _ (refl, refl, refl)

pub returns-in_err-job-clause-host : goal.returns-in_err-job-clause-host
returns-in_err-job-clause-host g c = (refl, refl)

pub returns-in_err-job-clause-counts : goal.returns-in_err-job-clause-counts
returns-in_err-job-clause-counts g c = le_refl (g.R.Regs.state c.args.regs.now).faults

pub returns-in-Err-clause-refused : goal.returns-in-Err-clause-refused
returns-in-Err-clause-refused g c = λ _. (refl, refl, refl)

pub returns-in-Err-clause-memory : goal.returns-in-Err-clause-memory
returns-in-Err-clause-memory g c = tt

pub returns-in-Err-clause-host : goal.returns-in-Err-clause-host
returns-in-Err-clause-host g c = (refl, refl)

pub returns-in-Err-clause-counts : goal.returns-in-Err-clause-counts
returns-in-Err-clause-counts g c = le_refl (g.R.Regs.state c.args.regs.now).faults

pub returns-clause-memory : goal.returns-clause-memory
returns-clause-memory g c = tt

pub returns-clause-host : goal.returns-clause-host
returns-clause-host g c =
    (c.carry_out.ensures.host.0 ∙ c.begin_release.ensures.host.0, c.carry_out.ensures.host.1 ∙ c.begin_release.ensures.host.1)

pub returns-clause-counts : goal.returns-clause-counts
returns-clause-counts g c = c.carry_out.ensures.counts

pub returns-in_err-release-clause-outright : goal.returns-in_err-release-clause-outright
returns-in_err-release-clause-outright g c = λ m stands is refused. absurd (false≢true (c.in_err-release.ensures.outright m stands is refused))

pub returns-in_err-job-clause-outright : goal.returns-in_err-job-clause-outright
returns-in_err-job-clause-outright g c = λ m stands is refused.
    let own : IsNamedRelease m c.args.name c.in-Ok.release =
    subst (λ (a : Result Release Reply). IsAskedRelease m c.args.name a) c.in-Ok.is (c.in_ok-release.ensures.asked m stands is) in
    absurd (released_unrefused m c.args.name _ own.asked refused)

pub returns-in-Err-clause-outright : goal.returns-in-Err-clause-outright
returns-in-Err-clause-outright g c = λ _ _ _ _. refl

pub returns-clause-outright : goal.returns-clause-outright
returns-clause-outright g c = λ _ _ _ _. refl
