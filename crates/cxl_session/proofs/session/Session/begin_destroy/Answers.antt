use Rattle.std.proofs.Common.{List, Result, refl, sym, ap, subst}
use Rattle.std.proofs.lemmas.Bool.{false≢true}
use Rattle.std.specs.Prelude.{All}
use Rattle.cxl_regs.specs.Registers.{Registers}
use Rattle.cxl_apply.specs.Jobs.{AreReleaseWrites, CanRelease}
use Rattle.cxl_apply.specs.Steps.{HasWordsOf}
use Rattle.cxl_model.specs.declared.plan.Row.{Row}
use Rattle.cxl_reply.specs.declared.reply.Reply.{Reply}
use Rattle.cxl_machine.specs.Machine.{Machine}
use Rattle.cxl_session.specs.declared.requests.Release.{Release}
use Rattle.cxl_session.specs.State.{SessionState}
use Rattle.cxl_session.specs.inner.Requests.{IsNamedRelease, IsAskedRelease}
use Rattle.cxl_session.proofs.Begins.{begin_refused, begin_turn, release_within, can_release, released_apart}
use Rattle.cxl_opening.proofs.Errors.{not_ok, at_any_err}
use Rattle.cxl_session.proofs.AskedReleases.{released_unrefused}
use Rattle.cxl_session.proofs.session.Session.begin_destroy.Goals as goal

pub returns-in-Err-clause-turn : goal.returns-in-Err-clause-turn
returns-in-Err-clause-turn c = λ regs media.
    begin_refused c.args.self.now c.args.name c.in-Err.refusal regs media
    (λ m stands is. subst (λ (a : Result Release Reply). IsAskedRelease m c.args.name a) c.in-Err.is (c.in_ok-release.ensures.asked m stands is))

pub begin_release-requires-clause-here : goal.begin_release-requires-clause-here
begin_release-requires-clause-here c =
    let m : Machine = c.requires.2.0 in
    let at = c.requires.2.1 in
    release_within c.args.self.now m c.args.name c.in-Ok.release at.stands
    (subst (λ (a : Result Release Reply). IsAskedRelease m c.args.name a) c.in-Ok.is (c.in_ok-release.ensures.asked m at.stands at.sound.machine))

pub returns-clause-turn : goal.returns-clause-turn
returns-clause-turn c = λ regs media.
    begin_turn c.jobs_have_one_list_of_writes.ensures.release c.releases_begin_as_machines.ensures.machine c.args.self.now c.begin_release.new.self c.args.name c.in-Ok.release c.in_ok-job.job
    c.begin_release.ensures.begun (subst (λ (rows : List Row). AreReleaseWrites rows c.in_ok-job.job.writes) c.deref.ensures.value c.in_ok-job.ensures.writes) c.in_ok-job.ensures.none_done
    (λ m stands is. subst (λ (a : Result Release Reply). IsAskedRelease m c.args.name a) c.in-Ok.is (c.in_ok-release.ensures.asked m stands is))
    regs media c.total-writes.result c.total-writes.ensures

pub release-requires-clause-each : goal.release-requires-clause-each
release-requires-clause-each c =
    let m : Machine = c.requires.2.0 in
    let at = c.requires.2.1 in
    subst (λ (blocks : List Registers). All (CanRelease blocks) c.deref.result.now) (ap (λ (s : SessionState). s.image) (sym c.self.view_is))
    (can_release c.args.self.now m c.args.name c.in-Ok.release c.deref.result.now
    (subst (λ (a : Result Release Reply). IsAskedRelease m c.args.name a) c.in-Ok.is (c.in_ok-release.ensures.asked m at.stands at.sound.machine)) c.deref.ensures.value
    c.release_releases_its_rows.ensures.rows at.stands at.sound.machine)

pub release-requires-clause-apart : goal.release-requires-clause-apart
release-requires-clause-apart c =
    let m : Machine = c.requires.2.0 in
    let at = c.requires.2.1 in
    released_apart c.args.self.now m c.args.name c.in-Ok.release c.deref.result.now
    (subst (λ (a : Result Release Reply). IsAskedRelease m c.args.name a) c.in-Ok.is (c.in_ok-release.ensures.asked m at.stands at.sound.machine)) c.deref.ensures.value
    c.release_releases_its_rows.ensures.apart

pub begin_release-requires-clause-words : goal.begin_release-requires-clause-words
begin_release-requires-clause-words c =
    subst (λ (blocks : List Registers). HasWordsOf blocks c.in_ok-job.job.writes) (ap (λ (s : SessionState). s.image) c.self.view_is) c.in_ok-job.ensures.words

pub returns-in_err-release-clause-turn : goal.returns-in_err-release-clause-turn
returns-in_err-release-clause-turn c = not_ok _ c.from_residual.result _ c.from_residual.ensures.1

pub returns-in_err-release-clause-refused : goal.returns-in_err-release-clause-refused
returns-in_err-release-clause-refused c = not_ok _ c.from_residual.result _ c.from_residual.ensures.1

pub returns-in_err-release-clause-memory : goal.returns-in_err-release-clause-memory
returns-in_err-release-clause-memory c = at_any_err c.from_residual.result _ refl

pub returns-in_err-release-clause-host : goal.returns-in_err-release-clause-host
returns-in_err-release-clause-host c = (refl, refl)

pub returns-in_err-job-clause-turn : goal.returns-in_err-job-clause-turn
returns-in_err-job-clause-turn c = not_ok _ c.from_residual-in_err-job.result _ c.from_residual-in_err-job.ensures.1

pub returns-in_err-job-clause-refused : goal.returns-in_err-job-clause-refused
returns-in_err-job-clause-refused c = not_ok _ c.from_residual-in_err-job.result _ c.from_residual-in_err-job.ensures.1

pub returns-in_err-job-clause-memory : goal.returns-in_err-job-clause-memory
returns-in_err-job-clause-memory c = at_any_err c.from_residual-in_err-job.result _ refl

pub returns-in_err-job-clause-host : goal.returns-in_err-job-clause-host
returns-in_err-job-clause-host c = (refl, refl)

pub returns-in-Err-clause-refused : goal.returns-in-Err-clause-refused
returns-in-Err-clause-refused c = λ _. refl

pub returns-in-Err-clause-memory : goal.returns-in-Err-clause-memory
returns-in-Err-clause-memory c = tt

pub returns-in-Err-clause-host : goal.returns-in-Err-clause-host
returns-in-Err-clause-host c = (refl, refl)

pub returns-clause-refused : goal.returns-clause-refused
returns-clause-refused c = λ is. absurd (false≢true is)

pub returns-clause-memory : goal.returns-clause-memory
returns-clause-memory c = tt

pub returns-clause-host : goal.returns-clause-host
returns-clause-host c = c.begin_release.ensures.host

pub returns-in_err-release-clause-outright : goal.returns-in_err-release-clause-outright
returns-in_err-release-clause-outright c = λ m stands is refused. absurd (false≢true (c.in_err-release.ensures.outright m stands is refused))

pub returns-in_err-job-clause-outright : goal.returns-in_err-job-clause-outright
returns-in_err-job-clause-outright c = λ m stands is refused.
    let own : IsNamedRelease m c.args.name c.in-Ok.release =
    subst (λ (a : Result Release Reply). IsAskedRelease m c.args.name a) c.in-Ok.is (c.in_ok-release.ensures.asked m stands is) in
    absurd (released_unrefused m c.args.name _ own.asked refused)

pub returns-in-Err-clause-outright : goal.returns-in-Err-clause-outright
returns-in-Err-clause-outright c = λ _ _ _ _. refl

pub returns-clause-outright : goal.returns-clause-outright
returns-clause-outright c = λ _ _ _ _. refl
