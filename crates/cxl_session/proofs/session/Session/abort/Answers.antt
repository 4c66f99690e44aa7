use Rattle.std.proofs.Common.{◌≡◌, ◌<◌, ◌≤◌, List, Option, Some, None, length, refl, sym, ap, ◌∙◌, subst}
use Rattle.std.specs.Prelude.{IfSome}
use Rattle.std.proofs.lemmas.Bool.{false≢true}
use Rattle.std.proofs.Math.Nat.{le_refl}
use Rattle.cxl_apply.specs.Steps.{HasWordsOf}
use Rattle.cxl_model.specs.Listed.{region_limit}
use Rattle.cxl_regs.specs.Registers.{Registers}
use Rattle.cxl_reply.specs.declared.reply.Reply.TheVariants as replies
use Rattle.cxl_session.specs.Inside.{job_fields}
use Rattle.cxl_session.specs.State.{JobFields, SessionState}
use Rattle.cxl_session.specs.inner.Regions.{session_undone, IsTakenBackTo}
use Rattle.cxl_script.specs.declared.command.Command.TheVariants as commands
use Rattle.cxl_session.proofs.Acts.{image_held}
use Rattle.cxl_session.proofs.PendingJobs.{same_job}
use Rattle.cxl_session.proofs.Room.{has_room, has_place}
use Rattle.cxl_session.proofs.Steps.{left_unrefused}
use Rattle.cxl_session.proofs.Aborts.{none_aborted, left_pending, aborted}
use Rattle.cxl_session.proofs.Turns.{on_err, on_ok, same_turn}
use Rattle.cxl_session.proofs.session.Session.abort.Goals as goal

pub returns-in_default-clause-turn : goal.returns-in_default-clause-turn
returns-in_default-clause-turn g c = λ media.
    let same : c.take_job.new.self ≡ c.args.self.now =
    c.take_job.ensures.taken ∙ ap (λ (o : Option JobFields). record c.args.self.now { job = o }) (sym c.in_default.ensures.job) in
    same_turn c.args.self.now c.take_job.new.self (g.R.Regs.state c.args.regs.now) (g.R.Regs.state c.args.regs.now) media media commands.Abort replies.NothingPending replies.NothingPending
    c.args.self.now same refl (none_aborted c.args.self.now (g.R.Regs.state c.args.regs.now) media c.in_default.ensures.job)

pub returns-then-is_err-clause-turn : goal.returns-then-is_err-clause-turn
returns-then-is_err-clause-turn g c = λ media.
    let session : SessionState = c.args.self.now in
    let own : JobFields = job_fields c.in-Some.pending in
    let left : List Registers = c.undo.new.self.image in
    let back = subst (λ (blocks : List Registers). IsTakenBackTo own c.undo.new.pending.job.done blocks left (g.R.Regs.state c.args.regs.now) (g.R.Regs.state c.undo.new.regs))
    (ap (λ (s : SessionState). s.image) c.take_job.ensures.taken) c.undo.ensures.back in
    let failed = sym c.is_err.ensures.value ∙ c.if-is_err.true in
    let part = on_err c.undo.result failed c.undo.ensures.part in
    same_turn session c.leave.new.self (g.R.Regs.state c.args.regs.now) (g.R.Regs.state c.undo.new.regs) media media commands.Abort c.leave.result
    (replies.BusPending record { name = own.name; done = c.undo.new.pending.job.done; total = length own.writes })
    (record session { image = left; job = Some (record own { done = c.undo.new.pending.job.done }) })
    (c.leave.ensures.job
    ∙ ap (λ (s : SessionState). record s { job = Some (job_fields c.undo.new.pending) }) (c.undo.ensures.image ∙ ap (λ (s : SessionState). record s { image = left }) c.take_job.ensures.taken)
    ∙ ap (λ (j : JobFields). record session { image = left; job = Some j }) c.undo.ensures.job)
    (c.leave.ensures.reply ∙ ap (λ (j : JobFields). replies.BusPending record { name = j.name; done = c.undo.new.pending.job.done; total = length j.writes }) c.undo.ensures.job)
    (left_pending c.pending_jobs_settle.ensures.back session (g.R.Regs.state c.args.regs.now) (g.R.Regs.state c.undo.new.regs) media own c.in-Some.ensures.job c.undo.new.pending.job.done left back
    part.0 part.1 (on_err c.undo.result failed c.undo.ensures.failed))

pub returns-clause-turn : goal.returns-clause-turn
returns-clause-turn g c = λ media.
    let session : SessionState = c.args.self.now in
    let own : JobFields = job_fields c.in-Some.pending in
    let left : List Registers = c.undo.new.self.image in
    let back = subst (λ (blocks : List Registers). IsTakenBackTo own c.undo.new.pending.job.done blocks left (g.R.Regs.state c.args.regs.now) (g.R.Regs.state c.undo.new.regs))
    (ap (λ (s : SessionState). s.image) c.take_job.ensures.taken) c.undo.ensures.back in
    let made = sym c.is_err.ensures.value ∙ c.if-is_err.false in
    same_turn session c.restore.new.self (g.R.Regs.state c.args.regs.now) (g.R.Regs.state c.undo.new.regs) media media commands.Abort (replies.Aborted c.undo.new.pending.name) (replies.Aborted own.name)
    (session_undone own (record session { image = left; job = None }))
    (c.restore.ensures
    ∙ ap (λ (s : SessionState). session_undone (job_fields c.undo.new.pending) s) (c.undo.ensures.image ∙ ap (λ (s : SessionState). record s { image = left }) c.take_job.ensures.taken)
    ∙ ap (λ (j : JobFields). session_undone j (record session { image = left; job = None })) c.undo.ensures.job)
    (ap (λ (j : JobFields). replies.Aborted j.name) c.undo.ensures.job)
    (aborted c.pending_jobs_settle.ensures.back session (g.R.Regs.state c.args.regs.now) (g.R.Regs.state c.undo.new.regs) media own c.in-Some.ensures.job c.undo.new.pending.job.done left back
    (on_ok c.undo.result made c.undo.ensures.all) (on_ok c.undo.result made c.undo.ensures.unfailed))

pub undo-requires-clause-idle : goal.undo-requires-clause-idle
undo-requires-clause-idle g c = ap (λ (s : SessionState). s.job) c.take_job.ensures.taken

pub undo-requires-clause-words : goal.undo-requires-clause-words
undo-requires-clause-words g c = subst (λ (blocks : List Registers). HasWordsOf blocks c.in-Some.pending.job.writes) (sym (ap (λ (s : SessionState). s.image) c.take_job.ensures.taken)) c.in-Some.ensures.words

pub undo-requires-clause-same : goal.undo-requires-clause-same
undo-requires-clause-same g c = sym (image_held c.args.self.now (g.R.Regs.state c.args.regs.now) c.requires.0 c.requires.1) ∙ sym (ap (λ (s : SessionState). s.image) c.take_job.ensures.taken)

pub leave-requires : goal.leave-requires
leave-requires g c = c.undo.ensures.kept_words

pub restore-requires-clause-idle : goal.restore-requires-clause-idle
restore-requires-clause-idle g c = ap (λ (s : SessionState). s.job) c.undo.ensures.image ∙ ap (λ (s : SessionState). s.job) c.take_job.ensures.taken

pub restore-requires-clause-place : goal.restore-requires-clause-place
restore-requires-clause-place g c =
    let session : SessionState = c.args.self.now in
    let own : JobFields = job_fields c.in-Some.pending in
    let left : List Registers = c.undo.new.self.image in
    let (m, at) = c.requires.1 in
    let (job, pending, same) = same_job m own session.job c.in-Some.ensures.job m.job at.stands.job in
    let image_is : c.undo.new.self ≡ record session { image = left; job = None } =
    c.undo.ensures.image ∙ ap (λ (s : SessionState). record s { image = left }) c.take_job.ensures.taken in
    subst (λ (s : SessionState). IfSome (job_fields c.undo.new.pending).place (λ place. place ≤ length s.names)) (sym image_is)
    (subst (λ (j : JobFields). IfSome j.place (λ place. place ≤ length session.names)) (sym c.undo.ensures.job) (has_place session m own job at.stands at.sound.machine pending same))

pub restore-requires-clause-room : goal.restore-requires-clause-room
restore-requires-clause-room g c =
    let session : SessionState = c.args.self.now in
    let own : JobFields = job_fields c.in-Some.pending in
    let left : List Registers = c.undo.new.self.image in
    let (m, at) = c.requires.1 in
    let (job, pending, same) = same_job m own session.job c.in-Some.ensures.job m.job at.stands.job in
    let image_is : c.undo.new.self ≡ record session { image = left; job = None } =
    c.undo.ensures.image ∙ ap (λ (s : SessionState). record s { image = left }) c.take_job.ensures.taken in
    subst (λ (s : SessionState). length s.names < region_limit) (sym image_is) (has_room session m own job at.stands at.sound.machine pending same)

pub returns-in_default-clause-refused : goal.returns-in_default-clause-refused
returns-in_default-clause-refused g c = λ _. (c.take_job.ensures.taken ∙ ap (λ (o : Option JobFields). record c.args.self.now { job = o }) (sym c.in_default.ensures.job), refl)

pub returns-in_default-clause-host : goal.returns-in_default-clause-host
returns-in_default-clause-host g c =
    let topo = λ (s : SessionState). s.topo in
    let windows = λ (s : SessionState). s.windows in
    (ap topo c.take_job.ensures.taken, ap windows c.take_job.ensures.taken)

pub returns-in_default-clause-counts : goal.returns-in_default-clause-counts
returns-in_default-clause-counts g c = le_refl (g.R.Regs.state c.args.regs.now).faults

pub returns-then-is_err-clause-refused : goal.returns-then-is_err-clause-refused
returns-then-is_err-clause-refused g c = λ is. absurd (left_unrefused _ _ _ c.leave.result c.leave.ensures.reply is)

pub returns-then-is_err-clause-host : goal.returns-then-is_err-clause-host
returns-then-is_err-clause-host g c =
    let topo = λ (s : SessionState). s.topo in
    let windows = λ (s : SessionState). s.windows in
    (ap topo c.leave.ensures.job ∙ ap topo c.undo.ensures.image ∙ ap topo c.take_job.ensures.taken, ap windows c.leave.ensures.job ∙ ap windows c.undo.ensures.image ∙ ap windows c.take_job.ensures.taken)

pub returns-then-is_err-clause-counts : goal.returns-then-is_err-clause-counts
returns-then-is_err-clause-counts g c = c.undo.ensures.back.counts

pub returns-clause-refused : goal.returns-clause-refused
returns-clause-refused g c = λ is. absurd (false≢true is)

pub returns-clause-host : goal.returns-clause-host
returns-clause-host g c =
    let topo = λ (s : SessionState). s.topo in
    let windows = λ (s : SessionState). s.windows in
    (ap topo c.restore.ensures ∙ ap topo c.undo.ensures.image ∙ ap topo c.take_job.ensures.taken, ap windows c.restore.ensures ∙ ap windows c.undo.ensures.image ∙ ap windows c.take_job.ensures.taken)

pub returns-clause-counts : goal.returns-clause-counts
returns-clause-counts g c = c.undo.ensures.back.counts
