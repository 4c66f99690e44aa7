use Rattle.std.proofs.Common.{◌≡◌, ℕ, ◌+◌, ◌<◌, List, Option, Some, None, length, refl, sym, ap, ◌∙◌, subst, arith}
use Rattle.std.proofs.lemmas.Bool.{false≢true}
use Rattle.std.proofs.Math.Nat.{le_refl}
use Rattle.cxl_apply.specs.Steps.{HasWordsOf}
use Rattle.cxl_regs.specs.Registers.{Registers}
use Rattle.cxl_model.specs.declared.found.Found.{Found}
use Rattle.cxl_model.specs.System.{System, IsSystem}
use Rattle.cxl_model.specs.Regions.{IsRegion}
use Rattle.cxl_script.specs.declared.command.Command.TheVariants as commands
use Rattle.cxl_reply.specs.declared.reply.Reply.TheVariants as replies
use Rattle.cxl_machine.specs.Machine.{Machine}
use Rattle.cxl_model.specs.Listed.{region_limit}
use Rattle.cxl_session.specs.Inside.{job_fields}
use Rattle.cxl_session.specs.State.{JobFields, SessionState}
use Rattle.cxl_session.specs.inner.Regions.{session_finished, finished_reply, IsMadeTo, IsLeftByEnd}
use Rattle.cxl_session.proofs.Acts.{image_held}
use Rattle.cxl_session.proofs.Ends.{EndLaws}
use Rattle.cxl_session.proofs.Finished.{MediaLaws, region_of_job}
use Rattle.cxl_session.proofs.PendingJobs.{same_job}
use Rattle.cxl_session.proofs.Room.{has_room}
use Rattle.cxl_session.proofs.Steps.{none_stepped, left_stepped, stepped, ended, reply_same, end_unrefused, left_unrefused}
use Rattle.cxl_session.proofs.Turns.{on_err, on_ok, same_turn}
use Rattle.cxl_session.proofs.session.Session.step.Goals as goal

pub returns-in_default-clause-turn : goal.returns-in_default-clause-turn
returns-in_default-clause-turn g c =
    let same : c.take_job.new.self ≡ c.args.self.now =
    c.take_job.ensures.taken ∙ ap (λ (o : Option JobFields). record c.args.self.now { job = o }) (sym c.in_default.ensures.job) in
    same_turn c.args.self.now c.take_job.new.self (g.R.Regs.state c.args.regs.now) (g.R.Regs.state c.args.regs.now) (g.M.Media.state c.args.media.now) (g.M.Media.state c.args.media.now)
    (commands.Step c.args.steps) replies.NothingPending replies.NothingPending
    c.args.self.now same refl (none_stepped c.args.self.now (g.R.Regs.state c.args.regs.now) (g.M.Media.state c.args.media.now) c.args.steps c.in_default.ensures.job)

pub returns-then-is_err-clause-turn : goal.returns-then-is_err-clause-turn
returns-then-is_err-clause-turn g c =
    let session : SessionState = c.args.self.now in
    let own : JobFields = job_fields c.in-Some.pending in
    let left : List Registers = c.make.new.self.image in
    let made : ℕ = c.make.new.pending.job.done in
    let goes : IsMadeTo own made session.image left (g.R.Regs.state c.args.regs.now) (g.R.Regs.state c.make.new.regs) =
    subst (λ (blocks : List Registers). IsMadeTo own made blocks left (g.R.Regs.state c.args.regs.now) (g.R.Regs.state c.make.new.regs))
    (ap (λ (s : SessionState). s.image) c.take_job.ensures.taken) c.make.ensures.made in
    let failed = sym c.is_err.ensures.value ∙ c.if-is_err.true in
    let part = on_err c.make.result failed c.make.ensures.part in
    let few = c.min.ensures in
    let done = c.done-done.ensures.value in
    let within = c.done-done.ensures.within in
    let total = c.total-total.ensures in
    same_turn session c.leave.new.self (g.R.Regs.state c.args.regs.now) (g.R.Regs.state c.make.new.regs) (g.M.Media.state c.args.media.now) (g.M.Media.state c.args.media.now)
    (commands.Step c.args.steps) c.leave.result (replies.BusPending record { name = own.name; done = made; total = length own.writes })
    (record session { image = left; job = Some (record own { done = made }) })
    (c.leave.ensures.job
    ∙ ap (λ (s : SessionState). record s { job = Some (job_fields c.make.new.pending) }) (c.make.ensures.image ∙ ap (λ (s : SessionState). record s { image = left }) c.take_job.ensures.taken)
    ∙ ap (λ (j : JobFields). record session { image = left; job = Some j }) c.make.ensures.job)
    (c.leave.ensures.reply ∙ ap (λ (j : JobFields). replies.BusPending record { name = j.name; done = made; total = length j.writes }) c.make.ensures.job)
    (left_stepped session (g.R.Regs.state c.args.regs.now) (g.R.Regs.state c.make.new.regs) own c.in-Some.ensures.job c.args.steps made left goes (g.M.Media.state c.args.media.now)
    part.0 (omega (arith, part.1, few, done, within, total)) (on_err c.make.result failed c.make.ensures.failed))

pub returns-then-upto-total-clause-turn : goal.returns-then-upto-total-clause-turn
returns-then-upto-total-clause-turn g c =
    let session : SessionState = c.args.self.now in
    let own : JobFields = job_fields c.in-Some.pending in
    let left : List Registers = c.make.new.self.image in
    let made : ℕ = c.make.new.pending.job.done in
    let goes : IsMadeTo own made session.image left (g.R.Regs.state c.args.regs.now) (g.R.Regs.state c.make.new.regs) =
    subst (λ (blocks : List Registers). IsMadeTo own made blocks left (g.R.Regs.state c.args.regs.now) (g.R.Regs.state c.make.new.regs))
    (ap (λ (s : SessionState). s.image) c.take_job.ensures.taken) c.make.ensures.made in
    let went = sym c.is_err.ensures.value ∙ c.if-is_err.false in
    let all = on_ok c.make.result went c.make.ensures.all in
    let few = c.min.ensures in
    let done = c.done-done.ensures.value in
    let within = c.done-done.ensures.within in
    let total = c.total-total.ensures in
    let more = c.if-upto-total.true in
    same_turn session c.keep.new.self (g.R.Regs.state c.args.regs.now) (g.R.Regs.state c.make.new.regs) (g.M.Media.state c.args.media.now) (g.M.Media.state c.args.media.now)
    (commands.Step c.args.steps) (replies.Stepped record { done = c.done-done.result + c.min.result; total = c.total-total.result }) (replies.Stepped record { done = made; total = length own.writes })
    (record session { image = left; job = Some (record own { done = made }) })
    (c.keep.ensures
    ∙ ap (λ (s : SessionState). record s { job = Some (job_fields c.make.new.pending) }) (c.make.ensures.image ∙ ap (λ (s : SessionState). record s { image = left }) c.take_job.ensures.taken)
    ∙ ap (λ (j : JobFields). record session { image = left; job = Some j }) c.make.ensures.job)
    (ap (λ (n : ℕ). replies.Stepped record { done = n; total = c.total-total.result }) (sym all) ∙ ap (λ (n : ℕ). replies.Stepped record { done = made; total = n }) total)
    (stepped session (g.R.Regs.state c.args.regs.now) (g.R.Regs.state c.make.new.regs) own c.in-Some.ensures.job c.args.steps made left goes (g.M.Media.state c.args.media.now)
    (omega (arith, all, few, done, within, total, more)) (omega (arith, all, more, total)) (on_ok c.make.result went c.make.ensures.unfailed))

pub finish-requires-clause-region : goal.finish-requires-clause-region
finish-requires-clause-region g c =
    let media_laws : MediaLaws = record { count = c.blocks_are_pieces.ensures.all; gone = c.cleared_regions_leave_media.ensures.gone; empty = c.cleared_regions_leave_media.ensures.empty } in
    let m : Machine = c.requires.0 in
    let at = c.requires.1 in
    let own : JobFields = job_fields c.in-Some.pending in
    let (job, pending, same) = same_job m own c.args.self.now.job c.in-Some.ensures.job m.job at.stands.job in
    subst (λ (found : Found). (s : System) × IsSystem s × IsRegion s found) (sym (ap (λ (j : JobFields). j.found) c.make.ensures.job ∙ same.found))
    (region_of_job media_laws m at.sound.machine job pending (g.M.Media.state c.args.media.now) (g.M.Media.state c.args.media.now) (c.finished_jobs_keep_machines.ensures m job at.sound.machine pending))

pub returns-clause-turn : goal.returns-clause-turn
returns-clause-turn g c =
    let session : SessionState = c.args.self.now in
    let own : JobFields = job_fields c.in-Some.pending in
    let left : List Registers = c.make.new.self.image in
    let made : ℕ = c.make.new.pending.job.done in
    let goes : IsMadeTo own made session.image left (g.R.Regs.state c.args.regs.now) (g.R.Regs.state c.make.new.regs) =
    subst (λ (blocks : List Registers). IsMadeTo own made blocks left (g.R.Regs.state c.args.regs.now) (g.R.Regs.state c.make.new.regs))
    (ap (λ (s : SessionState). s.image) c.take_job.ensures.taken) c.make.ensures.made in
    let went = sym c.is_err.ensures.value ∙ c.if-is_err.false in
    let all = on_ok c.make.result went c.make.ensures.all in
    let few = c.min.ensures in
    let done = c.done-done.ensures.value in
    let within = c.done-done.ensures.within in
    let total = c.total-total.ensures in
    let last = c.if-upto-total.false in
    let media_laws : MediaLaws = record { count = c.blocks_are_pieces.ensures.all; gone = c.cleared_regions_leave_media.ensures.gone; empty = c.cleared_regions_leave_media.ensures.empty } in
    let laws : EndLaws = record {
      one = c.whole_ranges_have_one_region.ensures.one;
      create_decoders = c.regions_stay_in_a_create.ensures.decoders;
      release_decoders = c.regions_stay_in_a_release.ensures.decoders;
      ends = c.pending_jobs_settle.ensures.ends;
      finished = c.finished_jobs_keep_machines.ensures;
      routes = c.kept_routes_stay.ensures.below;
    } in
    same_turn session c.finish.new.self (g.R.Regs.state c.args.regs.now) (g.R.Regs.state c.make.new.regs) (g.M.Media.state c.args.media.now) (g.M.Media.state c.finish.new.media)
    (commands.Step c.args.steps) c.finish.result (finished_reply own)
    (session_finished own (record session { image = left; job = None }))
    (c.finish.ensures.session
    ∙ ap (λ (s : SessionState). session_finished (job_fields c.make.new.pending) s) (c.make.ensures.image ∙ ap (λ (s : SessionState). record s { image = left }) c.take_job.ensures.taken)
    ∙ ap (λ (j : JobFields). session_finished j (record session { image = left; job = None })) c.make.ensures.job)
    (c.finish.ensures.reply ∙ ap finished_reply c.make.ensures.job ∙ reply_same own made)
    (ended session (g.R.Regs.state c.args.regs.now) (g.R.Regs.state c.make.new.regs) own c.in-Some.ensures.job c.args.steps made left goes laws media_laws
    (g.M.Media.state c.args.media.now) (g.M.Media.state c.finish.new.media) (omega (arith, all, few, done, within, total, last)) (omega (arith, few, done, within, total, last))
    (on_ok c.make.result went c.make.ensures.unfailed)
    (subst (λ (j : JobFields). IsLeftByEnd j (g.M.Media.state c.args.media.now) (g.M.Media.state c.finish.new.media)) c.make.ensures.job c.finish.ensures.media))

pub make-requires : goal.make-requires
make-requires g c =
    let few = c.min.ensures in
    let done = c.done-done.ensures.value in
    let within = c.done-done.ensures.within in
    let total = c.total-total.ensures in
    record {
      idle = ap (λ (s : SessionState). s.job) c.take_job.ensures.taken;
      ahead = omega (arith, done);
      within = omega (arith, few, done, within, total);
      words = subst (λ (blocks : List Registers). HasWordsOf blocks c.in-Some.pending.job.writes) (sym (ap (λ (s : SessionState). s.image) c.take_job.ensures.taken)) c.in-Some.ensures.words;
      same = sym (image_held c.args.self.now (g.R.Regs.state c.args.regs.now) (g.M.Media.state c.args.media.now) c.requires) ∙ sym (ap (λ (s : SessionState). s.image) c.take_job.ensures.taken);
    }

pub leave-requires : goal.leave-requires
leave-requires g c = c.make.ensures.kept_words

pub keep-requires : goal.keep-requires
keep-requires g c = c.make.ensures.kept_words

pub finish-requires-clause-idle : goal.finish-requires-clause-idle
finish-requires-clause-idle g c = ap (λ (s : SessionState). s.job) c.make.ensures.image ∙ ap (λ (s : SessionState). s.job) c.take_job.ensures.taken

pub returns-in_default-clause-refused : goal.returns-in_default-clause-refused
returns-in_default-clause-refused g c = λ _. (c.take_job.ensures.taken ∙ ap (λ (o : Option JobFields). record c.args.self.now { job = o }) (sym c.in_default.ensures.job), refl, refl)

pub returns-in_default-clause-host : goal.returns-in_default-clause-host
returns-in_default-clause-host g c =
    let topo = λ (s : SessionState). s.topo in
    let windows = λ (s : SessionState). s.windows in
    (ap topo c.take_job.ensures.taken, ap windows c.take_job.ensures.taken)

pub returns-in_default-clause-counts : goal.returns-in_default-clause-counts
returns-in_default-clause-counts g c = le_refl (g.R.Regs.state c.args.regs.now).faults

pub returns-then-is_err-clause-refused : goal.returns-then-is_err-clause-refused
returns-then-is_err-clause-refused g c = λ is. absurd (left_unrefused _ _ _ c.leave.result c.leave.ensures.reply is)

pub returns-then-is_err-clause-host : goal.returns-then-is_err-clause-host
returns-then-is_err-clause-host g c =
    let topo = λ (s : SessionState). s.topo in
    let windows = λ (s : SessionState). s.windows in
    (ap topo c.leave.ensures.job ∙ ap topo c.make.ensures.image ∙ ap topo c.take_job.ensures.taken, ap windows c.leave.ensures.job ∙ ap windows c.make.ensures.image ∙ ap windows c.take_job.ensures.taken)

pub returns-then-is_err-clause-counts : goal.returns-then-is_err-clause-counts
returns-then-is_err-clause-counts g c = c.make.ensures.made.counts

pub returns-then-upto-total-clause-refused : goal.returns-then-upto-total-clause-refused
returns-then-upto-total-clause-refused g c = λ is. absurd (false≢true is)

pub returns-then-upto-total-clause-host : goal.returns-then-upto-total-clause-host
returns-then-upto-total-clause-host g c =
    let topo = λ (s : SessionState). s.topo in
    let windows = λ (s : SessionState). s.windows in
    (ap topo c.keep.ensures ∙ ap topo c.make.ensures.image ∙ ap topo c.take_job.ensures.taken, ap windows c.keep.ensures ∙ ap windows c.make.ensures.image ∙ ap windows c.take_job.ensures.taken)

pub returns-then-upto-total-clause-counts : goal.returns-then-upto-total-clause-counts
returns-then-upto-total-clause-counts g c = c.make.ensures.made.counts

pub returns-clause-refused : goal.returns-clause-refused
returns-clause-refused g c = λ is. absurd (end_unrefused (job_fields c.make.new.pending) c.finish.result c.finish.ensures.reply is)

pub returns-clause-host : goal.returns-clause-host
returns-clause-host g c =
    let topo = λ (s : SessionState). s.topo in
    let windows = λ (s : SessionState). s.windows in
    (ap topo c.finish.ensures.session ∙ ap topo c.make.ensures.image ∙ ap topo c.take_job.ensures.taken, ap windows c.finish.ensures.session ∙ ap windows c.make.ensures.image ∙ ap windows c.take_job.ensures.taken)

pub returns-clause-counts : goal.returns-clause-counts
returns-clause-counts g c = c.make.ensures.made.counts

pub finish-requires-clause-room : goal.finish-requires-clause-room
finish-requires-clause-room g c =
    let m : Machine = c.requires.0 in
    let at = c.requires.1 in
    let own : JobFields = job_fields c.in-Some.pending in
    let (job, pending, same) = same_job m own c.args.self.now.job c.in-Some.ensures.job m.job at.stands.job in
    subst (λ (names : List (List ℕ)). length names < region_limit) (sym (ap (λ (s : SessionState). s.names) c.make.ensures.image ∙ ap (λ (s : SessionState). s.names) c.take_job.ensures.taken))
    (has_room c.args.self.now m own job at.stands at.sound.machine pending same)
