use Rattle.std.proofs.Common.{◌≡◌, ℕ, ◌<◌, ◌≤◌, List, [], ◌∷◌, Option, Some, None, length, refl, sym, ap, ◌∙◌, subst, arith}
use Rattle.std.specs.Prelude.{IfSome}
use Rattle.std.proofs.lemmas.Option.{none-some, same_Some}
use Rattle.std.proofs.Math.Nat.{le_refl, le_trans}
use Rattle.cxl_apply.specs.Steps.{HasWordsOf}
use Rattle.cxl_apply.specs.WordsSent.{words_taken_back}
use Rattle.cxl_bus.specs.Failed.{HasFailed}
use Rattle.cxl_regs.specs.Registers.{Registers}
use Rattle.cxl_model.specs.declared.found.Found.{Found}
use Rattle.cxl_model.specs.System.{System, IsSystem}
use Rattle.cxl_model.specs.Regions.{IsRegion}
use Rattle.cxl_reply.specs.declared.reply.Reply.TheVariants as replies
use Rattle.cxl_machine.specs.Machine.{RegionJob, Machine}
use Rattle.cxl_model.specs.Listed.{region_limit}
use Rattle.cxl_machine.specs.Jobs.{begun}
use Rattle.cxl_session.specs.Inside.{job_fields}
use Rattle.cxl_session.specs.Standing.{HasSameJob}
use Rattle.cxl_session.specs.State.{JobFields, SessionState}
use Rattle.cxl_session.specs.inner.Regions.{session_undone, session_finished, finished_reply, IsMadeTo, IsTakenBackTo, IsLeftByEnd}
use Rattle.cxl_session.proofs.Acts.{image_held}
use Rattle.cxl_session.proofs.Ends.{EndLaws}
use Rattle.cxl_session.proofs.Finished.{MediaLaws, region_of_job}
use Rattle.cxl_session.proofs.Room.{has_room, has_place}
use Rattle.cxl_session.proofs.Steps.{reply_same, end_unrefused, left_unrefused}
use Rattle.cxl_session.proofs.Turns.{on_err, on_ok, on_pass, on_fail}
use Rattle.cxl_session.proofs.Wholes.{whole_ended, whole_undone, whole_undone_again, whole_left, own_job_for, same_whole}
use Rattle.cxl_session.proofs.session.Session.carry_out.Goals as goal

pub returns-in_default-clause-whole : goal.returns-in_default-clause-whole
returns-in_default-clause-whole g c m job at fresh again =
    absurd (subst (λ (o : Option JobFields). HasSameJob (begun job m) o (Some job)) c.in_default.ensures.job at.stands.job)

pub finish-requires-clause-region : goal.finish-requires-clause-region
finish-requires-clause-region g c =
    let media_laws : MediaLaws = record { count = c.blocks_are_pieces.ensures.all; gone = c.cleared_regions_leave_media.ensures.gone; empty = c.cleared_regions_leave_media.ensures.empty } in
    let m : Machine = c.requires.0 in
    let job : RegionJob = c.requires.1 in
    let at = c.requires.2 in
    let own : JobFields = job_fields c.in-Some.pending in
    let same = own_job_for c.args.self.now own c.in-Some.ensures.job (begun job m) job refl at.stands.job in
    subst (λ (found : Found). (s : System) × IsSystem s × IsRegion s found) (sym (ap (λ (j : JobFields). j.found) c.make.ensures.job ∙ same.found))
    (region_of_job media_laws (begun job m) at.sound.machine job refl (g.M.Media.state c.args.media.now) (g.M.Media.state c.args.media.now)
    (c.finished_jobs_keep_machines.ensures (begun job m) job at.sound.machine refl))

pub returns-then-is_ok-clause-whole : goal.returns-then-is_ok-clause-whole
returns-then-is_ok-clause-whole g c =
    let session : SessionState = c.args.self.now in
    let own : JobFields = job_fields c.in-Some.pending in
    let left : List Registers = c.make.new.self.image in
    let made : ℕ = c.make.new.pending.job.done in
    let goes : IsMadeTo own made session.image left (g.R.Regs.state c.args.regs.now) (g.R.Regs.state c.make.new.regs) =
    subst (λ (blocks : List Registers). IsMadeTo own made blocks left (g.R.Regs.state c.args.regs.now) (g.R.Regs.state c.make.new.regs))
    (ap (λ (s : SessionState). s.image) c.take_job.ensures.taken) c.make.ensures.made in
    let total = c.total-total.ensures in
    let went = on_pass c.make.result (sym c.is_ok.ensures.value ∙ c.if-is_ok.true) in
    let all = on_ok c.make.result went c.make.ensures.all in
    let media_laws : MediaLaws = record { count = c.blocks_are_pieces.ensures.all; gone = c.cleared_regions_leave_media.ensures.gone; empty = c.cleared_regions_leave_media.ensures.empty } in
    let laws : EndLaws = record {
      one = c.whole_ranges_have_one_region.ensures.one;
      create_decoders = c.regions_stay_in_a_create.ensures.decoders;
      release_decoders = c.regions_stay_in_a_release.ensures.decoders;
      ends = c.pending_jobs_settle.ensures.ends;
      finished = c.finished_jobs_keep_machines.ensures;
      routes = c.kept_routes_stay.ensures.below;
    } in
    same_whole session c.finish.new.self (g.R.Regs.state c.args.regs.now) (g.R.Regs.state c.make.new.regs) (g.M.Media.state c.args.media.now) (g.M.Media.state c.finish.new.media)
    c.finish.result (finished_reply own) (session_finished own (record session { image = left; job = None }))
    (c.finish.ensures.session
    ∙ ap (λ (s : SessionState). session_finished (job_fields c.make.new.pending) s) (c.make.ensures.image ∙ ap (λ (s : SessionState). record s { image = left }) c.take_job.ensures.taken)
    ∙ ap (λ (j : JobFields). session_finished j (record session { image = left; job = None })) c.make.ensures.job)
    (c.finish.ensures.reply ∙ ap finished_reply c.make.ensures.job ∙ reply_same own made)
    (whole_ended session (g.R.Regs.state c.args.regs.now) (g.R.Regs.state c.make.new.regs) own c.in-Some.ensures.job made left goes laws media_laws
    (g.M.Media.state c.args.media.now) (g.M.Media.state c.finish.new.media) (all ∙ total) (on_ok c.make.result went c.make.ensures.unfailed)
    (subst (λ (j : JobFields). IsLeftByEnd j (g.M.Media.state c.args.media.now) (g.M.Media.state c.finish.new.media)) c.make.ensures.job c.finish.ensures.media))

pub returns-then-is_err-clause-whole : goal.returns-then-is_err-clause-whole
returns-then-is_err-clause-whole g c =
    let session : SessionState = c.args.self.now in
    let own : JobFields = job_fields c.in-Some.pending in
    let left : List Registers = c.make.new.self.image in
    let made : ℕ = c.make.new.pending.job.done in
    let goes : IsMadeTo own made session.image left (g.R.Regs.state c.args.regs.now) (g.R.Regs.state c.make.new.regs) =
    subst (λ (blocks : List Registers). IsMadeTo own made blocks left (g.R.Regs.state c.args.regs.now) (g.R.Regs.state c.make.new.regs))
    (ap (λ (s : SessionState). s.image) c.take_job.ensures.taken) c.make.ensures.made in
    let total = c.total-total.ensures in
    let failed = on_fail c.make.result (sym c.is_ok.ensures.value ∙ c.if-is_ok.false) in
    let part = on_err c.make.result failed c.make.ensures.part in
    let last : List Registers = c.undo.new.self.image in
    let kept : ℕ = c.undo.new.pending.job.done in
    let as_made : job_fields c.make.new.pending ≡ record own { done = made } = c.make.ensures.job in
    let back : IsTakenBackTo (record own { done = made }) kept left last (g.R.Regs.state c.make.new.regs) (g.R.Regs.state c.undo.new.regs) =
    subst (λ (j : JobFields). IsTakenBackTo j kept left last (g.R.Regs.state c.make.new.regs) (g.R.Regs.state c.undo.new.regs)) as_made c.undo.ensures.back in
    let as_kept : job_fields c.undo.new.pending ≡ record own { done = kept } = c.undo.ensures.job ∙ ap (λ (j : JobFields). record j { done = kept }) as_made in
    let image_is : c.undo.new.self ≡ record session { image = last; job = None } =
    c.undo.ensures.image ∙ ap (λ (s : SessionState). record s { image = last }) (c.make.ensures.image ∙ ap (λ (s : SessionState). record s { image = left }) c.take_job.ensures.taken) in
    let failing = sym c.is_err.ensures.value ∙ c.if-is_err.true in
    let some = on_err c.undo.result failing c.undo.ensures.part in
    same_whole session c.leave.new.self (g.R.Regs.state c.args.regs.now) (g.R.Regs.state c.undo.new.regs) (g.M.Media.state c.args.media.now) (g.M.Media.state c.args.media.now)
    c.leave.result (replies.BusPending record { name = own.name; done = kept; total = length own.writes }) (record session { image = last; job = Some (record own { done = kept }) })
    (c.leave.ensures.job ∙ ap (λ (s : SessionState). record s { job = Some (job_fields c.undo.new.pending) }) image_is ∙ ap (λ (j : JobFields). record session { image = last; job = Some j }) as_kept)
    (c.leave.ensures.reply ∙ ap (λ (j : JobFields). replies.BusPending record { name = j.name; done = kept; total = length j.writes }) as_kept)
    (whole_left session (g.R.Regs.state c.args.regs.now) (g.R.Regs.state c.make.new.regs) own c.in-Some.ensures.job made left goes c.pending_jobs_settle.ensures.back
    (g.R.Regs.state c.undo.new.regs) kept last (omega (arith, part.1, total)) (on_err c.make.result failed c.make.ensures.failed) back (g.M.Media.state c.args.media.now)
    some.0 some.1
    (subst (λ (j : JobFields). HasFailed (g.R.Regs.state c.make.new.regs) (g.R.Regs.state c.undo.new.regs) (length (words_taken_back j.writes kept j.done) ∷ [])) as_made
    (on_err c.undo.result failing c.undo.ensures.failed)))

pub returns-clause-whole : goal.returns-clause-whole
returns-clause-whole g c =
    let session : SessionState = c.args.self.now in
    let own : JobFields = job_fields c.in-Some.pending in
    let left : List Registers = c.make.new.self.image in
    let made : ℕ = c.make.new.pending.job.done in
    let goes : IsMadeTo own made session.image left (g.R.Regs.state c.args.regs.now) (g.R.Regs.state c.make.new.regs) =
    subst (λ (blocks : List Registers). IsMadeTo own made blocks left (g.R.Regs.state c.args.regs.now) (g.R.Regs.state c.make.new.regs))
    (ap (λ (s : SessionState). s.image) c.take_job.ensures.taken) c.make.ensures.made in
    let total = c.total-total.ensures in
    let failed = on_fail c.make.result (sym c.is_ok.ensures.value ∙ c.if-is_ok.false) in
    let part = on_err c.make.result failed c.make.ensures.part in
    let last : List Registers = c.undo.new.self.image in
    let kept : ℕ = c.undo.new.pending.job.done in
    let as_made : job_fields c.make.new.pending ≡ record own { done = made } = c.make.ensures.job in
    let back : IsTakenBackTo (record own { done = made }) kept left last (g.R.Regs.state c.make.new.regs) (g.R.Regs.state c.undo.new.regs) =
    subst (λ (j : JobFields). IsTakenBackTo j kept left last (g.R.Regs.state c.make.new.regs) (g.R.Regs.state c.undo.new.regs)) as_made c.undo.ensures.back in
    let as_kept : job_fields c.undo.new.pending ≡ record own { done = kept } = c.undo.ensures.job ∙ ap (λ (j : JobFields). record j { done = kept }) as_made in
    let image_is : c.undo.new.self ≡ record session { image = last; job = None } =
    c.undo.ensures.image ∙ ap (λ (s : SessionState). record s { image = last }) (c.make.ensures.image ∙ ap (λ (s : SessionState). record s { image = left }) c.take_job.ensures.taken) in
    let taken = sym c.is_err.ensures.value ∙ c.if-is_err.false in
    same_whole session c.restore.new.self (g.R.Regs.state c.args.regs.now) (g.R.Regs.state c.undo.new.regs) (g.M.Media.state c.args.media.now) (g.M.Media.state c.args.media.now)
    replies.BusUndone replies.BusUndone (session_undone own (record session { image = last; job = None }))
    (c.restore.ensures ∙ ap (λ (s : SessionState). session_undone (job_fields c.undo.new.pending) s) image_is
    ∙ ap (λ (j : JobFields). session_undone j (record session { image = last; job = None })) as_kept)
    refl
    (whole_undone session (g.R.Regs.state c.args.regs.now) (g.R.Regs.state c.make.new.regs) own c.in-Some.ensures.job made left goes c.pending_jobs_settle.ensures.back
    (g.R.Regs.state c.undo.new.regs) kept last (omega (arith, part.1, total)) (on_err c.make.result failed c.make.ensures.failed) back (g.M.Media.state c.args.media.now)
    (on_ok c.undo.result taken c.undo.ensures.all) (on_ok c.undo.result taken c.undo.ensures.unfailed))

pub returns-in_default-clause-refused : goal.returns-in_default-clause-refused
returns-in_default-clause-refused g c = λ refused own is none. absurd (none-some own (sym c.in_default.ensures.job ∙ is))

pub returns-clause-refused : goal.returns-clause-refused
returns-clause-refused g c = λ refused other is none.
    let session : SessionState = c.args.self.now in
    let own : JobFields = job_fields c.in-Some.pending in
    let left : List Registers = c.make.new.self.image in
    let made : ℕ = c.make.new.pending.job.done in
    let goes : IsMadeTo own made session.image left (g.R.Regs.state c.args.regs.now) (g.R.Regs.state c.make.new.regs) =
    subst (λ (blocks : List Registers). IsMadeTo own made blocks left (g.R.Regs.state c.args.regs.now) (g.R.Regs.state c.make.new.regs))
    (ap (λ (s : SessionState). s.image) c.take_job.ensures.taken) c.make.ensures.made in
    let total = c.total-total.ensures in
    let failed = on_fail c.make.result (sym c.is_ok.ensures.value ∙ c.if-is_ok.false) in
    let part = on_err c.make.result failed c.make.ensures.part in
    let last : List Registers = c.undo.new.self.image in
    let kept : ℕ = c.undo.new.pending.job.done in
    let as_made : job_fields c.make.new.pending ≡ record own { done = made } = c.make.ensures.job in
    let back : IsTakenBackTo (record own { done = made }) kept left last (g.R.Regs.state c.make.new.regs) (g.R.Regs.state c.undo.new.regs) =
    subst (λ (j : JobFields). IsTakenBackTo j kept left last (g.R.Regs.state c.make.new.regs) (g.R.Regs.state c.undo.new.regs)) as_made c.undo.ensures.back in
    let as_kept : job_fields c.undo.new.pending ≡ record own { done = kept } = c.undo.ensures.job ∙ ap (λ (j : JobFields). record j { done = kept }) as_made in
    let image_is : c.undo.new.self ≡ record session { image = last; job = None } =
    c.undo.ensures.image ∙ ap (λ (s : SessionState). record s { image = last }) (c.make.ensures.image ∙ ap (λ (s : SessionState). record s { image = left }) c.take_job.ensures.taken) in
    let taken = sym c.is_err.ensures.value ∙ c.if-is_err.false in
    let same : other ≡ own = same_Some other own (sym is ∙ c.in-Some.ensures.job) in
    let again = whole_undone_again session (g.R.Regs.state c.args.regs.now) (g.R.Regs.state c.make.new.regs) own c.in-Some.ensures.job made left goes c.pending_jobs_settle.ensures.back
    (g.R.Regs.state c.undo.new.regs) kept last (omega (arith, part.1, total)) (on_err c.make.result failed c.make.ensures.failed) back (g.M.Media.state c.args.media.now)
    c.requires.0 c.requires.1 c.requires.2 (ap (λ (j : JobFields). j.done) (sym same) ∙ none) (on_ok c.undo.result taken c.undo.ensures.all) in (
      c.restore.ensures ∙ ap (λ (s : SessionState). session_undone (job_fields c.undo.new.pending) s) image_is
          ∙ ap (λ (j : JobFields). session_undone j (record session { image = last; job = None })) as_kept ∙ again.0 ∙ ap (λ (j : JobFields). session_undone j session) (sym same),
      again.1,
      refl,
    )

pub restore-requires-clause-room : goal.restore-requires-clause-room
restore-requires-clause-room g c =
    let session : SessionState = c.args.self.now in
    let own : JobFields = job_fields c.in-Some.pending in
    let left : List Registers = c.make.new.self.image in
    let last : List Registers = c.undo.new.self.image in
    let image_is : c.undo.new.self ≡ record session { image = last; job = None } =
    c.undo.ensures.image ∙ ap (λ (s : SessionState). record s { image = last }) (c.make.ensures.image ∙ ap (λ (s : SessionState). record s { image = left }) c.take_job.ensures.taken) in
    let m : Machine = c.requires.0 in
    let job : RegionJob = c.requires.1 in
    let at = c.requires.2 in
    let same = own_job_for session own c.in-Some.ensures.job (begun job m) job refl at.stands.job in
    subst (λ (s : SessionState). length s.names < region_limit) (sym image_is) (has_room session (begun job m) own job at.stands at.sound.machine refl same)

pub restore-requires-clause-place : goal.restore-requires-clause-place
restore-requires-clause-place g c =
    let session : SessionState = c.args.self.now in
    let own : JobFields = job_fields c.in-Some.pending in
    let left : List Registers = c.make.new.self.image in
    let made : ℕ = c.make.new.pending.job.done in
    let last : List Registers = c.undo.new.self.image in
    let kept : ℕ = c.undo.new.pending.job.done in
    let as_made : job_fields c.make.new.pending ≡ record own { done = made } = c.make.ensures.job in
    let as_kept : job_fields c.undo.new.pending ≡ record own { done = kept } = c.undo.ensures.job ∙ ap (λ (j : JobFields). record j { done = kept }) as_made in
    let image_is : c.undo.new.self ≡ record session { image = last; job = None } =
    c.undo.ensures.image ∙ ap (λ (s : SessionState). record s { image = last }) (c.make.ensures.image ∙ ap (λ (s : SessionState). record s { image = left }) c.take_job.ensures.taken) in
    let m : Machine = c.requires.0 in
    let job : RegionJob = c.requires.1 in
    let at = c.requires.2 in
    let same = own_job_for session own c.in-Some.ensures.job (begun job m) job refl at.stands.job in
    subst (λ (s : SessionState). IfSome (job_fields c.undo.new.pending).place (λ place. place ≤ length s.names)) (sym image_is)
    (subst (λ (j : JobFields). IfSome j.place (λ place. place ≤ length session.names)) (sym as_kept) (has_place session (begun job m) own job at.stands at.sound.machine refl same))

pub make-requires-clause-idle : goal.make-requires-clause-idle
make-requires-clause-idle g c = ap (λ (s : SessionState). s.job) c.take_job.ensures.taken

pub make-requires-clause-words : goal.make-requires-clause-words
make-requires-clause-words g c = subst (λ (blocks : List Registers). HasWordsOf blocks c.in-Some.pending.job.writes) (sym (ap (λ (s : SessionState). s.image) c.take_job.ensures.taken)) c.in-Some.ensures.words

pub make-requires-clause-same : goal.make-requires-clause-same
make-requires-clause-same g c = sym (image_held c.args.self.now (g.R.Regs.state c.args.regs.now) (g.M.Media.state c.args.media.now) (begun c.requires.1 c.requires.0, c.requires.2)) ∙ sym (ap (λ (s : SessionState). s.image) c.take_job.ensures.taken)

pub undo-requires : goal.undo-requires
undo-requires g c = record { idle = ap (λ (s : SessionState). s.job) c.make.ensures.image ∙ ap (λ (s : SessionState). s.job) c.take_job.ensures.taken; words = c.make.ensures.kept_words; same = c.make.ensures.made.same }

pub leave-requires : goal.leave-requires
leave-requires g c = c.undo.ensures.kept_words

pub finish-requires-clause-idle : goal.finish-requires-clause-idle
finish-requires-clause-idle g c = ap (λ (s : SessionState). s.job) c.make.ensures.image ∙ ap (λ (s : SessionState). s.job) c.take_job.ensures.taken

pub restore-requires-clause-idle : goal.restore-requires-clause-idle
restore-requires-clause-idle g c = ap (λ (s : SessionState). s.job) c.undo.ensures.image ∙ ap (λ (s : SessionState). s.job) c.make.ensures.image ∙ ap (λ (s : SessionState). s.job) c.take_job.ensures.taken

pub returns-in_default-clause-host : goal.returns-in_default-clause-host
returns-in_default-clause-host g c =
    let topo = λ (s : SessionState). s.topo in
    let windows = λ (s : SessionState). s.windows in
    (ap topo c.take_job.ensures.taken, ap windows c.take_job.ensures.taken)

pub returns-in_default-clause-counts : goal.returns-in_default-clause-counts
returns-in_default-clause-counts g c = le_refl (g.R.Regs.state c.args.regs.now).faults

pub returns-then-is_ok-clause-refused : goal.returns-then-is_ok-clause-refused
returns-then-is_ok-clause-refused g c = λ is. absurd (end_unrefused (job_fields c.make.new.pending) c.finish.result c.finish.ensures.reply is)

pub returns-then-is_ok-clause-host : goal.returns-then-is_ok-clause-host
returns-then-is_ok-clause-host g c =
    let topo = λ (s : SessionState). s.topo in
    let windows = λ (s : SessionState). s.windows in
    (ap topo c.finish.ensures.session ∙ ap topo c.make.ensures.image ∙ ap topo c.take_job.ensures.taken, ap windows c.finish.ensures.session ∙ ap windows c.make.ensures.image ∙ ap windows c.take_job.ensures.taken)

pub returns-then-is_ok-clause-counts : goal.returns-then-is_ok-clause-counts
returns-then-is_ok-clause-counts g c = c.make.ensures.made.counts

pub returns-then-is_err-clause-refused : goal.returns-then-is_err-clause-refused
returns-then-is_err-clause-refused g c = λ is. absurd (left_unrefused _ _ _ c.leave.result c.leave.ensures.reply is)

pub returns-then-is_err-clause-host : goal.returns-then-is_err-clause-host
returns-then-is_err-clause-host g c =
    let topo = λ (s : SessionState). s.topo in
    let windows = λ (s : SessionState). s.windows in
    (ap topo c.leave.ensures.job ∙ ap topo c.undo.ensures.image ∙ ap topo c.make.ensures.image ∙ ap topo c.take_job.ensures.taken, ap windows c.leave.ensures.job ∙ ap windows c.undo.ensures.image ∙ ap windows c.make.ensures.image ∙ ap windows c.take_job.ensures.taken)

pub returns-then-is_err-clause-counts : goal.returns-then-is_err-clause-counts
returns-then-is_err-clause-counts g c = le_trans c.make.ensures.made.counts c.undo.ensures.back.counts

pub returns-clause-host : goal.returns-clause-host
returns-clause-host g c =
    let topo = λ (s : SessionState). s.topo in
    let windows = λ (s : SessionState). s.windows in
    (ap topo c.restore.ensures ∙ ap topo c.undo.ensures.image ∙ ap topo c.make.ensures.image ∙ ap topo c.take_job.ensures.taken, ap windows c.restore.ensures ∙ ap windows c.undo.ensures.image ∙ ap windows c.make.ensures.image ∙ ap windows c.take_job.ensures.taken)

pub returns-clause-counts : goal.returns-clause-counts
returns-clause-counts g c = le_trans c.make.ensures.made.counts c.undo.ensures.back.counts

pub finish-requires-clause-room : goal.finish-requires-clause-room
finish-requires-clause-room g c =
    let session : SessionState = c.args.self.now in
    let own : JobFields = job_fields c.in-Some.pending in
    let m : Machine = c.requires.0 in
    let job : RegionJob = c.requires.1 in
    let at = c.requires.2 in
    let same = own_job_for session own c.in-Some.ensures.job (begun job m) job refl at.stands.job in
    subst (λ (names : List (List ℕ)). length names < region_limit) (sym (ap (λ (s : SessionState). s.names) c.make.ensures.image ∙ ap (λ (s : SessionState). s.names) c.take_job.ensures.taken))
    (has_room session (begun job m) own job at.stands at.sound.machine refl same)
