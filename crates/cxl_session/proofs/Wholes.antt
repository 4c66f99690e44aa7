-- A job that was begun is carried out: it ends, is undone, or stays pending where that fails too.
use Rattle.std.proofs.Common.{◌≡◌, ℕ, ◌+◌, ◌<◌, ◌≤◌, List, [], ◌∷◌, ◌++◌, length, Option, Some, None, Result, Err, refl, sym, ap, ◌∙◌, subst, arith, length-append}
use Rattle.std.specs.Prelude.{slice_get}
use Rattle.cxl_regs.specs.Registers.{Registers}
use Rattle.cxl_bus.specs.declared.sent.Sent.{Sent}
use Rattle.cxl_bus.proofs.Failed.{fails_both}
use Rattle.cxl_bus.specs.Failed.{HasFailed}
use Rattle.cxl_bus.specs.RegsState.{RegsState}
use Rattle.cxl_bus.specs.Trail.{trail_with}
use Rattle.cxl_bus.proofs.Trails.{trail_append}
use Rattle.cxl_media.specs.MediaState.{MediaState}
use Rattle.cxl_script.specs.declared.command.Command.TheVariants as commands
use Rattle.cxl_model.specs.declared.found.Found.{Found}
use Rattle.cxl_apply.specs.declared.write.Write.{Write}
use Rattle.cxl_apply.specs.Jobs.{AreTakenBack, blocks_done}
use Rattle.cxl_apply.specs.WordsSent.{words_made, words_taken_back}
use Rattle.cxl_reply.specs.declared.reply.Reply.{Reply}
use Rattle.cxl_reply.specs.declared.reply.Reply.TheVariants as replies
use Rattle.cxl_machine.specs.Machine.{Live, RegionJob, Machine}
use Rattle.cxl_machine.specs.Jobs.{total_of, release_job, begun, at_done, finished, undone, settled_by}
use Rattle.cxl_machine.specs.Outcomes.{NoFault, Undone, LeftPending}
use Rattle.cxl_machine.specs.Regions.{AnswersWhole, pending_reply, ended_reply}
use Rattle.cxl_machine.specs.Replies.{stays}
use Rattle.cxl_machine.specs.Requests.{asked_release}
use Rattle.cxl_machine.specs.Sound.{IsMachine}
use Rattle.cxl_machine.specs.Scripts.{Turn, answer_of}
use Rattle.cxl_machine.specs.Fails.{FailsAsked}
use Rattle.cxl_machine.specs.Trails.{forward, backward, GoesBackTo, SendsAsked}
use Rattle.cxl_machine.proofs.WordsSent.{made_count}
use Rattle.cxl_session.specs.State.{JobFields, SessionState}
use Rattle.cxl_session.specs.Standing.{StandsFor, IsAt, IsJobFor, HasSameJob}
use Rattle.cxl_session.specs.declared.requests.Release.{Release}
use Rattle.cxl_session.specs.inner.Answering.{IsTurnFor}
use Rattle.cxl_session.specs.inner.Requests.{IsNamedRelease}
use Rattle.cxl_session.specs.inner.Regions.{session_undone, session_finished, finished_reply, ended_as, IsMadeTo, IsTakenBackTo, IsLeftByEnd, IsLeftBy, IsWholeFor}
use Rattle.cxl_session.proofs.Aborts.{BackLaw}
use Rattle.cxl_session.proofs.Ends.{EndLaws, finished_stands}
use Rattle.cxl_session.proofs.Finished.{MediaLaws, finished_sound}
use Rattle.cxl_session.proofs.PendingJobs.{image_holds, at_done_stands, at_done_sound, undone_stands, undone_sound}
use Rattle.cxl_session.proofs.Steps.{ended_kind}
use Rattle.cxl_session.proofs.Turns.{still}
use Rattle.cxl_session.proofs.Undoing.{insert-remove}

-- the session's job is the machine's
pub own_job_for : (session : SessionState) (own : JobFields) → session.job ≡ Some own → (n : Machine) (job : RegionJob) → n.job ≡ Some job → HasSameJob n session.job n.job → IsJobFor n own job
own_job_for session own here n job pending same =
    subst (λ (o : Option JobFields). HasSameJob n o (Some job)) here (subst (HasSameJob n session.job) pending same)

module _ (session : SessionState) (old mid : RegsState) (own : JobFields) (here : session.job ≡ Some own) (made : ℕ) (left : List Registers) (goes : IsMadeTo own made session.image left old mid) where
  module _ (media : MediaState) (m : Machine) (job : RegionJob) (at : IsAt session old media (begun job m)) (fresh : job.done ≡ 0) where
    abbrev n : Machine
    n = begun job m

    same : IsJobFor n own job
    same = own_job_for session own here n job refl at.stands.job

    left_is : left ≡ blocks_done n.settled.blocks own.writes made
    left_is = goes.on_way n.settled.blocks (image_holds session n own job at.stands refl same)

    done_is : own.done ≡ 0
    done_is = same.done ∙ fresh

    total_is : length own.writes ≡ total_of job
    total_is = ap (λ (ws : List Write). length ws) same.writes

    words_are : mid.trail ≡ trail_with old.trail (forward job 0 made)
    words_are =
        goes.sent ∙ ap (λ (ws : List Write). trail_with old.trail (words_made ws own.done made)) same.writes
        ∙ ap (λ (k : ℕ). trail_with old.trail (words_made job.writes k made)) done_is

  -- all writes are made
  pub whole_ended : EndLaws → MediaLaws → (media after : MediaState) → made ≡ length own.writes → HasFailed old mid [] → IsLeftByEnd own media after
      → IsWholeFor session (session_finished own (record session { image = left; job = None })) old mid media after (finished_reply own)
  whole_ended laws media_laws media after all fails ends m job at fresh again =
      let own_same = same media m job at fresh in
      let total = total_is media m job at fresh in
      let is : left ≡ blocks_done m.settled.blocks own.writes (length own.writes) = left_is media m job at fresh ∙ ap (blocks_done m.settled.blocks own.writes) all in
      let settled : left ≡ (settled_by job job.kind m.settled).blocks =
      is ∙ ap (λ (ws : List Write). blocks_done m.settled.blocks ws (length ws)) own_same.writes ∙ laws.ends (begun job m) job at.sound.machine refl in
      let turn : Turn = record { reply = ended_reply job job.kind; machine = finished job (begun job m); trail = forward job 0 (total_of job); failed = [] } in (
        turn,
        NoFault,
        refl,
        refl,
        refl,
        record {
          told = ap (λ (o : Option ℕ). ended_as o own) own_same.place ∙ ended_kind job own job.kind own_same.name own_same.found;
          at = record {
            stands = finished_stands laws session (begun job m) own job at.stands at.sound.machine refl own_same left is;
            sound =
                finished_sound media_laws (begun job m) at.sound.machine job refl media after old.blocks mid.blocks at.sound (laws.finished (begun job m) job at.sound.machine refl)
                (subst (λ (o : Option ℕ). IsLeftBy o job.region.found media after) own_same.place (subst (λ (f : Found). IsLeftBy own.place f media after) own_same.found ends))
                (goes.same ∙ settled);
          };
          words = words_are media m job at fresh ∙ ap (λ (k : ℕ). trail_with old.trail (forward job 0 k)) (all ∙ total);
          fails = fails;
        },
      )

  -- the bus failed, and the writes that were made are taken back, all or down to so many
  module _ (law : BackLaw) (new : RegsState) (kept : ℕ) (last : List Registers) (part : made < length own.writes) (stops : HasFailed old mid (length (words_made own.writes own.done made) ∷ []))
      (back : IsTakenBackTo (record own { done = made }) kept left last mid new) where
    module _ (media : MediaState) (m : Machine) (job : RegionJob) (at : IsAt session old media (begun job m)) (fresh : job.done ≡ 0) where
      last_is : last ≡ blocks_done m.settled.blocks own.writes kept
      last_is =
          back.on_way m.settled.blocks (subst (AreTakenBack m.settled.blocks) (sym (same media m job at fresh).writes) (law (begun job m) job at.sound.machine refl)) (left_is media m job at fresh)

      both_words : new.trail ≡ trail_with old.trail (forward job 0 made ++ backward job kept made)
      both_words =
          back.sent ∙ ap (λ (ws : List Write). trail_with mid.trail (words_taken_back ws kept made)) (same media m job at fresh).writes
          ∙ ap (λ (t : Option (List Sent)). trail_with t (backward job kept made)) (words_are media m job at fresh)
          ∙ trail_append old.trail (forward job 0 made) (backward job kept made)

      -- the first write that was not made failed
      stops_at : HasFailed old mid (made ∷ [])
      stops_at =
          let none = done_is media m job at fresh in
          let long = made_count m.settled.blocks own.writes own.done made (omega (arith, part)) in
          let place : length (words_made own.writes own.done made) ≡ made = omega (arith, long, none) in
          subst (λ (n : ℕ). HasFailed old mid (n ∷ [])) place stops

      undone_fails : HasFailed mid new [] → HasFailed old new (made ∷ [])
      undone_fails = fails_both old mid new (forward job 0 made) (made ∷ []) [] (words_are media m job at fresh) stops_at

      left_fails : HasFailed mid new (length (words_taken_back own.writes kept made) ∷ []) → HasFailed old new (made ∷ length (forward job 0 made ++ backward job kept made) ∷ [])
      left_fails last_fails =
          let place : length (forward job 0 made) + length (words_taken_back own.writes kept made) ≡ length (forward job 0 made ++ backward job kept made) =
          ap (λ (ws : List Write). length (forward job 0 made) + length (words_taken_back ws kept made)) (same media m job at fresh).writes
          ∙ sym (length-append (forward job 0 made) (backward job kept made)) in
          subst (λ (n : ℕ). HasFailed old new (made ∷ n ∷ [])) place
          (fails_both old mid new (forward job 0 made) (made ∷ []) (length (words_taken_back own.writes kept made) ∷ []) (words_are media m job at fresh) stops_at last_fails)

    pub whole_undone : (media : MediaState) → kept ≡ 0 → HasFailed mid new []
        → IsWholeFor session (session_undone own (record session { image = last; job = None })) old new media media replies.BusUndone
    whole_undone media all fails m job at fresh again =
        let own_same = same media m job at fresh in
        let total = total_is media m job at fresh in
        let is : last ≡ m.settled.blocks = last_is media m job at fresh ∙ ap (blocks_done m.settled.blocks own.writes) all in
        let turn : Turn = record { reply = replies.BusUndone; machine = m; trail = forward job 0 made ++ backward job 0 made; failed = made ∷ [] } in
        let turns : GoesBackTo job 0 turn.trail = record { turn = made; some = omega arith; part = omega (arith, part, total); sent = refl } in (
          turn,
          Undone,
          refl,
          turns,
          (turns, refl),
          record {
            told = refl;
            at =
                subst (IsAt (session_undone own (record session { image = last; job = None })) new media) again (record {
                  stands = undone_stands session (begun job m) own job at.stands refl own_same last is;
                  sound = undone_sound session (begun job m) own job at.stands refl own_same old.blocks new.blocks media at.sound (back.same ∙ is);
                });
            words = both_words media m job at fresh ∙ ap (λ (k : ℕ). trail_with old.trail (forward job 0 made ++ backward job k made)) all;
            fails = undone_fails media m job at fresh fails;
          },
        )

    -- where no write was made before, session and registers are as they were
    pub whole_undone_again : (media : MediaState) (m : Machine) (job : RegionJob) → IsAt session old media (begun job m) → own.done ≡ 0 → kept ≡ 0
        → (session_undone own (record session { image = last; job = None }) ≡ session_undone own session) × (new.blocks ≡ old.blocks)
    whole_undone_again media m job at none all =
        let fresh : job.done ≡ 0 = sym (own_job_for session own here (begun job m) job refl at.stands.job).done ∙ none in
        let is : last ≡ m.settled.blocks = last_is media m job at fresh ∙ ap (blocks_done m.settled.blocks own.writes) all in
        let image : session.image ≡ m.settled.blocks = at.stands.image ∙ ap (blocks_done m.settled.blocks job.writes) fresh in
        let before : old.blocks ≡ m.settled.blocks = at.sound.registers ∙ ap (blocks_done m.settled.blocks job.writes) fresh in
        (ap (λ (blocks : List Registers). session_undone own (record session { image = blocks; job = None })) (is ∙ sym image), back.same ∙ is ∙ sym before)

    pub whole_left : (media : MediaState) → 1 ≤ kept → kept ≤ made → HasFailed mid new (length (words_taken_back own.writes kept made) ∷ [])
        → IsWholeFor session (record session { image = last; job = Some (record own { done = kept }) }) old new media media
        (replies.BusPending record { name = own.name; done = kept; total = length own.writes })
    whole_left media some few fails m job at fresh again =
        let own_same = same media m job at fresh in
        let total = total_is media m job at fresh in
        let is = last_is media m job at fresh in
        let turn : Turn = record { reply = pending_reply job kept; machine = at_done job kept (begun job m); trail = forward job 0 made ++ backward job kept made; failed = made ∷ length (forward job 0 made ++ backward job kept made) ∷ [] } in
        let turns : GoesBackTo job kept turn.trail = record { turn = made; some = few; part = omega (arith, part, total); sent = refl } in (
          turn,
          LeftPending kept,
          (record { some = some; part = omega (arith, few, part, total) }, refl),
          turns,
          (turns, refl),
          record {
            told =
                ap (λ (name : List ℕ). replies.BusPending record { name = name; done = kept; total = length own.writes }) own_same.name
                ∙ ap (λ (k : ℕ). replies.BusPending record { name = job.region.name; done = kept; total = k }) total;
            at = record {
              stands = at_done_stands session (begun job m) own job at.stands refl own_same kept last is;
              sound = at_done_sound session (begun job m) own job at.stands refl own_same old.blocks new.blocks media at.sound kept (omega (arith, few, part, total)) (back.same ∙ is);
            };
            words = both_words media m job at fresh;
            fails = left_fails media m job at fresh fails;
          },
        )

-- ---- a release that is undone before any write leaves the machine as it was

pub released_again : (m : Machine) (place : ℕ) (region : Live) → m.job ≡ None → slice_get m.live place ≡ Some region
    → undone (release_job m.settled place region) (begun (release_job m.settled place region) m) ≡ m
released_again m place region idle there =
    ap (λ (live : List Live). record m { live = live; job = None }) (insert-remove m.live place region there)
    ∙ ap (λ (o : Option RegionJob). record m { job = o }) (sym idle)

-- ---- a region that is ended

pub destroyed : (session pending next : SessionState) (name : List ℕ) (release : Release) (old new : RegsState) (media left : MediaState) (reply : Reply)
    → ((m : Machine) → StandsFor session m → IsMachine m → IsNamedRelease m name release)
    → ((m : Machine) → IsAt session old media m → (is : IsNamedRelease m name release) → IsAt pending old media (begun (release_job m.settled release.place is.region) m))
    → IsWholeFor pending next old new media left reply → IsTurnFor session next old new media left (commands.Destroy name) reply
destroyed session pending next name release old new media left reply asked begins whole m at =
    let is : IsNamedRelease m name release = asked m at.stands at.sound.machine in
    let job : RegionJob = release_job m.settled release.place is.region in
    let (turn, outcome, carries, sends, fails, taken) = whole m job (begins m at is) refl (released_again m release.place is.region is.idle is.there) in (
      turn,
      (
        outcome,
        subst (λ (a : Result RegionJob Reply). AnswersWhole m a outcome (answer_of turn)) (sym is.asked) carries,
        subst (λ (a : Result RegionJob Reply). SendsAsked a outcome turn.trail) (sym is.asked) sends,
        subst (λ (a : Result RegionJob Reply). FailsAsked a outcome turn.trail turn.failed) (sym is.asked) fails,
      ),
      taken,
    )

pub destroy_refused : (session : SessionState) (name : List ℕ) (refusal : Reply) (regs : RegsState) (media : MediaState)
    → ((m : Machine) → StandsFor session m → IsMachine m → asked_release m name ≡ Err refusal) → IsTurnFor session session regs regs media media (commands.Destroy name) refusal
destroy_refused session name refusal regs media asked = still session regs media (commands.Destroy name) refusal
    (λ m at.
    let none = asked m at.stands at.sound.machine in (
      subst (λ (a : Result RegionJob Reply). AnswersWhole m a NoFault (stays m refusal)) (sym none) (record { unfailing = refl; told = refl }),
      subst (λ (a : Result RegionJob Reply). SendsAsked a NoFault []) (sym none) refl,
    ))

-- ---- the same session and the same reply

module _ (session next : SessionState) (old new : RegsState) (media left : MediaState) (reply other : Reply) where
  pub same_whole : (after : SessionState) → next ≡ after → reply ≡ other → IsWholeFor session after old new media left other → IsWholeFor session next old new media left reply
  same_whole after is told whole =
      subst (λ (s : SessionState). IsWholeFor session s old new media left reply) (sym is)
      (subst (λ (r : Reply). IsWholeFor session after old new media left r) (sym told) whole)
