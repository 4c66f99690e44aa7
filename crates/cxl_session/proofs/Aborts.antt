-- The turn of an abort: the pending job is undone, or some of its writes are not taken back.
use Rattle.std.proofs.Common.{◌≡◌, ℕ, ◌≤◌, List, [], ◌∷◌, length, Option, Some, None, refl, sym, ap, ◌∙◌, subst, arith}
use Rattle.cxl_regs.specs.Registers.{Registers}
use Rattle.cxl_bus.specs.declared.sent.Sent.{Sent}
use Rattle.cxl_bus.specs.Failed.{HasFailed}
use Rattle.cxl_bus.specs.RegsState.{RegsState}
use Rattle.cxl_bus.specs.Trail.{trail_with}
use Rattle.cxl_media.specs.MediaState.{MediaState}
use Rattle.cxl_script.specs.declared.command.Command.TheVariants as commands
use Rattle.cxl_apply.specs.declared.write.Write.{Write}
use Rattle.cxl_apply.specs.Jobs.{AreTakenBack, blocks_done}
use Rattle.cxl_apply.specs.WordsSent.{words_taken_back}
use Rattle.cxl_reply.specs.declared.reply.Reply.TheVariants as replies
use Rattle.cxl_machine.specs.Machine.{RegionJob, Machine}
use Rattle.cxl_machine.specs.Jobs.{at_done, undone}
use Rattle.cxl_machine.specs.Outcomes.{NoFault, LeftPending}
use Rattle.cxl_machine.specs.Regions.{Aborts, OfPending, pending_reply}
use Rattle.cxl_machine.specs.Scripts.{Turn, answer_of}
use Rattle.cxl_machine.specs.Sound.{IsMachine}
use Rattle.cxl_machine.specs.Trails.{SendsAbort, SendsPending, backward}
use Rattle.cxl_machine.proofs.KeepingSteps.{part_of}
use Rattle.cxl_session.specs.State.{JobFields, SessionState}
use Rattle.cxl_session.specs.Standing.{IsAt, IsJobFor}
use Rattle.cxl_session.specs.inner.Answering.{IsTurnFor}
use Rattle.cxl_session.specs.inner.Regions.{session_undone, IsTakenBackTo}
use Rattle.cxl_session.proofs.PendingJobs.{no_job, same_job, image_holds, at_done_stands, at_done_sound, undone_stands, undone_sound}
use Rattle.cxl_session.proofs.Turns.{still}

-- each write of a machine's job is taken back by its back value
abbrev pub BackLaw : Type 0
BackLaw = (m : Machine) (job : RegionJob) → IsMachine m → m.job ≡ Some job → AreTakenBack m.settled.blocks job.writes

-- ---- no job is pending

pub none_aborted : (session : SessionState) (regs : RegsState) (media : MediaState) → session.job ≡ None → IsTurnFor session session regs regs media media commands.Abort replies.NothingPending
none_aborted session regs media none = still session regs media commands.Abort replies.NothingPending
    (λ m at.
    let idle : m.job ≡ None = no_job m session.job none m.job at.stands.job in (
      subst (λ (o : Option RegionJob). OfPending m o NoFault (record { reply = replies.NothingPending; machine = m }) (λ job. Aborts m job NoFault (record { reply = replies.NothingPending; machine = m }))) (sym idle)
          (record { unfailing = refl; told = refl }),
      subst (λ (o : Option RegionJob). SendsPending o [] (λ job. SendsAbort job NoFault [])) (sym idle) refl,
    ))

-- ---- one is

module _ (law : BackLaw) (session : SessionState) (old new : RegsState) (media : MediaState) (own : JobFields) (here : session.job ≡ Some own)
    (kept : ℕ) (left : List Registers) (back : IsTakenBackTo own kept session.image left old new) where
  module _ (m : Machine) (at : IsAt session old media m) (job : RegionJob) (pending : m.job ≡ Some job) (same : IsJobFor m own job) where
    left_is : left ≡ blocks_done m.settled.blocks own.writes kept
    left_is =
        back.on_way m.settled.blocks (subst (AreTakenBack m.settled.blocks) (sym same.writes) (law m job at.sound.machine pending))
        (image_holds session m own job at.stands pending same)

    same_words : words_taken_back own.writes kept own.done ≡ backward job kept job.done
    same_words =
        ap (λ (ws : List Write). words_taken_back ws kept own.done) same.writes ∙ ap (λ (n : ℕ). words_taken_back job.writes kept n) same.done

    words_are : new.trail ≡ trail_with old.trail (backward job kept job.done)
    words_are = back.sent ∙ ap (trail_with old.trail) same_words

  -- some of its writes are not taken back
  pub left_pending : 1 ≤ kept → kept ≤ own.done → HasFailed old new (length (words_taken_back own.writes kept own.done) ∷ [])
      → IsTurnFor session (record session { image = left; job = Some (record own { done = kept }) }) old new media media commands.Abort
      (replies.BusPending record { name = own.name; done = kept; total = length own.writes })
  left_pending some part fails m at =
      let (job, pending, same) = same_job m own session.job here m.job at.stands.job in
      let turn : Turn = record { reply = pending_reply job kept; machine = at_done job kept m; trail = backward job kept job.done; failed = length (backward job kept job.done) ∷ [] } in
      let below = part_of m job at.sound.machine pending in
      let few : kept ≤ job.done = (let done = same.done in omega (arith, part, done)) in
      let is = left_is m at job pending same in (
        turn,
        (
          LeftPending kept,
          subst (λ (o : Option RegionJob). OfPending m o (LeftPending kept) (answer_of turn) (λ (j : RegionJob). Aborts m j (LeftPending kept) (answer_of turn))) (sym pending)
              (record { some = some; part = few }, refl),
          subst (λ (o : Option RegionJob). SendsPending o turn.trail (λ (j : RegionJob). SendsAbort j (LeftPending kept) turn.trail)) (sym pending) refl,
          refl,
        ),
        record {
          told =
              ap (λ (name : List ℕ). replies.BusPending record { name = name; done = kept; total = length own.writes }) same.name
              ∙ ap (λ (ws : List Write). replies.BusPending record { name = job.region.name; done = kept; total = length ws }) same.writes;
          at = record {
            stands = at_done_stands session m own job at.stands pending same kept left is;
            sound = at_done_sound session m own job at.stands pending same old.blocks new.blocks media at.sound kept (omega (arith, few, below)) (back.same ∙ is);
          };
          words = words_are m at job pending same;
          fails = subst (λ (words : List Sent). HasFailed old new (length words ∷ [])) (same_words m at job pending same) fails;
        },
      )

  -- all are
  pub aborted : kept ≡ 0 → HasFailed old new []
      → IsTurnFor session (session_undone own (record session { image = left; job = None })) old new media media commands.Abort (replies.Aborted own.name)
  aborted all fails m at =
      let (job, pending, same) = same_job m own session.job here m.job at.stands.job in
      let turn : Turn = record { reply = replies.Aborted job.region.name; machine = undone job m; trail = backward job 0 job.done; failed = [] } in
      let is : left ≡ m.settled.blocks = left_is m at job pending same ∙ ap (blocks_done m.settled.blocks own.writes) all in (
        turn,
        (
          NoFault,
          subst (λ (o : Option RegionJob). OfPending m o NoFault (answer_of turn) (λ (j : RegionJob). Aborts m j NoFault (answer_of turn))) (sym pending) refl,
          subst (λ (o : Option RegionJob). SendsPending o turn.trail (λ (j : RegionJob). SendsAbort j NoFault turn.trail)) (sym pending) refl,
          refl,
        ),
        record {
          told = ap replies.Aborted same.name;
          at = record {
            stands = undone_stands session m own job at.stands pending same left is;
            sound = undone_sound session m own job at.stands pending same old.blocks new.blocks media at.sound (back.same ∙ is);
          };
          words = words_are m at job pending same ∙ ap (λ (n : ℕ). trail_with old.trail (backward job n job.done)) all;
          fails = fails;
        },
      )
