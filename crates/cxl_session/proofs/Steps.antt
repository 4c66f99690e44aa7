-- The turns of a step: the job ends, is pending with more writes made, or is left where the bus failed.
use Rattle.std.proofs.Common.{◌≡◌, ℕ, ◌+◌, ◌<◌, ◌≤◌, min, Bool, true, false, if◌then◌else◌, List, [], ◌∷◌, length, Option, Some, None, refl, sym, ap, ◌∙◌, subst, arith}
use Rattle.std.specs.Prelude.{nat_le}
use Rattle.std.proofs.lemmas.Bool.{le-leb, lt-leb, false≢true}
use Rattle.cxl_regs.specs.Registers.{Registers}
use Rattle.cxl_bus.specs.declared.sent.Sent.{Sent}
use Rattle.cxl_bus.specs.Failed.{HasFailed}
use Rattle.cxl_bus.specs.RegsState.{RegsState}
use Rattle.cxl_bus.specs.Trail.{trail_with}
use Rattle.cxl_media.specs.MediaState.{MediaState}
use Rattle.cxl_script.specs.declared.command.Command.TheVariants as commands
use Rattle.cxl_model.specs.declared.found.Found.{Found}
use Rattle.cxl_apply.specs.declared.write.Write.{Write}
use Rattle.cxl_apply.specs.Jobs.{blocks_done}
use Rattle.cxl_apply.specs.WordsSent.{words_made}
use Rattle.cxl_reply.specs.declared.reply.Reply.{Reply}
use Rattle.cxl_reply.specs.declared.reply.Reply.TheVariants as replies
use Rattle.cxl_machine.specs.Machine.{RegionJob, JobKind, Creates, Releases, Machine}
use Rattle.cxl_machine.specs.Jobs.{total_of, at_done, finished, settled_by}
use Rattle.cxl_machine.specs.Outcomes.{NoFault, LeftPending}
use Rattle.cxl_machine.specs.Regions.{Steps, OfPending, pending_reply, ended_answer, ended_reply, stepped_answer}
use Rattle.cxl_machine.specs.Replies.{Answer, becomes, is_refusal}
use Rattle.cxl_machine.specs.Scripts.{Turn, answer_of}
use Rattle.cxl_machine.specs.Trails.{SendsSteps, SendsPending, forward}
use Rattle.cxl_session.specs.State.{JobFields, SessionState}
use Rattle.cxl_session.specs.Standing.{IsAt, IsJobFor, released_place}
use Rattle.cxl_session.specs.inner.Answering.{IsTurnFor}
use Rattle.cxl_session.specs.inner.Regions.{session_finished, named_region, finished_reply, ended_as, IsMadeTo, IsLeftByEnd, IsLeftBy}
use Rattle.cxl_session.proofs.Ends.{EndLaws, finished_stands}
use Rattle.cxl_session.proofs.Finished.{MediaLaws, finished_sound}
use Rattle.cxl_session.proofs.PendingJobs.{no_job, same_job, image_holds, at_done_stands, at_done_sound}
use Rattle.cxl_session.proofs.Turns.{still}

pub none_stepped : (session : SessionState) (regs : RegsState) (media : MediaState) (steps : ℕ) → session.job ≡ None → IsTurnFor session session regs regs media media (commands.Step steps) replies.NothingPending
none_stepped session regs media steps none = still session regs media (commands.Step steps) replies.NothingPending
    (λ m at.
    let idle : m.job ≡ None = no_job m session.job none m.job at.stands.job in
    let same : Answer = record { reply = replies.NothingPending; machine = m } in (
      subst (λ (o : Option RegionJob). OfPending m o NoFault same (λ (j : RegionJob). Steps m j steps NoFault same)) (sym idle) (record { unfailing = refl; told = refl }),
      subst (λ (o : Option RegionJob). SendsPending o [] (λ (j : RegionJob). SendsSteps j steps NoFault [])) (sym idle) refl,
    ))

pub ended_kind : (job : RegionJob) (own : JobFields) (kind : JobKind) → own.name ≡ job.region.name → own.found ≡ job.region.found → ended_as (released_place kind) own ≡ ended_reply job kind
ended_kind job own (Creates rows) name found =
    ap (λ (n : List ℕ). replies.Created (named_region n own.found)) name ∙ ap (λ (f : Found). replies.Created (named_region job.region.name f)) found
ended_kind job own (Releases place) name found = ap replies.Destroyed name

-- the reply of its end is the same however many writes are made
pub reply_same : (own : JobFields) (done : ℕ) → finished_reply (record own { done = done }) ≡ finished_reply own
reply_same own done = go own.place
  where
    go : (place : Option ℕ) → ended_as place (record own { done = done }) ≡ ended_as place own
    go None = refl
    go (Some place) = refl

module _ (session : SessionState) (old new : RegsState) (own : JobFields) (here : session.job ≡ Some own) (steps made : ℕ) (left : List Registers) (goes : IsMadeTo own made session.image left old new) where
  module _ (media : MediaState) (m : Machine) (at : IsAt session old media m) (job : RegionJob) (pending : m.job ≡ Some job) (same : IsJobFor m own job) where
    left_is : left ≡ blocks_done m.settled.blocks own.writes made
    left_is = goes.on_way m.settled.blocks (image_holds session m own job at.stands pending same)

    same_words : words_made own.writes own.done made ≡ forward job job.done made
    same_words = ap (λ (ws : List Write). words_made ws own.done made) same.writes ∙ ap (λ (n : ℕ). words_made job.writes n made) same.done

    words_are : new.trail ≡ trail_with old.trail (forward job job.done made)
    words_are = goes.sent ∙ ap (trail_with old.trail) same_words

    total_is : length own.writes ≡ total_of job
    total_is = ap (λ (ws : List Write). length ws) same.writes

  -- the bus failed before all of them were made
  pub left_stepped : (media : MediaState) → own.done ≤ made → made < min (own.done + steps) (length own.writes) → HasFailed old new (length (words_made own.writes own.done made) ∷ [])
      → IsTurnFor session (record session { image = left; job = Some (record own { done = made }) }) old new media media (commands.Step steps)
      (replies.BusPending record { name = own.name; done = made; total = length own.writes })
  left_stepped media some part fails m at =
      let (job, pending, same) = same_job m own session.job here m.job at.stands.job in
      let turn : Turn = record { reply = pending_reply job made; machine = at_done job made m; trail = forward job job.done made; failed = length (forward job job.done made) ∷ [] } in
      let total = total_is media m at job pending same in
      let done = same.done in
      let is = left_is media m at job pending same in (
        turn,
        (
          LeftPending made,
          subst (λ (o : Option RegionJob). OfPending m o (LeftPending made) (answer_of turn) (λ (j : RegionJob). Steps m j steps (LeftPending made) (answer_of turn))) (sym pending)
              (record { kept = omega (arith, some, done); part = omega (arith, part, done, total) }, refl),
          subst (λ (o : Option RegionJob). SendsPending o turn.trail (λ (j : RegionJob). SendsSteps j steps (LeftPending made) turn.trail)) (sym pending) refl,
          refl,
        ),
        record {
          told =
              ap (λ (name : List ℕ). replies.BusPending record { name = name; done = made; total = length own.writes }) same.name
              ∙ ap (λ (n : ℕ). replies.BusPending record { name = job.region.name; done = made; total = n }) total;
          at = record {
            stands = at_done_stands session m own job at.stands pending same made left is;
            sound = at_done_sound session m own job at.stands pending same old.blocks new.blocks media at.sound made (omega (arith, part, total)) (goes.same ∙ is);
          };
          words = words_are media m at job pending same;
          fails = subst (λ (words : List Sent). HasFailed old new (length words ∷ [])) (same_words media m at job pending same) fails;
        },
      )

  -- so many more are made, and not all
  pub stepped : (media : MediaState) → made ≡ own.done + steps → made < length own.writes → HasFailed old new []
      → IsTurnFor session (record session { image = left; job = Some (record own { done = made }) }) old new media media (commands.Step steps)
      (replies.Stepped record { done = made; total = length own.writes })
  stepped media all part fails m at =
      let (job, pending, same) = same_job m own session.job here m.job at.stands.job in
      let turn : Turn = record { reply = replies.Stepped record { done = made; total = total_of job }; machine = at_done job made m; trail = forward job job.done made; failed = [] } in
      let total = total_is media m at job pending same in
      let done = same.done in
      let is = left_is media m at job pending same in
      let upto : made ≡ job.done + steps = omega (arith, all, done) in
      let more : nat_le (total_of job) (job.done + steps) ≡ false = lt-leb (total_of job) (job.done + steps) (omega (arith, upto, part, total)) in
      let answered : answer_of turn ≡ stepped_answer m job steps =
      ap (λ (n : ℕ). becomes (at_done job n m) (replies.Stepped record { done = n; total = total_of job })) upto
      ∙ ap (λ (b : Bool). if b then ended_answer job m else becomes (at_done job (job.done + steps) m) (replies.Stepped record { done = job.done + steps; total = total_of job })) (sym more) in (
        turn,
        (
          NoFault,
          subst (λ (o : Option RegionJob). OfPending m o NoFault (answer_of turn) (λ (j : RegionJob). Steps m j steps NoFault (answer_of turn))) (sym pending) answered,
          subst (λ (o : Option RegionJob). SendsPending o turn.trail (λ (j : RegionJob). SendsSteps j steps NoFault turn.trail)) (sym pending)
              (ap (λ (n : ℕ). forward job job.done n) (let e : made ≡ min (job.done + steps) (total_of job) = omega (arith, upto, part, total) in e)),
          refl,
        ),
        record {
          told = ap (λ (n : ℕ). replies.Stepped record { done = made; total = n }) total;
          at = record {
            stands = at_done_stands session m own job at.stands pending same made left is;
            sound = at_done_sound session m own job at.stands pending same old.blocks new.blocks media at.sound made (omega (arith, part, total)) (goes.same ∙ is);
          };
          words = words_are media m at job pending same;
          fails = fails;
        },
      )

  -- all are made, and the job ends
  pub ended : EndLaws → MediaLaws → (media after : MediaState) → made ≡ length own.writes → length own.writes ≤ own.done + steps → HasFailed old new []
      → IsLeftByEnd own media after
      → IsTurnFor session (session_finished own (record session { image = left; job = None })) old new media after (commands.Step steps) (finished_reply own)
  ended laws media_laws media after all past fails ends m at =
      let (job, pending, same) = same_job m own session.job here m.job at.stands.job in
      let turn : Turn = record { reply = ended_reply job job.kind; machine = finished job m; trail = forward job job.done made; failed = [] } in
      let total = total_is media m at job pending same in
      let done = same.done in
      let is : left ≡ blocks_done m.settled.blocks own.writes (length own.writes) = left_is media m at job pending same ∙ ap (blocks_done m.settled.blocks own.writes) all in
      let last : nat_le (total_of job) (job.done + steps) ≡ true = le-leb (total_of job) (job.done + steps) (omega (arith, past, total, done)) in
      let settled : left ≡ (settled_by job job.kind m.settled).blocks = is ∙ ap (λ (ws : List Write). blocks_done m.settled.blocks ws (length ws)) same.writes ∙ laws.ends m job at.sound.machine pending in
      let answered : answer_of turn ≡ stepped_answer m job steps =
      ap (λ (b : Bool). if b then ended_answer job m else becomes (at_done job (job.done + steps) m) (replies.Stepped record { done = job.done + steps; total = total_of job })) (sym last) in (
        turn,
        (
          NoFault,
          subst (λ (o : Option RegionJob). OfPending m o NoFault (answer_of turn) (λ (j : RegionJob). Steps m j steps NoFault (answer_of turn))) (sym pending) answered,
          subst (λ (o : Option RegionJob). SendsPending o turn.trail (λ (j : RegionJob). SendsSteps j steps NoFault turn.trail)) (sym pending)
              (ap (λ (n : ℕ). forward job job.done n) (let e : made ≡ min (job.done + steps) (total_of job) = omega (arith, all, past, total, done) in e)),
          refl,
        ),
        record {
          told = ap (λ (o : Option ℕ). ended_as o own) same.place ∙ ended_kind job own job.kind same.name same.found;
          at = record {
            stands = finished_stands laws session m own job at.stands at.sound.machine pending same left is;
            sound =
                finished_sound media_laws m at.sound.machine job pending media after old.blocks new.blocks at.sound (laws.finished m job at.sound.machine pending)
                (subst (λ (o : Option ℕ). IsLeftBy o job.region.found media after) same.place (subst (λ (f : Found). IsLeftBy own.place f media after) same.found ends))
                (goes.same ∙ settled);
          };
          words = words_are media m at job pending same;
          fails = fails;
        },
      )

-- ---- what is no refusal

done_unrefused : (place : Option ℕ) (own : JobFields) → is_refusal (ended_as place own) ≡ true → ⊥
done_unrefused None own is = false≢true is
done_unrefused (Some place) own is = false≢true is

pub end_unrefused : (own : JobFields) (reply : Reply) → reply ≡ finished_reply own → is_refusal reply ≡ true → ⊥
end_unrefused own reply told is = done_unrefused own.place own (sym (ap is_refusal told) ∙ is)

pub left_unrefused : (name : List ℕ) (done total : ℕ) (reply : Reply) → reply ≡ replies.BusPending record { name = name; done = done; total = total } → is_refusal reply ≡ true → ⊥
left_unrefused name done total reply told is = false≢true (sym (ap is_refusal told) ∙ is)
