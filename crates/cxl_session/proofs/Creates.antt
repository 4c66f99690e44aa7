-- A create begins, with no register written; or it is carried out.
use Rattle.std.proofs.Common.{◌≡◌, ℕ, List, [], ◌++◌, length, Ok, Err, Option, Some, None, refl, sym, ap, ◌∙◌, subst}
use Rattle.std.specs.List.Sorted.{IsPermutation}
use Rattle.std.proofs.lemmas.List.Sorted.{IsPermutation-refl}
use Rattle.cxl_bus.proofs.Failed.{fails_nowhere}
use Rattle.cxl_bus.specs.RegsState.{RegsState}
use Rattle.cxl_bus.proofs.Trails.{trail_nothing}
use Rattle.cxl_media.specs.MediaState.{MediaState}
use Rattle.cxl_script.specs.declared.command.Command.TheVariants as commands
use Rattle.cxl_script.specs.declared.command.Create.{Create}
use Rattle.cxl_apply.specs.declared.write.Write.{Write}
use Rattle.cxl_reply.specs.declared.reply.Reply.{Reply}
use Rattle.cxl_reply.specs.declared.reply.Reply.TheVariants as replies
use Rattle.cxl_machine.specs.Machine.{RegionJob, Machine, under_release, blocks_with, kept_regions}
use Rattle.cxl_machine.specs.Jobs.{create_job, total_of, begun, undone}
use Rattle.cxl_machine.specs.Outcomes.{NoFault}
use Rattle.cxl_machine.specs.Regions.{begun_reply}
use Rattle.cxl_machine.specs.Requests.{AsksCreate}
use Rattle.cxl_machine.specs.Scripts.{Turn}
use Rattle.cxl_machine.specs.Sound.{IsMachine}
use Rattle.cxl_session.specs.State.{JobFields, SessionState}
use Rattle.cxl_session.specs.Standing.{StandsFor, IsAt}
use Rattle.cxl_session.specs.inner.Answering.{IsTurnFor}
use Rattle.cxl_session.specs.inner.Creating.{IsKeptCreate}
use Rattle.cxl_session.specs.inner.Regions.{taken_out, session_begun, IsWholeFor, LeavesUndone}
use Rattle.cxl_session.proofs.Rearranged.{IsRearranged, rearranged_sound}
use Rattle.cxl_session.proofs.Turns.{still}
use Rattle.cxl_session.proofs.Undoing.{IsAtPlace, IsBegunFrom, no_own_job, refused_again}

-- a create that a line asks for begins as a machine, where no job was pending
pub record BeginLaws : Type 0 where
  pub machine : (m : Machine) (create : Create) (job : RegionJob) → IsMachine m → AsksCreate m create (Ok job) → IsMachine (begun job m)
  pub idle : (m : Machine) (create : Create) (job : RegionJob) → AsksCreate m create (Ok job) → m.job ≡ None

-- the session with a job pending
abbrev pub with_job : JobFields → SessionState → SessionState
with_job own session = record session { job = Some own }

module _ (laws : BeginLaws) (session : SessionState) (create : Create) (own : JobFields) where
  module _ (m : Machine) (is : IsKeptCreate m create own) where
    abbrev job : RegionJob
    job = create_job m.settled is.plan

    none : m.job ≡ None
    none = laws.idle m create job is.asked

    begun_rearranged : IsRearranged m (begun job m)
    begun_rearranged = record {
      windows = refl;
      frames = refl;
      regions = subst (λ (o : Option RegionJob). IsPermutation (m.live ++ under_release o) (kept_regions (begun job m))) (sym none) (IsPermutation-refl (m.live ++ []));
    }

    begun_stands : StandsFor session m → StandsFor (with_job own session) (begun job m)
    begun_stands stands = record {
      nodes = stands.nodes;
      windows = stands.windows;
      frames = stands.frames;
      image = stands.image ∙ ap (blocks_with m.settled.blocks) none;
      names = stands.names;
      founds = stands.founds;
      kept = stands.kept;
      job = record { place = is.same.place; name = is.same.name; found = is.same.found; writes = is.same.writes; done = is.same.done; kept = is.same.kept };
    }

    pub begun_at : (regs : RegsState) (media : MediaState) → IsAt session regs media m → IsAt (with_job own session) regs media (begun job m)
    begun_at regs media at = record {
      stands = begun_stands at.stands;
      sound =
          rearranged_sound m (begun job m) media begun_rearranged regs.blocks regs.blocks at.sound (laws.machine m create job at.sound.machine is.asked)
          (at.sound.registers ∙ ap (blocks_with m.settled.blocks) none);
    }

    -- undone before any write it leaves the machine as it was
    made_again : undone job (begun job m) ≡ m
    made_again = ap (λ (o : Option RegionJob). record m { job = o }) (sym none)

    -- so it does the session
    begun_from : StandsFor session m → IsBegunFrom session own
    begun_from stands = record {
      idle = no_own_job m session.job m.job none stands.job;
      name = subst (λ (o : Option ℕ). IsAtPlace o own.name session.names) (sym is.same.place) tt;
      found = subst (λ (o : Option ℕ). IsAtPlace o own.found session.founds) (sym is.same.place) tt;
      kept = subst (λ (o : Option ℕ). IsAtPlace o own.kept session.kept) (sym is.same.place) tt;
    }

    begun_as : with_job own session ≡ session_begun own session
    begun_as =
        subst (λ (o : Option ℕ). with_job own session ≡ record session {
          names = taken_out o session.names;
          founds = taken_out o session.founds;
          kept = taken_out o session.kept;
          job = Some own;
        }) (sym is.same.place) refl

    pub undone_before : (next : SessionState) (old new : RegsState) (media left : MediaState) → StandsFor session m → LeavesUndone (with_job own session) next old new media left
        → (next ≡ session) × (new.blocks ≡ old.blocks) × (left ≡ media)
    undone_before next old new media left stands leaves = refused_again session (with_job own session) next own old new media left (begun_from stands) begun_as is.same.done leaves

  module _ (asked : (m : Machine) → StandsFor session m → IsMachine m → IsKeptCreate m create own) where
    -- it is begun
    pub begin_turn : (regs : RegsState) (media : MediaState) (words : ℕ) → words ≡ length own.writes
        → IsTurnFor session (with_job own session) regs regs media media (commands.BeginCreate create) (replies.Begun record { name = own.name; writes = words })
    begin_turn regs media words many m at =
        let is = asked m at.stands at.sound.machine in
        let made : RegionJob = create_job m.settled is.plan in
        let turn : Turn = record { reply = begun_reply made; machine = begun made m; trail = []; failed = [] } in (
          turn,
          (NoFault, (Ok made, is.asked, record { unfailing = refl; told = refl }), refl, refl),
          record {
            told =
                ap (λ (n : ℕ). replies.Begun record { name = own.name; writes = n }) (many ∙ ap (λ (ws : List Write). length ws) is.same.writes)
                ∙ ap (λ (n : List ℕ). replies.Begun record { name = n; writes = total_of made }) is.same.name;
            at = begun_at m is regs media at;
            words = trail_nothing regs.trail;
            fails = fails_nowhere regs;
          },
        )

    -- it is carried out
    pub created : (next : SessionState) (old new : RegsState) (media left : MediaState) (reply : Reply) → IsWholeFor (with_job own session) next old new media left reply
        → IsTurnFor session next old new media left (commands.Create create) reply
    created next old new media left reply whole m at =
        let is = asked m at.stands at.sound.machine in
        let made : RegionJob = create_job m.settled is.plan in
        let (turn, outcome, carries, sends, fails, taken) = whole m made (begun_at m is old media at) refl (made_again m is) in (
          turn,
          (outcome, (Ok made, is.asked, carries), (Ok made, is.asked, sends), (Ok made, is.asked, fails)),
          taken,
        )

-- ---- a create that is refused

module _ (session : SessionState) (create : Create) (refusal : Reply) (asked : (m : Machine) → StandsFor session m → IsMachine m → AsksCreate m create (Err refusal)) (regs : RegsState) (media : MediaState) where
  pub begin_refused : IsTurnFor session session regs regs media media (commands.BeginCreate create) refusal
  begin_refused = still session regs media (commands.BeginCreate create) refusal
      (λ m at. ((Err refusal, asked m at.stands at.sound.machine, record { unfailing = refl; told = refl }), refl))

  pub create_refused : IsTurnFor session session regs regs media media (commands.Create create) refusal
  create_refused = still session regs media (commands.Create create) refusal
      (λ m at.
      let is = asked m at.stands at.sound.machine in (
        (Err refusal, is, record { unfailing = refl; told = refl }),
        (Err refusal, is, refl),
      ))
