-- A release begins: its region is no longer live, and no register is written.
use Rattle.std.proofs.Common.{◌≡◌, ℕ, ◌<◌, List, [], ◌++◌, length, Ok, Err, Option, Some, None, refl, sym, ap, ◌∙◌, subst}
use Rattle.std.specs.Prelude.{slice_get, remove, All, IsSomeAnd}
use Rattle.std.specs.List.Sorted.{IsPermutation}
use Rattle.std.proofs.lemmas.List.{append-nil}
use Rattle.std.proofs.lemmas.Option.{slice_get_within, get_or_from_slice_get}
use Rattle.cxl_regs.specs.Registers.{Registers}
use Rattle.cxl_bus.proofs.Failed.{fails_nowhere}
use Rattle.cxl_bus.specs.RegsState.{RegsState}
use Rattle.cxl_bus.proofs.Trails.{trail_nothing}
use Rattle.cxl_media.specs.MediaState.{MediaState}
use Rattle.cxl_script.specs.declared.command.Command.TheVariants as commands
use Rattle.cxl_model.specs.declared.found.Found.{Found}
use Rattle.cxl_model.specs.declared.plan.Row.{Row}
use Rattle.cxl_model.specs.Accepted.{KeepsBlocks}
use Rattle.cxl_model.specs.System.{System}
use Rattle.cxl_apply.specs.declared.write.Write.{Write}
use Rattle.cxl_apply.specs.Jobs.{AreReleaseWrites, AreOfDifferentNodes, CanRelease}
use Rattle.cxl_apply.specs.Releases.{rows_of, first_locked, first_not_last}
use Rattle.cxl_apply.specs.Steps.{JobState}
use Rattle.cxl_reply.specs.declared.reply.Reply.{Reply}
use Rattle.cxl_reply.specs.declared.reply.Reply.TheVariants as replies
use Rattle.cxl_machine.specs.Machine.{Live, RegionJob, Machine, under_release, blocks_with, kept_regions}
use Rattle.cxl_machine.specs.Jobs.{release_job, release_writes, total_of, begun}
use Rattle.cxl_machine.specs.Outcomes.{NoFault}
use Rattle.cxl_machine.specs.Regions.{begin_answer, begun_reply}
use Rattle.cxl_machine.specs.Requests.{asked_release}
use Rattle.cxl_machine.specs.Scripts.{Turn}
use Rattle.cxl_machine.specs.Sound.{IsMachine}
use Rattle.cxl_machine.proofs.KeepingOrder.{put_last}
use Rattle.cxl_session.specs.State.{JobFields, SessionState}
use Rattle.cxl_session.specs.Standing.{IsKeptIn, IsJobFor, StandsFor, IsAt}
use Rattle.cxl_session.specs.inner.Answering.{IsTurnFor}
use Rattle.cxl_session.specs.declared.requests.Release.{Release}
use Rattle.cxl_session.specs.inner.Regions.{session_begun, own_job, BeginsRelease}
use Rattle.cxl_session.specs.inner.Requests.{IsNamedRelease}
use Rattle.cxl_session.proofs.Places.{stands_at}
use Rattle.cxl_session.proofs.Rearranged.{IsRearranged, rearranged_sound}
use Rattle.cxl_session.proofs.Turns.{still}
use Rattle.cxl_session.proofs.Undoing.{IsBegunFrom, no_own_job}
use Rattle.cxl_session.proofs.Zips.{map-remove, zip_remove}

-- a release that a line asks for begins as a machine
abbrev pub ReleaseBeginsLaw : Type 0
ReleaseBeginsLaw = (m : Machine) (name : List ℕ) (job : RegionJob) → IsMachine m → asked_release m name ≡ Ok job → IsMachine (begun job m)

module _ (m : Machine) (place : ℕ) (region : Live) (there : slice_get m.live place ≡ Some region) (idle : m.job ≡ None) where
  abbrev job : RegionJob
  job = release_job m.settled place region

  begun_rearranged : IsRearranged m (begun job m)
  begun_rearranged = record {
    windows = refl;
    frames = refl;
    regions =
        let low = slice_get_within m.live place region there in
        let all : kept_regions m ≡ m.live = ap (λ (o : Option RegionJob). m.live ++ under_release o) idle ∙ append-nil m.live in
        subst (λ (rs : List Live). IsPermutation rs (kept_regions (begun job m))) (sym all)
        (put_last m.live region place low (get_or_from_slice_get m.live place region region there));
  }

  module _ (session : SessionState) (own : JobFields) (stands : StandsFor session m) (same : IsJobFor m own job) where
    begun_stands : StandsFor (session_begun own session) (begun job m)
    begun_stands =
        subst (λ (o : Option ℕ). StandsFor (session_begun (record own { place = o }) session) (begun job m)) (sym same.place) (record {
          nodes = stands.nodes;
          windows = stands.windows;
          frames = stands.frames;
          image = stands.image ∙ ap (blocks_with m.settled.blocks) idle;
          names = ap (λ (ns : List (List ℕ)). remove ns place) stands.names ∙ sym (map-remove (λ (r : Live). r.name) m.live place);
          founds = ap (λ (fs : List Found). remove fs place) stands.founds ∙ sym (map-remove (λ (r : Live). r.found) m.live place);
          kept = zip_remove (λ (r : Live) kept. IsKeptIn m.settled r.found kept) place m.live session.kept stands.kept;
          job = record { place = refl; name = same.name; found = same.found; writes = same.writes; done = same.done; kept = same.kept };
        })

    module _ (law : ReleaseBeginsLaw) (name : List ℕ) (asked : asked_release m name ≡ Ok job) (regs : RegsState) (media : MediaState) (at : IsAt session regs media m) where
      pub begun_at : IsAt (session_begun own session) regs media (begun job m)
      begun_at = record {
        stands = begun_stands;
        sound =
            rearranged_sound m (begun job m) media begun_rearranged regs.blocks regs.blocks at.sound (law m name job at.sound.machine asked)
            (at.sound.registers ∙ ap (blocks_with m.settled.blocks) idle);
      }

-- ---- the turn

-- the writes of a release are those of its rows
abbrev pub ReleaseLaw : Type 0
ReleaseLaw = (s : System) (region : Live) (writes : List Write) → AreReleaseWrites (rows_of s region.found) writes → writes ≡ release_writes s region

some_of : {X : Type 0} (P : X → Type 0) (o : Option X) → IsSomeAnd o P → (x : X) × (o ≡ Some x) × P x
some_of P None is = absurd is
some_of P (Some x) is = (x, refl, is)

module _ (release_law : ReleaseLaw) (begins_law : ReleaseBeginsLaw) (session next : SessionState) (name : List ℕ) (release : Release) (job : JobState)
    (is_next : BeginsRelease session release.place job next) (writes : AreReleaseWrites release.rows.items job.writes) (fresh : job.done ≡ 0) where
  begun_as : (m : Machine) → StandsFor session m → (is : IsNamedRelease m name release)
      → (own : JobFields) × (next ≡ session_begun own session) × IsJobFor m own (release_job m.settled release.place is.region) × (own.writes ≡ job.writes)
  begun_as m stands is =
      let here = stands_at session m release.place is.region stands is.there in
      let kept = some_of (IsKeptIn m.settled is.region.found) (slice_get session.kept release.place) here.kept in (
        own_job release.place is.region.name is.region.found kept.0 job,
        is_next is.region.name is.region.found kept.0 here.name here.found kept.1,
        record {
          place = refl;
          name = refl;
          found = refl;
          writes = release_law m.settled is.region job.writes (subst (λ (rows : List Row). AreReleaseWrites rows job.writes) is.rows writes);
          done = fresh;
          kept = kept.2;
        },
        refl,
      )

  -- the session has begun it from one that keeps its region
  pub begun_from : (m : Machine) → StandsFor session m → IsNamedRelease m name release → (own : JobFields) × (next ≡ session_begun own session) × IsBegunFrom session own × (own.done ≡ 0)
  begun_from m stands is =
      let here = stands_at session m release.place is.region stands is.there in
      let kept = some_of (IsKeptIn m.settled is.region.found) (slice_get session.kept release.place) here.kept in (
        own_job release.place is.region.name is.region.found kept.0 job,
        is_next is.region.name is.region.found kept.0 here.name here.found kept.1,
        record { idle = no_own_job m session.job m.job is.idle stands.job; name = here.name; found = here.found; kept = kept.1 },
        fresh,
      )

  -- session, registers and media stand for the machine at which it is pending
  pub begun_here : (m : Machine) (regs : RegsState) (media : MediaState) → IsAt session regs media m → (is : IsNamedRelease m name release)
      → IsAt next regs media (begun (release_job m.settled release.place is.region) m)
  begun_here m regs media at is =
      let as_own = begun_as m at.stands is in
      subst (λ (s : SessionState). IsAt s regs media (begun (release_job m.settled release.place is.region) m)) (sym as_own.1)
      (begun_at m release.place is.region is.there is.idle session as_own.0 at.stands as_own.2 begins_law name is.asked regs media at)

  -- the job is begun
  pub begin_turn : ((m : Machine) → StandsFor session m → IsMachine m → IsNamedRelease m name release) → (regs : RegsState) (media : MediaState) (words : ℕ) → words ≡ length job.writes
      → IsTurnFor session next regs regs media media (commands.BeginDestroy name) (replies.Begun record { name = name; writes = words })
  begin_turn asked regs media words many m at =
      let is = asked m at.stands at.sound.machine in
      let as_own = begun_as m at.stands is in
      let own : JobFields = as_own.0 in
      let same : next ≡ session_begun own session = as_own.1 in
      let for_job : IsJobFor m own (release_job m.settled release.place is.region) = as_own.2 in
      let made : RegionJob = release_job m.settled release.place is.region in
      let turn : Turn = record { reply = begun_reply made; machine = begun made m; trail = []; failed = [] } in (
        turn,
        (NoFault, record { unfailing = refl; told = ap (begin_answer m) (sym is.asked) }, refl, refl),
        record {
          told =
              ap (λ (n : ℕ). replies.Begun record { name = name; writes = n }) (many ∙ ap (λ (ws : List Write). length ws) (sym as_own.3 ∙ for_job.writes))
              ∙ ap (λ (n : List ℕ). replies.Begun record { name = n; writes = total_of made }) (sym is.named);
          at = begun_here m regs media at is;
          words = trail_nothing regs.trail;
          fails = fails_nowhere regs;
        },
      )

-- a release is refused
pub begin_refused : (session : SessionState) (name : List ℕ) (refusal : Reply) (regs : RegsState) (media : MediaState)
    → ((m : Machine) → StandsFor session m → IsMachine m → asked_release m name ≡ Err refusal) → IsTurnFor session session regs regs media media (commands.BeginDestroy name) refusal
begin_refused session name refusal regs media asked = still session regs media (commands.BeginDestroy name) refusal
    (λ m at. (record { unfailing = refl; told = ap (begin_answer m) (sym (asked m at.stands at.sound.machine)) }, refl))

-- ---- its rows

-- the decoders of a region that may be ended can be released, and stand in different nodes
abbrev pub RowsLaw : Type 0
RowsLaw = (s : System) (found : Found) → KeepsBlocks s → first_locked s found ≡ None → first_not_last s found ≡ None → All (CanRelease s.blocks) (rows_of s found)

abbrev pub ApartLaw : Type 0
ApartLaw = (s : System) (found : Found) → AreOfDifferentNodes (rows_of s found)

module _ (session : SessionState) (m : Machine) (name : List ℕ) (release : Release) (rows : List Row) (is : IsNamedRelease m name release) (same : rows ≡ release.rows.items) where
  pub can_release : RowsLaw → StandsFor session m → IsMachine m → All (CanRelease session.image) rows
  can_release law stands machine =
      subst (λ (blocks : List Registers). All (CanRelease blocks) rows) (sym (stands.image ∙ ap (blocks_with m.settled.blocks) is.idle))
      (subst (All (CanRelease m.settled.blocks)) (sym (same ∙ is.rows))
      (law m.settled is.region.found (λ rule n i low. machine.settled.accepted.each rule n i) is.unlocked is.last))

  pub released_apart : ApartLaw → AreOfDifferentNodes rows
  released_apart law = subst AreOfDifferentNodes (sym (same ∙ is.rows)) (law m.settled is.region.found)

-- the place of a release is one of the session's
pub release_within : (session : SessionState) (m : Machine) (name : List ℕ) (release : Release) → StandsFor session m → IsNamedRelease m name release → release.place < length session.names
release_within session m name release stands is =
    let here = stands_at session m release.place is.region stands is.there in
    slice_get_within session.names release.place is.region.name here.name
