-- A session with a job pending, and the machine for which it stands: more or fewer of the writes are made, or none is left.
use Rattle.std.proofs.Common.{◌≡◌, ℕ, ◌<◌, List, [], ◌∷◌, ◌++◌, map, Option, Some, None, refl, sym, ap, ◌∙◌, subst}
use Rattle.std.specs.Prelude.{insert}
use Rattle.std.specs.List.{AllZip}
use Rattle.std.specs.List.Sorted.{IsPermutation}
use Rattle.std.proofs.lemmas.List.{append-nil}
use Rattle.std.proofs.lemmas.List.Sorted.{IsPermutation-refl}
use Rattle.cxl_regs.specs.Registers.{Registers}
use Rattle.cxl_media.specs.MediaState.{MediaState}
use Rattle.cxl_walk.specs.Keeping.{KeptFields}
use Rattle.cxl_apply.specs.declared.write.Write.{Write}
use Rattle.cxl_apply.specs.Jobs.{blocks_done}
use Rattle.cxl_machine.specs.Machine.{Live, RegionJob, JobKind, Creates, Releases, Machine, region_released, under_release, blocks_with, kept_regions}
use Rattle.cxl_machine.specs.Jobs.{total_of, live_when_undone, at_done, undone}
use Rattle.cxl_machine.specs.Sound.{IsSound}
use Rattle.cxl_machine.proofs.KeepingJobs.{undone_keeps}
use Rattle.cxl_machine.proofs.KeepingOrder.{put_back}
use Rattle.cxl_machine.proofs.KeepingSteps.{at_done_keeps, released_same}
use Rattle.cxl_session.specs.State.{JobFields, SessionState}
use Rattle.cxl_session.specs.Standing.{released_place, IsKeptIn, image_of_region, IsJobFor, HasSameJob, StandsFor}
use Rattle.cxl_session.specs.inner.Regions.{taken_in, session_undone}
use Rattle.cxl_session.proofs.Rearranged.{IsRearranged, rearranged_sound}
use Rattle.cxl_session.proofs.Zips.{map-insert, zip_insert}

-- ---- the session's job is the machine's

pub no_job : (m : Machine) (own : Option JobFields) → own ≡ None → (job : Option RegionJob) → HasSameJob m own job → job ≡ None
no_job m own none None same = refl
no_job m own none (Some job) same = absurd (subst (λ (o : Option JobFields). HasSameJob m o (Some job)) none same)

pub same_job : (m : Machine) (own : JobFields) (o : Option JobFields) → o ≡ Some own → (job : Option RegionJob) → HasSameJob m o job → (j : RegionJob) × (job ≡ Some j) × IsJobFor m own j
same_job m own o some None same = absurd (subst (λ (x : Option JobFields). HasSameJob m x None) some same)
same_job m own o some (Some job) same = (job, refl, subst (λ (x : Option JobFields). HasSameJob m x (Some job)) some same)

-- ---- regions and their order

moved_back : (live : List Live) (job : RegionJob) (kind : JobKind) → IsPermutation (live ++ region_released job kind) (live_when_undone job kind live ++ [])
moved_back live job (Creates rows) = IsPermutation-refl (live ++ [])
moved_back live job (Releases place) =
    subst (IsPermutation (live ++ job.region ∷ [])) (sym (append-nil (insert live place job.region))) (put_back live job.region place)

pub at_done_rearranged : (m : Machine) (job : RegionJob) (done : ℕ) → m.job ≡ Some job → IsRearranged m (at_done job done m)
at_done_rearranged m job done pending = record {
  windows = refl;
  frames = refl;
  regions =
      let same : kept_regions m ≡ kept_regions (at_done job done m) =
      ap (λ (o : Option RegionJob). m.live ++ under_release o) pending ∙ ap (λ (rs : List Live). m.live ++ rs) (sym (released_same job done job.kind)) in
      subst (IsPermutation (kept_regions m)) same (IsPermutation-refl (kept_regions m));
}

pub undone_rearranged : (m : Machine) (job : RegionJob) → m.job ≡ Some job → IsRearranged m (undone job m)
undone_rearranged m job pending = record {
  windows = refl;
  frames = refl;
  regions = subst (λ (o : Option RegionJob). IsPermutation (m.live ++ under_release o) (kept_regions (undone job m))) (sym pending) (moved_back m.live job job.kind);
}

-- ---- lists of a session

listed_in : {A : Type 0} (f : Live → A) (live : List Live) (job : RegionJob) (kind : JobKind) → taken_in (released_place kind) (f job.region) (map f live) ≡ map f (live_when_undone job kind live)
listed_in f live job (Creates rows) = refl
listed_in f live job (Releases place) = sym (map-insert f live place job.region)

pub listed_again : {A : Type 0} (f : Live → A) (live : List Live) (job : RegionJob) (place : Option ℕ) (x : A) (xs : List A) → place ≡ released_place job.kind → x ≡ f job.region → xs ≡ map f live
    → taken_in place x xs ≡ map f (live_when_undone job job.kind live)
listed_again {A = A} f live job place x xs at one all =
    ap (λ (o : Option ℕ). taken_in o x xs) at ∙ ap (λ (y : A). taken_in (released_place job.kind) y xs) one
    ∙ ap (λ (ys : List A). taken_in (released_place job.kind) (f job.region) ys) all ∙ listed_in f live job job.kind

module _ (m : Machine) where
  abbrev Keeps : Live → KeptFields → Type 0
  Keeps region kept = IsKeptIn m.settled region.found kept

  kept_in : (live : List Live) (job : RegionJob) (own : KeptFields) (kept : List KeptFields) (kind : JobKind) → AllZip Keeps live kept → IsKeptIn (image_of_region kind m.settled) job.region.found own
      → AllZip Keeps (live_when_undone job kind live) (taken_in (released_place kind) own kept)
  kept_in live job own kept (Creates rows) all one = all
  kept_in live job own kept (Releases place) all one = zip_insert Keeps place live kept job.region own all one

-- ---- a session with a job pending

module _ (session : SessionState) (m : Machine) (own : JobFields) (job : RegionJob) (stands : StandsFor session m) (pending : m.job ≡ Some job) (same : IsJobFor m own job) where
  -- its image holds so many writes of the settled one
  pub image_holds : session.image ≡ blocks_done m.settled.blocks own.writes own.done
  image_holds =
      stands.image ∙ ap (blocks_with m.settled.blocks) pending
      ∙ ap (λ (ws : List Write). blocks_done m.settled.blocks ws job.done) (sym same.writes) ∙ ap (blocks_done m.settled.blocks own.writes) (sym same.done)

  pub at_done_stands : (done : ℕ) (blocks : List Registers) → blocks ≡ blocks_done m.settled.blocks own.writes done
      → StandsFor (record session { image = blocks; job = Some (record own { done = done }) }) (at_done job done m)
  at_done_stands done blocks is = record {
    nodes = stands.nodes;
    windows = stands.windows;
    frames = stands.frames;
    image = is ∙ ap (λ (ws : List Write). blocks_done m.settled.blocks ws done) same.writes;
    names = stands.names;
    founds = stands.founds;
    kept = stands.kept;
    job = record { place = same.place; name = same.name; found = same.found; writes = same.writes; done = refl; kept = same.kept };
  }

  pub undone_stands : (blocks : List Registers) → blocks ≡ m.settled.blocks → StandsFor (session_undone own (record session { image = blocks; job = None })) (undone job m)
  undone_stands blocks is = record {
    nodes = stands.nodes;
    windows = stands.windows;
    frames = stands.frames;
    image = is;
    names = listed_again (λ (r : Live). r.name) m.live job own.place own.name session.names same.place same.name stands.names;
    founds = listed_again (λ (r : Live). r.found) m.live job own.place own.found session.founds same.place same.found stands.founds;
    kept =
        subst (λ (o : Option ℕ). AllZip (Keeps m) (live_when_undone job job.kind m.live) (taken_in o own.kept session.kept)) (sym same.place)
        (kept_in m m.live job own.kept session.kept job.kind stands.kept same.kept);
    job = tt;
  }

  module _ (old new : List Registers) (media : MediaState) (sound : IsSound m old media) where
    pub at_done_sound : (done : ℕ) → done < total_of job → new ≡ blocks_done m.settled.blocks own.writes done → IsSound (at_done job done m) new media
    at_done_sound done part is =
        rearranged_sound m (at_done job done m) media (at_done_rearranged m job done pending) old new sound (at_done_keeps m job done sound.machine pending part)
        (is ∙ ap (λ (ws : List Write). blocks_done m.settled.blocks ws done) same.writes)

    pub undone_sound : new ≡ m.settled.blocks → IsSound (undone job m) new media
    undone_sound is = rearranged_sound m (undone job m) media (undone_rearranged m job pending) old new sound (undone_keeps m job sound.machine pending) is
