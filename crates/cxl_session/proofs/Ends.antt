-- A job that has made its last write: the routes of the live regions stay, and that of a create is one of them.
use Rattle.std.proofs.Common.{◌≡◌, ◌≢◌, ℕ, List, [], ◌∷◌, ◌++◌, map, length, get_or, Option, Some, None, refl, sym, ap, ◌∙◌, subst, arith}
use Rattle.std.specs.Prelude.{◌↔◌, Contains}
use Rattle.std.specs.List.{AllZip}
use Rattle.std.proofs.lemmas.List.{get_or-map, length-map, map-append}
use Rattle.cxl_regs.specs.Registers.{Registers}
use Rattle.cxl_regs.specs.declared.reading.Range.{Range}
use Rattle.cxl_window.specs.Fields.{WindowFields}
use Rattle.cxl_model.specs.declared.found.Found.{Found}
use Rattle.cxl_model.specs.declared.plan.Plan.{Plan}
use Rattle.cxl_model.specs.declared.request.Request.{Request}
use Rattle.cxl_model.specs.Accepted.{KeepsBlocks, IsAccepted}
use Rattle.cxl_model.specs.Changes.{HaveSameDecoders}
use Rattle.cxl_model.specs.Listed.{AreRegions}
use Rattle.cxl_model.specs.Plans.{IsLegalPlan}
use Rattle.cxl_model.specs.Regions.{region_range, IsRegionIn}
use Rattle.cxl_model.specs.System.{System, IsSystem}
use Rattle.cxl_walk.specs.Keeping.{KeptFields, IsKept}
use Rattle.cxl_apply.specs.declared.write.Write.{Write}
use Rattle.cxl_apply.specs.Jobs.{AreCreateWrites, AreReleaseWrites, blocks_done, system_done}
use Rattle.cxl_apply.specs.Releases.{rows_of, first_locked, first_not_last}
use Rattle.cxl_machine.specs.Machine.{Live, RegionJob, JobKind, Creates, Releases, Machine, region_window, region_released}
use Rattle.cxl_machine.specs.Jobs.{total_of, live_when_done, settled_by, finished}
use Rattle.cxl_machine.specs.Sound.{IsMachine, IsJobOf, AreKept}
use Rattle.cxl_machine.proofs.KeepingJobs.{Decode, job_of, kept_of}
use Rattle.cxl_machine.proofs.KeepingLists.{founds}
use Rattle.cxl_machine.proofs.KeepingRegions.{OneLaw, last_apart}
use Rattle.cxl_machine.proofs.LiveRegions.{live_is_region}
use Rattle.cxl_machine.proofs.PendingJobs.{keeps_of}
use Rattle.cxl_machine.proofs.Writes.{create_is, release_is}
use Rattle.cxl_session.specs.State.{JobFields, SessionState}
use Rattle.cxl_session.specs.Standing.{released_place, IsKeptIn, image_of_region, IsJobFor, StandsFor}
use Rattle.cxl_session.specs.inner.Regions.{put_behind, session_finished}
use Rattle.cxl_session.proofs.Zips.{zip_append, zip_each}

-- what is known of images behind a job's last write, and of routes that are kept
pub record EndLaws : Type 0 where
  pub one : OneLaw
  pub create_decoders : (s : System) (request : Request) (plan : Plan) (writes : List Write) (n : ℕ) (w : WindowFields) (found : Found) → IsSystem s → IsAccepted s → Decode s.blocks → IsLegalPlan s request plan → AreCreateWrites s.blocks plan.rows writes → IsRegionIn s w found → HaveSameDecoders s (system_done s writes n) (region_range found)
  pub release_decoders : (s : System) (found : Found) (writes : List Write) (n : ℕ) (r : Range) → IsSystem s → KeepsBlocks s → first_locked s found ≡ None → first_not_last s found ≡ None → AreReleaseWrites (rows_of s found) writes → r ≢ region_range found → HaveSameDecoders s (system_done s writes n) r
  pub ends : (m : Machine) (job : RegionJob) → IsMachine m → m.job ≡ Some job → blocks_done m.settled.blocks job.writes (total_of job) ≡ (settled_by job job.kind m.settled).blocks
  pub finished : (m : Machine) (job : RegionJob) → IsMachine m → m.job ≡ Some job → IsMachine (finished job m)
  pub routes : (s t : System) (w : WindowFields) (found : Found) (kept : KeptFields) → IsSystem s → IsSystem t → HaveSameDecoders s t (region_range found) → KeepsBlocks t → IsRegionIn s w found → (IsKept s w found kept) ↔ (IsKept t w found kept)

module _ (laws : EndLaws) (m : Machine) (is : IsMachine m) (job : RegionJob) (pending : m.job ≡ Some job) where
  -- the image that the job settles has the host of the settled one
  same_host : (kind : JobKind) → settled_by job kind m.settled ≡ record m.settled { blocks = (settled_by job kind m.settled).blocks }
  same_host (Creates rows) = refl
  same_host (Releases place) = refl

  last : system_done m.settled job.writes (total_of job) ≡ settled_by job job.kind m.settled
  last = ap (λ (blocks : List Registers). record m.settled { blocks = blocks }) (laws.ends m job is pending) ∙ sym (same_host job.kind)

  module _ (region : Live) (there : Contains m.live region) where
    here : IsRegionIn m.settled (region_window m.settled region.found) region.found
    here = live_is_region m is region there

    apart : AreKept m (m.live ++ job.region ∷ []) → region_range region.found ≢ region_range job.region.found
    apart kept =
        let fs : List Found = founds m.live in
        let all : AreRegions m.settled (fs ++ job.region.found ∷ []) = subst (AreRegions m.settled) (map-append (λ (r : Live). r.found) m.live (job.region ∷ [])) kept.all in
        let read : get_or fs there.0 region.found ≡ region.found = get_or-map (λ (r : Live). r.found) m.live there.0 region region.found there.1 ∙ ap (λ (r : Live). r.found) there.2 in
        subst (λ (f : Found). region_range f ≢ region_range job.region.found) read
        (last_apart laws.one m.settled fs job.region.found is.settled.system all there.0 region.found (let long = length-map m.live (λ (r : Live). r.found) in let low = there.1 in omega (arith, long, low)))

    decoders_by : (kind : JobKind) → IsJobOf m job kind → AreKept m (m.live ++ region_released job kind) → (n : ℕ) → HaveSameDecoders m.settled (system_done m.settled job.writes n) (region_range region.found)
    decoders_by (Creates rows) create kept n =
        subst (λ (j : RegionJob). HaveSameDecoders m.settled (system_done m.settled j.writes n) (region_range region.found)) (sym create.made)
        (laws.create_decoders m.settled create.request create.plan _ n (region_window m.settled region.found) region.found is.settled.system is.settled.accepted is.settled.enabled create.legal
        (create_is m.settled create.plan.rows create.legal.1.rows_of.rising) here)
    decoders_by (Releases place) release kept n =
        subst (λ (j : RegionJob). HaveSameDecoders m.settled (system_done m.settled j.writes n) (region_range region.found)) (sym release.made)
        (laws.release_decoders m.settled job.region.found _ n (region_range region.found) is.settled.system (keeps_of m.settled is.settled.accepted) release.unlocked release.last
        (release_is m.settled job.region) (apart kept))

    decoders : HaveSameDecoders m.settled (settled_by job job.kind m.settled) (region_range region.found)
    decoders =
        subst (λ (t : System). HaveSameDecoders m.settled t (region_range region.found)) last
        (decoders_by job.kind (job_of m job is pending).kind (kept_of m job is pending) (total_of job))

    window_same : (kind : JobKind) → region_window (settled_by job kind m.settled) region.found ≡ region_window m.settled region.found
    window_same (Creates rows) = refl
    window_same (Releases place) = refl

    -- the routes of a live region are those of the image that the job settles
    route_stays : (kept : KeptFields) → IsKeptIn m.settled region.found kept → IsKeptIn (settled_by job job.kind m.settled) region.found kept
    route_stays kept own =
        let t : System = settled_by job job.kind m.settled in
        let ended = laws.finished m job is pending in
        subst (λ (w : WindowFields). IsKept t w region.found kept) (sym (window_same job.kind))
        ((laws.routes m.settled t (region_window m.settled region.found) region.found kept is.settled.system ended.settled.system decoders (keeps_of t ended.settled.accepted) here).0 own)

-- ---- the session

listed_behind : {A : Type 0} (f : Live → A) (live : List Live) (job : RegionJob) (kind : JobKind) → put_behind (released_place kind) (f job.region) (map f live) ≡ map f (live_when_done job kind live)
listed_behind f live job (Creates rows) = sym (map-append f live (job.region ∷ []))
listed_behind f live job (Releases place) = refl

listed_at_end : {A : Type 0} (f : Live → A) (live : List Live) (job : RegionJob) (place : Option ℕ) (x : A) (xs : List A) → place ≡ released_place job.kind → x ≡ f job.region → xs ≡ map f live
    → put_behind place x xs ≡ map f (live_when_done job job.kind live)
listed_at_end {A = A} f live job place x xs at one all =
    ap (λ (o : Option ℕ). put_behind o x xs) at ∙ ap (λ (y : A). put_behind (released_place job.kind) y xs) one
    ∙ ap (λ (ys : List A). put_behind (released_place job.kind) (f job.region) ys) all ∙ listed_behind f live job job.kind

abbrev KeepsIn : System → Live → KeptFields → Type 0
KeepsIn s region kept = IsKeptIn s region.found kept

kept_behind : (s : System) (live : List Live) (job : RegionJob) (own : KeptFields) (kept : List KeptFields) (kind : JobKind) → IsKeptIn (image_of_region kind s) job.region.found own
    → AllZip (KeepsIn (settled_by job kind s)) live kept → AllZip (KeepsIn (settled_by job kind s)) (live_when_done job kind live) (put_behind (released_place kind) own kept)
kept_behind s live job own kept (Creates rows) one all =
    zip_append (KeepsIn (settled_by job (Creates rows) s)) live (job.region ∷ []) kept (own ∷ []) all (one, tt)
kept_behind s live job own kept (Releases place) one all = all

module _ (laws : EndLaws) (session : SessionState) (m : Machine) (own : JobFields) (job : RegionJob) (stands : StandsFor session m) (is : IsMachine m) (pending : m.job ≡ Some job) (same : IsJobFor m own job) where
  abbrev t : System
  t = settled_by job job.kind m.settled

  pub finished_stands : (blocks : List Registers) → blocks ≡ blocks_done m.settled.blocks own.writes (length own.writes)
      → StandsFor (session_finished own (record session { image = blocks; job = None })) (finished job m)
  finished_stands blocks holds = record {
    nodes = ap (λ (s : System). s.nodes) (same_host laws m is job pending job.kind) ∙ stands.nodes;
    windows = ap (λ (s : System). s.windows) (same_host laws m is job pending job.kind) ∙ stands.windows;
    frames = stands.frames;
    image = holds ∙ ap (λ (ws : List Write). blocks_done m.settled.blocks ws (length ws)) same.writes ∙ laws.ends m job is pending;
    names = listed_at_end (λ (r : Live). r.name) m.live job own.place own.name session.names same.place same.name stands.names;
    founds = listed_at_end (λ (r : Live). r.found) m.live job own.place own.found session.founds same.place same.found stands.founds;
    kept =
        subst (λ (o : Option ℕ). AllZip (KeepsIn t) (live_when_done job job.kind m.live) (put_behind o own.kept session.kept)) (sym same.place)
        (kept_behind m.settled m.live job own.kept session.kept job.kind same.kept
        (zip_each (KeepsIn t) m.live session.kept (λ region kept there. route_stays laws m is job pending region there kept) stands.kept));
    job = tt;
  }
