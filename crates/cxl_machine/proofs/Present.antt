-- While a job is pending, each live region is a region of the image that the registers hold.
use Rattle.std.proofs.Common.{◌≡◌, ◌≢◌, ℕ, List, [], ◌∷◌, ◌++◌, get_or, Option, Some, None, refl, sym, ap, ◌∙◌, subst, arith}
use Rattle.std.specs.Prelude.{Contains}
use Rattle.std.proofs.lemmas.List.{get_or-map, length-map, map-append}
use Rattle.cxl_regs.specs.declared.reading.Range.{Range}
use Rattle.cxl_window.specs.Fields.{WindowFields}
use Rattle.cxl_model.specs.declared.found.Found.{Found}
use Rattle.cxl_model.specs.declared.plan.Plan.{Plan}
use Rattle.cxl_model.specs.declared.request.Request.{Request}
use Rattle.cxl_model.specs.Accepted.{KeepsBlocks, IsAccepted}
use Rattle.cxl_model.specs.Changes.{HaveSameDecoders}
use Rattle.cxl_model.specs.Listed.{AreRegions}
use Rattle.cxl_model.specs.Plans.{IsLegalPlan}
use Rattle.cxl_model.specs.Regions.{region_range, IsRegionIn}
use Rattle.cxl_model.specs.System.{System, IsSystem}
use Rattle.cxl_apply.specs.declared.write.Write.{Write}
use Rattle.cxl_apply.specs.Jobs.{AreCreateWrites, AreReleaseWrites, system_done}
use Rattle.cxl_apply.specs.Releases.{rows_of, first_locked, first_not_last}
use Rattle.cxl_machine.specs.Machine.{Live, RegionJob, JobKind, Creates, Releases, Machine, region_window, region_released, blocks_with, present}
use Rattle.cxl_machine.specs.Sound.{IsMachine, IsJobOf, AreKept}
use Rattle.cxl_machine.proofs.KeepingJobs.{Decode, job_of, kept_of}
use Rattle.cxl_machine.proofs.KeepingLists.{founds}
use Rattle.cxl_machine.proofs.KeepingRegions.{OneLaw, last_apart}
use Rattle.cxl_machine.proofs.LiveRegions.{live_is_region}
use Rattle.cxl_machine.proofs.PendingJobs.{keeps_of}
use Rattle.cxl_machine.proofs.Writes.{create_is, release_is}

-- what is known of the live regions of a machine: in the image that the registers hold they are regions, with the decoders that they had
abbrev pub StaysLaw : Type 0
StaysLaw =
    (m : Machine) (region : Live) → IsMachine m → Contains m.live region
    → IsRegionIn m.settled (region_window m.settled region.found) region.found × IsRegionIn (present m) (region_window m.settled region.found) region.found
    × HaveSameDecoders m.settled (present m) (region_range region.found)

-- what is known of an image between two writes of a job
pub record BetweenLaws : Type 0 where
  pub one : OneLaw
  pub create_system : (s : System) (request : Request) (plan : Plan) (writes : List Write) (n : ℕ) → IsSystem s → IsAccepted s → IsLegalPlan s request plan → AreCreateWrites s.blocks plan.rows writes → IsSystem (system_done s writes n)
  pub release_system : (s : System) (found : Found) (writes : List Write) (n : ℕ) → IsSystem s → AreReleaseWrites (rows_of s found) writes → IsSystem (system_done s writes n)
  pub create_keeps : (s : System) (request : Request) (plan : Plan) (writes : List Write) (n : ℕ) → IsSystem s → IsAccepted s → Decode s.blocks → IsLegalPlan s request plan → AreCreateWrites s.blocks plan.rows writes → KeepsBlocks (system_done s writes n)
  pub create_decoders : (s : System) (request : Request) (plan : Plan) (writes : List Write) (n : ℕ) (w : WindowFields) (found : Found) → IsSystem s → IsAccepted s → Decode s.blocks → IsLegalPlan s request plan → AreCreateWrites s.blocks plan.rows writes → IsRegionIn s w found → HaveSameDecoders s (system_done s writes n) (region_range found)
  pub create_region : (s : System) (request : Request) (plan : Plan) (writes : List Write) (n : ℕ) (w : WindowFields) (found : Found) → IsSystem s → IsAccepted s → Decode s.blocks → IsLegalPlan s request plan → AreCreateWrites s.blocks plan.rows writes → IsRegionIn s w found → IsRegionIn (system_done s writes n) w found
  pub release_keeps : (s : System) (found : Found) (writes : List Write) (n : ℕ) → IsSystem s → KeepsBlocks s → first_locked s found ≡ None → first_not_last s found ≡ None → AreReleaseWrites (rows_of s found) writes → KeepsBlocks (system_done s writes n)
  pub release_decoders : (s : System) (found : Found) (writes : List Write) (n : ℕ) (r : Range) → IsSystem s → KeepsBlocks s → first_locked s found ≡ None → first_not_last s found ≡ None → AreReleaseWrites (rows_of s found) writes → r ≢ region_range found → HaveSameDecoders s (system_done s writes n) r
  pub release_region : (s : System) (found : Found) (writes : List Write) (n : ℕ) (w : WindowFields) (other : Found) → IsSystem s → KeepsBlocks s → first_locked s found ≡ None → first_not_last s found ≡ None → AreReleaseWrites (rows_of s found) writes → region_range other ≢ region_range found → IsRegionIn s w other → IsRegionIn (system_done s writes n) w other

-- the image that registers hold with this job
abbrev present_with : Machine → Option RegionJob → System
present_with m o = record m.settled { blocks = blocks_with m.settled.blocks o }

module _ (laws : BetweenLaws) (m : Machine) (is : IsMachine m) where
  keeps : KeepsBlocks m.settled
  keeps = keeps_of m.settled is.settled.accepted

  abbrev at : List Write → ℕ → System
  at writes n = system_done m.settled writes n

  -- ---- the blocks

  keeps_by : (job : RegionJob) (kind : JobKind) → IsJobOf m job kind → (n : ℕ) → KeepsBlocks (at job.writes n)
  keeps_by job (Creates rows) create n =
      subst (λ (j : RegionJob). KeepsBlocks (at j.writes n)) (sym create.made)
      (laws.create_keeps m.settled create.request create.plan _ n is.settled.system is.settled.accepted is.settled.enabled create.legal
      (create_is m.settled create.plan.rows create.legal.1.rows_of.rising))
  keeps_by job (Releases place) release n =
      subst (λ (j : RegionJob). KeepsBlocks (at j.writes n)) (sym release.made)
      (laws.release_keeps m.settled job.region.found _ n is.settled.system keeps release.unlocked release.last (release_is m.settled job.region))

  system_by : (job : RegionJob) (kind : JobKind) → IsJobOf m job kind → (n : ℕ) → IsSystem (at job.writes n)
  system_by job (Creates rows) create n =
      subst (λ (j : RegionJob). IsSystem (at j.writes n)) (sym create.made)
      (laws.create_system m.settled create.request create.plan _ n is.settled.system is.settled.accepted create.legal (create_is m.settled create.plan.rows create.legal.1.rows_of.rising))
  system_by job (Releases place) release n =
      subst (λ (j : RegionJob). IsSystem (at j.writes n)) (sym release.made) (laws.release_system m.settled job.region.found _ n is.settled.system (release_is m.settled job.region))

  present_by : (o : Option RegionJob) → m.job ≡ o → IsSystem (present_with m o) × KeepsBlocks (present_with m o)
  present_by None none = (is.settled.system, keeps)
  present_by (Some job) pending =
      let own = (job_of m job is pending).kind in
      (system_by job job.kind own job.done, keeps_by job job.kind own job.done)

  pub present_system : IsSystem (present m) × KeepsBlocks (present m)
  present_system = present_by m.job refl

  -- ---- a live region

  module _ (region : Live) (there : Contains m.live region) where
    abbrev w : WindowFields
    w = region_window m.settled region.found

    here : IsRegionIn m.settled w region.found
    here = live_is_region m is region there

    -- it is one in the other image, with its decoders
    abbrev StaysIn : System → Type 0
    StaysIn t = IsRegionIn t w region.found × HaveSameDecoders m.settled t (region_range region.found)

    apart : (job : RegionJob) → AreKept m (m.live ++ job.region ∷ []) → region_range region.found ≢ region_range job.region.found
    apart job kept =
        let fs : List Found = founds m.live in
        let all : AreRegions m.settled (fs ++ job.region.found ∷ []) = subst (AreRegions m.settled) (map-append (λ (r : Live). r.found) m.live (job.region ∷ [])) kept.all in
        let read : get_or fs there.0 region.found ≡ region.found = get_or-map (λ (r : Live). r.found) m.live there.0 region region.found there.1 ∙ ap (λ (r : Live). r.found) there.2 in
        subst (λ (f : Found). region_range f ≢ region_range job.region.found) read
        (last_apart laws.one m.settled fs job.region.found is.settled.system all there.0 region.found (let long = length-map m.live (λ (r : Live). r.found) in let low = there.1 in omega (arith, long, low)))

    stays_by : (job : RegionJob) (kind : JobKind) → IsJobOf m job kind → AreKept m (m.live ++ region_released job kind) → (n : ℕ) → StaysIn (at job.writes n)
    stays_by job (Creates rows) create kept n =
        let are = create_is m.settled create.plan.rows create.legal.1.rows_of.rising in
        subst (λ (j : RegionJob). StaysIn (at j.writes n)) (sym create.made) (
          laws.create_region m.settled create.request create.plan _ n w region.found is.settled.system is.settled.accepted is.settled.enabled create.legal are here,
          laws.create_decoders m.settled create.request create.plan _ n w region.found is.settled.system is.settled.accepted is.settled.enabled create.legal are here,
        )
    stays_by job (Releases place) release kept n =
        let are = release_is m.settled job.region in
        subst (λ (j : RegionJob). StaysIn (at j.writes n)) (sym release.made) (
          laws.release_region m.settled job.region.found _ n w region.found is.settled.system keeps release.unlocked release.last are (apart job kept) here,
          laws.release_decoders m.settled job.region.found _ n (region_range region.found) is.settled.system keeps release.unlocked release.last are (apart job kept),
        )

    stays_with : (o : Option RegionJob) → m.job ≡ o → StaysIn (present_with m o)
    stays_with None none = (here, record { nodes = refl; windows = refl; there = λ n i j d at has low. refl; back = λ n i j d at has low. refl })
    stays_with (Some job) pending = stays_by job job.kind (job_of m job is pending).kind (kept_of m job is pending) job.done

    pub stays : IsRegionIn m.settled w region.found × IsRegionIn (present m) w region.found × HaveSameDecoders m.settled (present m) (region_range region.found)
    stays = let own = stays_with m.job refl in (here, own.0, own.1)
