-- A machine stays one where its job is undone, and where it is finished.
use Rattle.std.proofs.Common.{◌≡◌, ◌≢◌, ◌⊎◌, ◌<◌, true, List, [], ◌∷◌, ◌++◌, length, Option, Some, None, refl, sym, ◌∙◌, subst, ℕ, ◌≤◌, ap, arith}
use Rattle.std.specs.Prelude.{All, IfSome, insert, sum_by}
use Rattle.std.proofs.lemmas.Bool.{false≢true}
use Rattle.std.proofs.lemmas.List.Sorted.{IsPermutation-refl, sum_by-IsPermutation}
use Rattle.cxl_regs.specs.Registers.{Registers}
use Rattle.cxl_regs.specs.declared.reading.Range.{Range}
use Rattle.cxl_window.specs.Fields.{WindowFields}
use Rattle.cxl_model.specs.declared.found.Found.{Found}
use Rattle.cxl_model.specs.declared.plan.Plan.{Plan}
use Rattle.cxl_model.specs.declared.plan.Row.{Row}
use Rattle.cxl_model.specs.declared.request.Request.{Request}
use Rattle.cxl_model.specs.Accepted.{KeepsBlocks, IsAccepted}
use Rattle.cxl_model.specs.Plans.{IsLegalPlan, with_rows}
use Rattle.cxl_model.specs.Ranges.{IsCommittedRange}
use Rattle.cxl_model.specs.Regions.{region_range, IsRegionIn}
use Rattle.cxl_model.specs.System.{System, IsSystem}
use Rattle.cxl_apply.specs.Releases.{first_locked, first_not_last, blocks_without, system_without}
use Rattle.cxl_machine.specs.Machine.{Live, RegionJob, JobKind, Creates, Releases, Machine, region_released, under_release}
use Rattle.cxl_model.specs.Listed.{region_limit}
use Rattle.cxl_machine.specs.Jobs.{planned_region, live_when_undone, finished, undone}
use Rattle.cxl_machine.specs.Sound.{IsMachine, IsJob, IsJobOf, AreKept}
use Rattle.cxl_machine.proofs.KeepingMachines.{no_contents}
use Rattle.cxl_machine.proofs.KeepingOrder.{put_back}
use Rattle.cxl_machine.proofs.KeepingRegions.{OneLaw, IsWith, IsWithout, kept_again, kept_with, kept_without, kept_alone, kept_beside}
use Rattle.cxl_machine.specs.Copies.{pieces_of}
use Rattle.std.proofs.lemmas.List.{append-nil}
use Rattle.std.proofs.lemmas.List.Sums.{sum_by-append}
use Rattle.std.specs.FinMap.{len-empty}
use Rattle.std.specs.Ordering.{nat_cmp}

pub job_of : (m : Machine) (job : RegionJob) → IsMachine m → m.job ≡ Some job → IsJob m job
job_of m job is pending = subst (λ (o : Option RegionJob). IfSome o (IsJob m)) pending is.job

pub kept_of : (m : Machine) (job : RegionJob) → IsMachine m → m.job ≡ Some job → AreKept m (m.live ++ region_released job job.kind)
kept_of m job is pending = subst (λ (o : Option RegionJob). AreKept m (m.live ++ under_release o)) pending is.regions

pub held_of : (m : Machine) (job : RegionJob) → IsMachine m → m.job ≡ Some job → sum_by pieces_of (m.live ++ region_released job job.kind) ≤ m.frames
held_of m job is pending = subst (λ (o : Option RegionJob). sum_by pieces_of (m.live ++ under_release o) ≤ m.frames) pending is.held

-- ---- undone

undone_kept : (m : Machine) (job : RegionJob) (kind : JobKind) → AreKept m (m.live ++ region_released job kind) → AreKept (undone job m) (live_when_undone job kind m.live ++ [])
undone_kept m job (Creates rows) kept = kept_again m (undone job m) (m.live ++ []) (m.live ++ []) refl (IsPermutation-refl (m.live ++ [])) kept
undone_kept m job (Releases place) kept =
    kept_beside (undone job m) (insert m.live place job.region)
    (kept_again m (undone job m) (m.live ++ job.region ∷ []) (insert m.live place job.region) refl (put_back m.live job.region place) kept)

undone_held : (m : Machine) (job : RegionJob) (kind : JobKind) → sum_by pieces_of (m.live ++ region_released job kind) ≤ m.frames → sum_by pieces_of (live_when_undone job kind m.live ++ []) ≤ m.frames
undone_held m job (Creates rows) held = held
undone_held m job (Releases place) held =
    let same = sum_by-IsPermutation pieces_of (m.live ++ job.region ∷ []) (insert m.live place job.region) (put_back m.live job.region place) in
    let bare = ap (λ (rs : List Live). sum_by pieces_of rs) (append-nil (insert m.live place job.region)) in
    omega (arith, held, same, bare)

pub undone_keeps : (m : Machine) (job : RegionJob) → IsMachine m → m.job ≡ Some job → IsMachine (undone job m)
undone_keeps m job is pending = record {
  settled = is.settled;
  regions = undone_kept m job job.kind (kept_of m job is pending);
  job = tt;
  frames = is.frames;
  held = undone_held m job job.kind (held_of m job is pending);
}

-- ---- finished

abbrev pub Decode : List Registers → Type 0
Decode blocks = All (λ (block : Registers). block.enabled ≡ true) blocks

-- what is known of the images that whole jobs leave
pub record ImageLaws : Type 0 where
  pub one : OneLaw
  pub planned_system : (s : System) (request : Request) (plan : Plan) → IsSystem s → IsLegalPlan s request plan → IsSystem (with_rows s plan.rows)
  pub planned_enabled : (s : System) (rows : List Row) → Decode s.blocks → Decode (with_rows s rows).blocks
  pub planned_region : (s : System) (request : Request) (plan : Plan) (w : WindowFields) (found : Found) → IsSystem s → IsAccepted s → Decode s.blocks → IsLegalPlan s request plan → IsRegionIn s w found → IsRegionIn (with_rows s plan.rows) w found
  pub planned_ranges : (s : System) (request : Request) (plan : Plan) (r : Range) → IsSystem s → IsAccepted s → Decode s.blocks → IsLegalPlan s request plan → IsCommittedRange (with_rows s plan.rows) r → (r ≡ region_range plan.found) ⊎ IsCommittedRange s r
  pub released_system : (s : System) (found : Found) → IsSystem s → IsSystem (system_without s found)
  pub released_accepted : (s : System) (found : Found) → IsSystem s → IsAccepted s → first_locked s found ≡ None → first_not_last s found ≡ None → IsAccepted (system_without s found)
  pub released_enabled : (s : System) (found : Found) → Decode s.blocks → Decode (blocks_without s found)
  pub released_region : (s : System) (found : Found) (w : WindowFields) (other : Found) → IsSystem s → KeepsBlocks s → first_locked s found ≡ None → first_not_last s found ≡ None → region_range other ≢ region_range found → IsRegionIn s w other → IsRegionIn (system_without s found) w other
  pub released_ranges : (s : System) (found : Found) (r : Range) → IsSystem s → KeepsBlocks s → first_locked s found ≡ None → first_not_last s found ≡ None → IsCommittedRange (system_without s found) r → (r ≢ region_range found) × IsCommittedRange s r

-- the machine with a plan's region made
abbrev made_of : Machine → Plan → Machine
made_of m plan = record m { settled = with_rows m.settled plan.rows; live = m.live ++ planned_region plan ∷ []; job = None }

-- the machine with a region gone
abbrev without : Machine → Found → Machine
without m found = record m { settled = system_without m.settled found; job = None }

module _ (laws : ImageLaws) (m : Machine) (is : IsMachine m) where
  made_with : (request : Request) (plan : Plan) → IsLegalPlan m.settled request plan → IsWith m.settled (with_rows m.settled plan.rows) plan.found
  made_with request plan legal = record {
    new = λ committed. false≢true (sym (legal.1.new committed.0) ∙ committed.1);
    is = (legal.0, legal.1.region);
    region = λ w other. laws.planned_region m.settled request plan w other is.settled.system is.settled.accepted is.settled.enabled legal;
    ranges = λ r. laws.planned_ranges m.settled request plan r is.settled.system is.settled.accepted is.settled.enabled legal;
  }

  create_done : (request : Request) (plan : Plan) → IsLegalPlan m.settled request plan → All (λ (region : Live). region.name ≢ plan.name) m.live → length m.live < region_limit → AreKept m (m.live ++ [])
      → sum_by pieces_of (m.live ++ []) ≤ m.frames → IsMachine (made_of m plan)
  create_done request plan legal unnamed room kept held = record {
    settled = record {
      system = laws.planned_system m.settled request plan is.settled.system legal;
      accepted = legal.1.accepted;
      enabled = laws.planned_enabled m.settled plan.rows is.settled.enabled;
      ports = is.settled.ports;
    };
    regions = kept_beside (made_of m plan) (m.live ++ planned_region plan ∷ [])
        (kept_with m (made_of m plan) m.live (planned_region plan) (made_with request plan legal) unnamed (no_contents plan.found) room (kept_alone m m.live kept));
    job = tt;
    frames = is.frames;
    held =
        let all = sum_by-append pieces_of (m.live ++ planned_region plan ∷ []) [] in
        let more = sum_by-append pieces_of m.live (planned_region plan ∷ []) in
        let before = sum_by-append pieces_of m.live [] in
        let none = len-empty nat_cmp (List ℕ) in
        omega (arith, all, more, before, none, held);
  }

  gone_without : (found : Found) → first_locked m.settled found ≡ None → first_not_last m.settled found ≡ None → IsWithout m.settled (system_without m.settled found) found
  gone_without found unlocked last =
      let keeps : KeepsBlocks m.settled = λ rule n i low. is.settled.accepted.each rule n i in
      record {
        region = λ w other. laws.released_region m.settled found w other is.settled.system keeps unlocked last;
        ranges = λ r. laws.released_ranges m.settled found r is.settled.system keeps unlocked last;
      }

  release_done : (region : Live) → first_locked m.settled region.found ≡ None → first_not_last m.settled region.found ≡ None → AreKept m (m.live ++ region ∷ []) → sum_by pieces_of (m.live ++ region ∷ []) ≤ m.frames
      → IsMachine (without m region.found)
  release_done region unlocked last kept held = record {
    settled = record {
      system = laws.released_system m.settled region.found is.settled.system;
      accepted = laws.released_accepted m.settled region.found is.settled.system is.settled.accepted unlocked last;
      enabled = laws.released_enabled m.settled region.found is.settled.enabled;
      ports = is.settled.ports;
    };
    regions = kept_beside (without m region.found) m.live
        (kept_without laws.one m (without m region.found) m.live region is.settled.system (gone_without region.found unlocked last) kept);
    job = tt;
    frames = is.frames;
    held =
        let before = sum_by-append pieces_of m.live (region ∷ []) in
        let after = sum_by-append pieces_of m.live [] in
        omega (arith, before, after, held);
  }

  finished_by : (job : RegionJob) (kind : JobKind) → job.kind ≡ kind → IsJobOf m job kind → AreKept m (m.live ++ region_released job kind) → sum_by pieces_of (m.live ++ region_released job kind) ≤ m.frames
      → IsMachine (finished job m)
  finished_by job (Creates rows) kind create kept held =
      subst (λ (j : RegionJob). IsMachine (finished j m)) (sym create.made)
      (create_done create.request create.plan create.legal
      (subst (λ (j : RegionJob). All (λ (region : Live). region.name ≢ j.region.name) m.live) create.made create.unnamed) create.room kept held)
  finished_by job (Releases place) kind release kept held =
      subst (λ (j : RegionJob). IsMachine (finished j m)) (sym release.made) (release_done job.region release.unlocked release.last kept held)

  pub finished_keeps : (job : RegionJob) → m.job ≡ Some job → IsMachine (finished job m)
  finished_keeps job pending = finished_by job job.kind refl (job_of m job is pending).kind (kept_of m job is pending) (held_of m job is pending)
