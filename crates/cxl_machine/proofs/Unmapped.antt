-- The region of a pending job is not mapped: not by its name, a host byte or a device byte.
use Rattle.std.proofs.Common.{◌≡◌, ◌≢◌, ℕ, ◌+◌, ◌<◌, ◌≤◌, List, [], ◌∷◌, ◌++◌, length, get_or, Option, Some, None, refl, sym, ap, ◌∙◌, subst, arith}
use Rattle.std.specs.Prelude.{Contains, nat_le, nat_lt}
use Rattle.std.specs.Str.{bytes_eq}
use Rattle.std.proofs.lemmas.Bool.{and_parts, leb-true, ltb-true, false≢true}
use Rattle.std.proofs.lemmas.List.{get_or-map, get_or_append_left, get_or_push, length-append, length-map, map-append}
use Rattle.std.proofs.lemmas.List.Elements.{All-contains}
use Rattle.cxl_window.specs.Fields.{WindowFields}
use Rattle.cxl_model.specs.declared.found.Found.{Found}
use Rattle.cxl_model.specs.declared.plan.Plan.{Plan}
use Rattle.cxl_model.specs.declared.request.Request.{Request}
use Rattle.cxl_model.specs.Accepted.{IsAccepted}
use Rattle.cxl_model.specs.Bytes.{LiesInSpan}
use Rattle.cxl_model.specs.Listed.{AreRegions}
use Rattle.cxl_model.specs.Plans.{IsLegalPlan, with_rows}
use Rattle.cxl_model.specs.Ranges.{serves}
use Rattle.cxl_model.specs.Regions.{region_range, IsRegion, IsRegionIn, Carries}
use Rattle.cxl_model.specs.System.{System, IsSystem}
use Rattle.cxl_reply.specs.declared.reply.Reply.{Reply}
use Rattle.cxl_reply.specs.declared.reply.Reply.TheVariants as replies
use Rattle.cxl_machine.specs.Machine.{Live, RegionJob, JobKind, Creates, Releases, Machine, has_host, live_named, live_at, region_window, region_released}
use Rattle.cxl_machine.specs.Accesses.{TellsHost, carried, unmapped}
use Rattle.cxl_machine.specs.Sound.{IsMachine, IsJobOf, AreKept}
use Rattle.cxl_machine.proofs.KeepingBytes.{same_bytes}
use Rattle.cxl_machine.proofs.KeepingJobs.{Decode, job_of, kept_of}
use Rattle.cxl_machine.proofs.KeepingLists.{founds}
use Rattle.cxl_machine.proofs.KeepingMachines.{live_there}
use Rattle.cxl_machine.proofs.KeepingRegions.{last_is}
use Rattle.cxl_machine.proofs.LiveRegions.{live_is_region}

-- what is known of the regions of images, and of plans
pub record ApartLaws : Type 0 where
  pub host : (s : System) (w v : WindowFields) (found other : Found) (h : ℕ) → IsSystem s → IsRegionIn s w found → IsRegionIn s v other → found.base ≤ h → h < found.base + found.size → other.base ≤ h → h < other.base + other.size → found ≡ other
  pub device : (s : System) (w v : WindowFields) (found other : Found) (endpoint dpa : ℕ) → IsSystem s → IsRegionIn s w found → IsRegionIn s v other → LiesInSpan found endpoint dpa → LiesInSpan other endpoint dpa → found ≡ other
  pub inside : (s : System) (w : WindowFields) (found : Found) (h endpoint dpa : ℕ) → IsSystem s → IsRegionIn s w found → Carries found w h endpoint dpa → LiesInSpan found endpoint dpa
  pub system : (s : System) (request : Request) (plan : Plan) → IsSystem s → IsLegalPlan s request plan → IsSystem (with_rows s plan.rows)
  pub region : (s : System) (request : Request) (plan : Plan) (w : WindowFields) (found : Found) → IsSystem s → IsAccepted s → Decode s.blocks → IsLegalPlan s request plan → IsRegionIn s w found → IsRegionIn (with_rows s plan.rows) w found

-- a live region and that of the job are two regions of one image
pub record AreTwo (region other : Found) : Type 0 where
  pub s : System
  pub w : WindowFields
  pub v : WindowFields
  pub system : IsSystem s
  pub first : IsRegionIn s w region
  pub second : IsRegionIn s v other
  pub apart : region ≢ other

module _ (laws : ApartLaws) (m : Machine) (is : IsMachine m) where
  two_of_create : (region : Live) → Contains m.live region → (job : RegionJob) (request : Request) (plan : Plan) → IsLegalPlan m.settled request plan → plan.found ≡ job.region.found → AreTwo region.found job.region.found
  two_of_create region there job request plan legal same =
      let here = live_is_region m is region there in
      subst (AreTwo region.found) same record {
        s = with_rows m.settled plan.rows;
        w = region_window m.settled region.found;
        v = legal.0;
        system = laws.system m.settled request plan is.settled.system legal;
        first = laws.region m.settled request plan (region_window m.settled region.found) region.found is.settled.system is.settled.accepted is.settled.enabled legal here;
        second = legal.1.region;
        apart = λ alike.
            let served = here.committed in
            false≢true (sym (legal.1.new served.0) ∙ ap (λ (f : Found). serves m.settled (region_range f) served.0) (sym alike) ∙ served.1);
      }

  two_of_release : (region : Live) → Contains m.live region → (job : RegionJob) → AreKept m (m.live ++ job.region ∷ []) → AreTwo region.found job.region.found
  two_of_release region (k, below, read) job kept =
      let fs : List Found = founds m.live in
      let all : AreRegions m.settled (fs ++ job.region.found ∷ []) = subst (AreRegions m.settled) (map-append (λ (r : Live). r.found) m.live (job.region ∷ [])) kept.all in
      let last : IsRegion m.settled job.region.found = last_is m.settled fs job.region.found all in
      let long = length-map m.live (λ (r : Live). r.found) in
      let own : get_or fs k region.found ≡ region.found = get_or-map (λ (r : Live). r.found) m.live k region region.found below ∙ ap (λ (r : Live). r.found) read in
      record {
        s = m.settled;
        w = region_window m.settled region.found;
        v = last.0;
        system = is.settled.system;
        first = live_is_region m is region (k, below, read);
        second = last.1;
        apart = λ alike.
            all.once k (length fs) region.found (omega (arith, below, long)) (omega (arith, length-append fs (job.region.found ∷ [])))
            (get_or_append_left fs (job.region.found ∷ []) region.found k (omega (arith, below, long)) ∙ own ∙ alike ∙ sym (get_or_push fs job.region.found region.found (length fs) refl));
      }

  two_by : (region : Live) → Contains m.live region → (job : RegionJob) (kind : JobKind) → IsJobOf m job kind → AreKept m (m.live ++ region_released job kind) → AreTwo region.found job.region.found
  two_by region there job (Creates rows) create kept = two_of_create region there job create.request create.plan create.legal (ap (λ (j : RegionJob). j.region.found) (sym create.made))
  two_by region there job (Releases place) release kept = two_of_release region there job kept

  module _ (job : RegionJob) (pending : m.job ≡ Some job) where
    pub two : (region : Live) → Contains m.live region → AreTwo region.found job.region.found
    two region there = two_by region there job job.kind (job_of m job is pending).kind (kept_of m job is pending)

    -- no live region holds one of its host bytes
    pub no_host : (h : ℕ) → job.region.found.base ≤ h → h < job.region.found.base + job.region.found.size → live_at m h ≡ None
    no_host h from below = go (live_at m h) refl
      where
        go : (o : Option Live) → live_at m h ≡ o → o ≡ None
        go None at = refl
        go (Some region) at =
            let (there, holds) = live_there m (λ (r : Live). has_host r.found h) region at in
            let bounds = and_parts (nat_le region.found.base h) (nat_lt h (region.found.base + region.found.size)) holds in
            let own = two region there in
            absurd (own.apart (laws.host own.s own.w own.v region.found job.region.found h own.system own.first own.second (leb-true region.found.base h bounds.0) (ltb-true h (region.found.base + region.found.size) bounds.1) from below))

    -- nor one of its device bytes
    pub no_device : (endpoint dpa : ℕ) (reply : Reply) → LiesInSpan job.region.found endpoint dpa → TellsHost m endpoint dpa reply → reply ≡ replies.Unmapped
    no_device endpoint dpa reply lies (unmapped none at) = at
    no_device endpoint dpa reply lies (carried region h there carries at) =
        let own = two region there in
        let inside = laws.inside m.settled (region_window m.settled region.found) region.found h endpoint dpa is.settled.system (live_is_region m is region there) carries in
        absurd (own.apart (laws.device own.s own.w own.v region.found job.region.found endpoint dpa own.system own.first own.second inside lies))

    -- nor has its name
    unnamed_by : (kind : JobKind) → IsJobOf m job kind → AreKept m (m.live ++ region_released job kind) → (region : Live) → Contains m.live region → region.name ≢ job.region.name
    unnamed_by (Creates rows) create kept region there same = All-contains (λ (r : Live). r.name ≢ job.region.name) m.live region create.unnamed there same
    unnamed_by (Releases place) release kept region (k, below, read) same =
        kept.names k (length m.live) region (omega (arith, below)) (omega (arith, length-append m.live (job.region ∷ [])))
        (ap (λ (r : Live). r.name) (get_or_append_left m.live (job.region ∷ []) region k below ∙ read) ∙ same ∙ sym (ap (λ (r : Live). r.name) (get_or_push m.live job.region region (length m.live) refl)))

    pub no_name : live_named m job.region.name ≡ None
    no_name = go (live_named m job.region.name) refl
      where
        go : (o : Option Live) → live_named m job.region.name ≡ o → o ≡ None
        go None at = refl
        go (Some region) at =
            let own = live_there m (λ (r : Live). bytes_eq r.name job.region.name) region at in
            absurd (unnamed_by job.kind (job_of m job is pending).kind (kept_of m job is pending) region own.0 (same_bytes region.name job.region.name own.1))
