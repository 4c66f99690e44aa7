-- What the registers of a machine carry, and that the region of its job is none of the live ones.
use Rattle.std.proofs.Common.{◌≡◌, ℕ, ◌+◌, ◌<◌, ◌≤◌, List, get_or, Option, Some, None, refl, sym, subst}
use Rattle.std.specs.Prelude.{All, Contains, IfSome}
use Rattle.std.proofs.lemmas.List.Elements.{All-map, All-contains, Contains-get_or}
use Rattle.cxl_window.specs.Fields.{WindowFields}
use Rattle.cxl_model.specs.declared.found.Found.{Found}
use Rattle.cxl_model.specs.Bytes.{LiesInSpan}
use Rattle.cxl_model.specs.Regions.{IsRegion, IsRegionIn, Carries}
use Rattle.cxl_model.specs.System.{System, IsSystem}
use Rattle.cxl_reply.specs.declared.reply.Reply.{Reply}
use Rattle.cxl_reply.specs.declared.reply.Reply.TheVariants as replies
use Rattle.cxl_walk.specs.Carrying.{CarriesRegions}
use Rattle.cxl_machine.specs.Machine.{Live, RegionJob, Machine, live_at, live_named, region_window, present}
use Rattle.cxl_machine.specs.Accesses.{TellsHost, carried}
use Rattle.cxl_machine.specs.Reports.{live_regions}
use Rattle.cxl_machine.specs.Sound.{IsMachine}
use Rattle.cxl_machine.proofs.Present.{StaysLaw}
use Rattle.cxl_flat.specs.Flat.{IsUnmapped, IsFlat}

-- each of their spans is that of a live region
of_live : (m : Machine) (found : Found) → Contains (live_regions m) found → (region : Live) × Contains m.live region × (region.found ≡ found)
of_live m found there =
    let P : Found → Type 0 = λ f. (region : Live) × Contains m.live region × (region.found ≡ f) in
    All-contains P (live_regions m) found (All-map P (λ (r : Live). r.found) m.live (λ k d low. (get_or m.live k d, Contains-get_or m.live k d low, refl))) there

pub are_regions : StaysLaw → (m : Machine) → IsMachine m → All (IsRegion (present m)) (live_regions m)
are_regions law m is =
    All-map (IsRegion (present m)) (λ (r : Live). r.found) m.live
    (λ k d low. (region_window m.settled (get_or m.live k d).found, (law m (get_or m.live k d) is (Contains-get_or m.live k d low)).1))

-- what is known of the region of a job
pub record PendingLaws : Type 0 where
  pub stays : StaysLaw
  pub onto : (s : System) (w : WindowFields) (found : Found) (endpoint dpa : ℕ) → IsSystem s → IsRegionIn s w found → LiesInSpan found endpoint dpa → (h : ℕ) × Carries found w h endpoint dpa
  pub host : (m : Machine) (job : RegionJob) (h : ℕ) → IsMachine m → m.job ≡ Some job → job.region.found.base ≤ h → h < job.region.found.base + job.region.found.size → live_at m h ≡ None
  pub device : (m : Machine) (job : RegionJob) (endpoint dpa : ℕ) (reply : Reply) → IsMachine m → m.job ≡ Some job → LiesInSpan job.region.found endpoint dpa → TellsHost m endpoint dpa reply → reply ≡ replies.Unmapped
  pub name : (m : Machine) (job : RegionJob) → IsMachine m → m.job ≡ Some job → live_named m job.region.name ≡ None

module _ (laws : PendingLaws) (m : Machine) (is : IsMachine m) where
  mapped_apart : (h : ℕ) (name : List ℕ) → replies.Up record { h = h; name = name } ≡ replies.Unmapped → ⊥
  mapped_apart h name same = cc

  -- a device byte of a live region is told as its host byte, and so is none of the job's region
  no_device : (job : RegionJob) → m.job ≡ Some job → (found : Found) (endpoint dpa : ℕ) → Contains (live_regions m) found → LiesInSpan found endpoint dpa → ¬ (LiesInSpan job.region.found endpoint dpa)
  no_device job pending found endpoint dpa there lies inside =
      let own = of_live m found there in
      let here : LiesInSpan own.0.found endpoint dpa = subst (λ (f : Found). LiesInSpan f endpoint dpa) (sym own.2) lies in
      let w : WindowFields = region_window m.settled own.0.found in
      let byte = laws.onto m.settled w own.0.found endpoint dpa is.settled.system (laws.stays m own.0 is own.1).0 here in
      let told : TellsHost m endpoint dpa (replies.Up record { h = byte.0; name = own.0.name }) = carried own.0 byte.0 own.1 byte.1 refl in
      mapped_apart byte.0 own.0.name (laws.device m job endpoint dpa _ is pending inside told)

  unmapped : (o : Option RegionJob) → m.job ≡ o → IfSome o (IsUnmapped m)
  unmapped None at = tt
  unmapped (Some job) at = record {
    name = laws.name m job is at;
    host = λ h from below. laws.host m job h is at from below;
    device = no_device job at;
  }

  pub is_flat : CarriesRegions (present m) (live_regions m) → IsFlat m
  is_flat carries = record { machine = is; carries = carries; pending = unmapped m.job refl }
