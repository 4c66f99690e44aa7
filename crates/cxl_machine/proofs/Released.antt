-- A region that was made holds no piece, and one that is gone leaves no block of its spans.
use Rattle.std.proofs.Common.{◌≡◌, ℕ, ◌+◌, ◌*◌, ◌<◌, List, map, length, get_or, Option, Some, None, refl, sym, ap, ◌∙◌, subst, arith}
use Rattle.std.specs.Prelude.{Contains}
use Rattle.std.specs.FinMap as fin
use Rattle.std.proofs.lemmas.List.{append-nil, get_or-map, length-map}
use Rattle.std.proofs.lemmas.List.Elements.{Contains-get_or}
use Rattle.cxl_media.specs.MediaState.{MediaState}
use Rattle.cxl_model.specs.Bytes.{LiesInSpan}
use Rattle.cxl_model.specs.Contents.{AreMediaOf, Holding}
use Rattle.cxl_model.specs.Regions.{Carries}
use Rattle.cxl_model.specs.declared.plan.Row.{Row}
use Rattle.cxl_machine.specs.Machine.{Live, RegionJob, JobKind, Creates, Releases, Machine, region_window, kept_regions, holding_of}
use Rattle.cxl_machine.specs.Jobs.{finished, live_when_done}
use Rattle.cxl_machine.specs.Sound.{IsMachine, IsJobOf, block_told}
use Rattle.cxl_machine.proofs.KeepingJobs.{job_of}
use Rattle.cxl_machine.proofs.LiveRegions.{live_is_region}
use Rattle.cxl_machine.proofs.Unmapped.{ApartLaws, two}

-- ---- a create

made_empty : (m : Machine) (job : RegionJob) (kind : JobKind) (rows : List Row) → kind ≡ Creates rows → IsJobOf m job kind → job.region.contents ≡ fin.empty
made_empty m job (Creates own) rows same create = ap (λ (j : RegionJob). j.region.contents) create.made
made_empty m job (Releases place) rows same release = absurd (differ same)
  where
    differ : Releases place ≡ Creates rows → ⊥
    differ e = cc

pub made_holds_none : (m : Machine) (job : RegionJob) (rows : List Row) → IsMachine m → m.job ≡ Some job → job.kind ≡ Creates rows → job.region.contents ≡ fin.empty
made_holds_none m job rows is pending same = made_empty m job job.kind rows same (job_of m job is pending).kind

-- ---- a release

module _ (laws : ApartLaws) (m : Machine) (is : IsMachine m) (job : RegionJob) (pending : m.job ≡ Some job) (place : ℕ) (kind : job.kind ≡ Releases place) (ended : IsMachine (finished job m)) where
  abbrev t : Machine
  t = finished job m

  pub no_block : (media : MediaState) (endpoint block : ℕ) → LiesInSpan job.region.found endpoint (256 * block) → AreMediaOf (map (holding_of t.settled) (kept_regions t)) (block_told media)
      → block_told media endpoint block ≡ None
  no_block media endpoint block lies are = go (block_told media endpoint block) refl
    where
      go : (o : Option (List ℕ)) → block_told media endpoint block ≡ o → o ≡ None
      go None there = refl
      go (Some bytes) there =
          let (holding, n, inside, keeps) = are.only endpoint block bytes there in
          let (k, below, read) = inside in
          let long = length-map (kept_regions t) (holding_of t.settled) in
          let low : k < length (kept_regions t) = omega (arith, below, long) in
          let region : Live = get_or (kept_regions t) k job.region in
          let same : holding_of t.settled region ≡ holding = sym (get_or-map (holding_of t.settled) (kept_regions t) k job.region holding low) ∙ read in
          let carries : Carries region.found (region_window t.settled region.found) (region.found.base + 256 * n) endpoint (256 * block) =
          subst (λ (h : Holding). Carries h.found h.window (h.found.base + 256 * n) endpoint (256 * block)) (sym same) keeps.carried in
          let here : Contains t.live region = subst (λ (rs : List Live). Contains rs region) (append-nil t.live) (Contains-get_or (kept_regions t) k job.region low) in
          let live : Contains m.live region = subst (λ (x : JobKind). Contains (live_when_done job x m.live) region) kind here in
          let spans = laws.inside t.settled (region_window t.settled region.found) region.found (region.found.base + 256 * n) endpoint (256 * block) ended.settled.system (live_is_region t ended region here) carries in
          let own = two laws m is job pending region live in
          absurd (own.apart (laws.device own.s own.w own.v region.found job.region.found endpoint (256 * block) own.system own.first own.second spans lies))
