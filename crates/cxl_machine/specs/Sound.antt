-- Which machines a session can stand for, what registers and media then hold, and the machine with which it opens (this
-- project's rules).
use Rattle.std.specs.Prelude.{◌≡◌, ◌≢◌, ℕ, ◌+◌, ◌<◌, ◌≤◌, true, List, ◌++◌, length, map, All, AllPairs, IfSome, Option, None, codes, decimal}
use Rattle.std.specs.List.{enumerate_from}
use Rattle.std.specs.FinMap as finmap
use Rattle.cxl_enc.specs.Limits.{frame_limit}
use Rattle.cxl_regs.specs.Registers.{Registers}
use Rattle.cxl_media.specs.MediaState.{MediaState}
use Rattle.cxl_model.specs.declared.found.Found.{Found}
use Rattle.cxl_model.specs.declared.plan.Plan.{Plan}
use Rattle.cxl_model.specs.declared.request.Request.{Request}
use Rattle.cxl_model.specs.System.{System, IsSystem}
use Rattle.cxl_model.specs.Accepted.{IsAccepted}
use Rattle.cxl_model.specs.Listed.{AreRegions, AreRegionsByBase, region_limit}
use Rattle.cxl_model.specs.Plans.{IsLegalPlan}
use Rattle.cxl_model.specs.Contents.{AreContents, AreMediaOf}
use Rattle.cxl_legal.specs.Used.{HasBytePorts}
use Rattle.cxl_apply.specs.Releases.{first_locked, first_not_last}
use Rattle.cxl_machine.specs.Machine.{Live, RegionJob, JobKind, Creates, Releases, Machine, kept_regions, pieces_held, holding_of, image_of}
use Rattle.cxl_machine.specs.Jobs.{create_job, release_job, total_of}

-- ---- a job

-- the job of a legal plan, under a name that no live region has, while there is room for one more
pub record IsCreate (m : Machine) (job : RegionJob) : Type 0 where
  pub plan : Plan
  pub request : Request
  pub legal : IsLegalPlan m.settled request plan
  pub made : job ≡ record (create_job m.settled plan) { done = job.done }
  pub unnamed : All (λ (region : Live). region.name ≢ job.region.name) m.live
  pub room : length m.live < region_limit

-- the release of a region of the image that has no locked decoder and no committed one above, from a place that is there
pub record IsRelease (m : Machine) (job : RegionJob) (place : ℕ) : Type 0 where
  pub made : job ≡ record (release_job m.settled place job.region) { done = job.done }
  pub unlocked : first_locked m.settled job.region.found ≡ None
  pub last : first_not_last m.settled job.region.found ≡ None
  pub there : place ≤ length m.live

-- the job is a create or a release, by its kind
abbrev pub IsJobOf : Machine → RegionJob → JobKind → Type 0
IsJobOf m job (Creates rows) = IsCreate m job
IsJobOf m job (Releases place) = IsRelease m job place

-- it is one of these, and not all of its writes are made
pub record IsJob (m : Machine) (job : RegionJob) : Type 0 where
  pub kind : IsJobOf m job job.kind
  pub part : job.done < total_of job

-- ---- the regions

-- they are the regions of the settled image, each once, under different names, and no more than may live
pub record AreKept (m : Machine) (regions : List Live) : Type 0 where
  pub all : AreRegions m.settled (map (λ (region : Live). region.found) regions)
  pub names : AllPairs (λ (region other : Live). region.name ≢ other.name) regions
  pub contents : All (λ (region : Live). AreContents region.found region.contents) regions
  pub few : length regions ≤ region_limit

-- ---- the machine

-- the image is accepted, over a legal tree and windows made with its bridges, and every block decodes
pub record IsSettled (s : System) : Type 0 where
  pub system : IsSystem s
  pub accepted : IsAccepted s
  pub enabled : All (λ (block : Registers). block.enabled ≡ true) s.blocks
  -- ports are bytes
  pub ports : HasBytePorts s.nodes

-- What a machine is by itself: its image is settled; the live regions and the one under release are each once the regions of
-- that image, under different names, 256 at the most; its job is that of a legal plan under a name that is free, or the
-- release of a region with no locked decoder and none committed above its own; and there is a frame for each piece.
pub record IsMachine (m : Machine) : Type 0 where
  pub settled : IsSettled m.settled
  pub regions : AreKept m (kept_regions m)
  pub job : IfSome m.job (IsJob m)
  pub frames : (1 ≤ m.frames) × (m.frames ≤ frame_limit)
  -- there is a frame for each piece
  pub held : pieces_held m ≤ m.frames

-- the block of an endpoint with this number, where media has it
abbrev pub block_told : MediaState → ℕ → ℕ → Option (List ℕ)
block_told media endpoint block = finmap.get media.blocks (endpoint, block)

-- The machine, and what registers and media hold for it: the settled image after the writes that are made, exactly the
-- pieces of those regions where they are carried to, and so many free frames.
pub record IsSound (m : Machine) (blocks : List Registers) (media : MediaState) : Type 0 where
  pub machine : IsMachine m
  pub registers : blocks ≡ image_of m
  pub memory : AreMediaOf (map (holding_of m.settled) (kept_regions m)) (block_told media)
  pub frames : media.free + pieces_held m ≡ m.frames

-- ---- how a session opens

-- `auto0`, `auto1` and so on
abbrev pub auto_name : ℕ → List ℕ
auto_name i = codes "auto" ++ decimal i

-- a region that an opening finds, without bytes
abbrev pub opened_region : ℕ × Found → Live
opened_region (i, found) = record { name = auto_name i; found = found; contents = finmap.empty }

-- decoding is enabled in every block
abbrev pub enabled_blocks : List Registers → List Registers
enabled_blocks blocks = map (λ (block : Registers). record block { enabled = true }) blocks

-- the image with decoding enabled in every block
abbrev pub enabled_system : System → System
enabled_system s = record s { blocks = enabled_blocks s.blocks }

-- Of an accepted image: that image with every block enabled, its regions by rising base and without bytes, and no job.
pub record Opens (start : System) (frames : ℕ) (m : Machine) : Type 0 where
  pub accepted : IsAccepted start
  pub regions : List Found
  pub listed : AreRegionsByBase start regions
  pub few : length regions ≤ region_limit
  pub machine : m ≡ record { settled = enabled_system start; live = map opened_region (enumerate_from 0 regions); frames = frames; job = None }
