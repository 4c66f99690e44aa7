-- What a session stands for: a host whose image is settled, regions of flat bytes, frames, and the job that is pending
-- (this project's rule).
use Rattle.std.specs.Prelude.{◌≡◌, ℕ, ◌+◌, ◌-◌, nat_lt, nat_le, ◌&&◌, Bool, false, if◌then◌else◌, List, [], ◌∷◌, ◌++◌, map, find, position, slice_get, sum_by, replicate, Option, Some, None, unwrap_or}
use Rattle.std.specs.Str.{bytes_eq}
use Rattle.std.specs.FinMap as map
use Rattle.cxl_regs.specs.Registers.{Registers}
use Rattle.cxl_window.specs.Fields.{WindowFields}
use Rattle.cxl_window.specs.declared.window.Verdict.TheVariants.{Size}
use Rattle.cxl_deal.specs.Weaves.{WeaveFields}
use Rattle.cxl_model.specs.declared.found.Found.{Found}
use Rattle.cxl_model.specs.declared.plan.Row.{Row}
use Rattle.cxl_model.specs.System.{System}
use Rattle.cxl_model.specs.Contents.{Contents, Holding}
use Rattle.cxl_model.specs.Regions.{weave_fields}
use Rattle.cxl_apply.specs.declared.write.Write.{Write}
use Rattle.cxl_apply.specs.Jobs.{blocks_done}

-- ---- the parts

-- a region by its name, with its spans and the bytes that it holds
pub record Live : Type 0 where
  pub name : List ℕ
  pub found : Found
  pub contents : Contents

-- a job makes a region, by these rows, or ends the one that stood at this place among the live ones
pub data JobKind : Type 0 where
  Creates : (rows : List Row) → JobKind
  Releases : (place : ℕ) → JobKind

-- a job with its region, its register writes in order, and how many of them are made
pub record RegionJob : Type 0 where
  pub kind : JobKind
  pub region : Live
  pub writes : List Write
  pub done : ℕ

-- The image in which no write of a job is made, over its nodes and windows; the live regions in the order in which they
-- were made; the number of frames; and the job, where one is pending.
pub record Machine : Type 0 where
  pub settled : System
  pub live : List Live
  pub frames : ℕ
  pub job : Option RegionJob

-- ---- finding a region

-- the live region of a name
abbrev pub live_named : Machine → List ℕ → Option Live
live_named m name = find (λ (region : Live). bytes_eq region.name name) m.live

-- its place among the live ones
abbrev pub place_named : Machine → List ℕ → Option ℕ
place_named m name = position (λ (region : Live). bytes_eq region.name name) m.live

-- a host byte lies in the region
abbrev pub has_host : Found → ℕ → Bool
has_host found h = nat_le found.base h && nat_lt h (found.base + found.size)

-- the live region that holds a host address
abbrev pub live_at : Machine → ℕ → Option Live
live_at m h = find (λ (region : Live). has_host region.found h) m.live

-- ---- windows

-- what is said of a window that is not there; each region has its window
abbrev pub absent_window : WindowFields
absent_window = record { index = 0; base = 0; size = 0; ways = 1; gran = 0; xor = false; maps = replicate 4 0; restrict = 0; targets = 0 ∷ []; verdict = Size }

-- the window in which a region lies
abbrev pub region_window : System → Found → WindowFields
region_window s found = unwrap_or (slice_get s.windows found.window) absent_window

-- how its bytes are dealt
abbrev pub weave_of : System → Found → WeaveFields
weave_of s found = weave_fields found (region_window s found)

-- a region with its window and its bytes
abbrev pub holding_of : System → Live → Holding
holding_of s region = record { found = region.found; window = region_window s region.found; contents = region.contents }

-- ---- registers

-- the settled blocks after the writes of a job that are made
abbrev pub blocks_with : List Registers → Option RegionJob → List Registers
blocks_with blocks None = blocks
blocks_with blocks (Some job) = blocks_done blocks job.writes job.done

-- what the registers of a machine hold
abbrev pub image_of : Machine → List Registers
image_of m = blocks_with m.settled.blocks m.job

-- that image as a system
abbrev pub present : Machine → System
present m = record m.settled { blocks = image_of m }

-- ---- hosts

-- the second has the nodes, the windows and the frames of the first
pub record HasSameHost (m n : Machine) : Type 0 where
  pub nodes : n.settled.nodes ≡ m.settled.nodes
  pub windows : n.settled.windows ≡ m.settled.windows
  pub frames : n.frames ≡ m.frames

-- ---- frames

-- the region of a release keeps its bytes till the job is done
abbrev pub region_released : RegionJob → JobKind → List Live
region_released job (Creates rows) = []
region_released job (Releases place) = job.region ∷ []

-- the region that is being ended, if one is
abbrev pub under_release : Option RegionJob → List Live
under_release None = []
under_release (Some job) = region_released job job.kind

-- the regions that have bytes: the live ones, and the one under release
abbrev pub kept_regions : Machine → List Live
kept_regions m = m.live ++ under_release m.job

-- how many pieces of 256 bytes they hold, each of which takes a frame
abbrev pub pieces_held : Machine → ℕ
pieces_held m = sum_by (λ (region : Live). map.len region.contents) (kept_regions m)

-- the frames that no piece has
abbrev pub free_frames : Machine → ℕ
free_frames m = m.frames - pieces_held m

-- ---- changes

-- the live region of this name holds these bytes instead
abbrev pub with_contents : List ℕ → Contents → Machine → Machine
with_contents name contents m = record m {
  live =
      map (λ (region : Live). if bytes_eq region.name name then record region { contents = contents } else region) m.live;
}
