-- For which machine a session stands, with registers and media (this project's rule).
use Rattle.std.specs.Prelude.{◌≡◌, ℕ, map, Option, Some, None}
use Rattle.std.specs.List.{AllZip}
use Rattle.cxl_bus.specs.Failed.{HasFailed}
use Rattle.cxl_bus.specs.RegsState.{RegsState}
use Rattle.cxl_bus.specs.Trail.{trail_with}
use Rattle.cxl_media.specs.MediaState.{MediaState}
use Rattle.cxl_model.specs.declared.found.Found.{Found}
use Rattle.cxl_model.specs.System.{System}
use Rattle.cxl_model.specs.Plans.{with_rows}
use Rattle.cxl_model.specs.Contents.{AreMediaOf}
use Rattle.cxl_walk.specs.Keeping.{KeptFields, IsKept}
use Rattle.cxl_reply.specs.declared.reply.Reply.{Reply}
use Rattle.cxl_machine.specs.Machine.{Live, RegionJob, JobKind, Creates, Releases, Machine, region_window, holding_of, kept_regions, image_of}
use Rattle.cxl_machine.specs.Sound.{IsSound, block_told}
use Rattle.cxl_machine.specs.Scripts.{Turn}
use Rattle.cxl_session.specs.State.{JobFields, SessionState}

-- ---- what a session keeps, and a machine

-- where the region of a release stood
abbrev pub released_place : JobKind → Option ℕ
released_place (Creates rows) = None
released_place (Releases place) = Some place

-- the image in which the job's region is one: with its rows committed, or the settled one
abbrev pub image_of_region : JobKind → System → System
image_of_region (Creates rows) s = with_rows s rows
image_of_region (Releases place) s = s

-- the routes are those of the region in an image
abbrev pub IsKeptIn : System → Found → KeptFields → Type 0
IsKeptIn s found kept = IsKept s (region_window s found) found kept

-- the pending job is the machine's
pub record IsJobFor (m : Machine) (own : JobFields) (job : RegionJob) : Type 0 where
  pub place : own.place ≡ released_place job.kind
  pub name : own.name ≡ job.region.name
  pub found : own.found ≡ job.region.found
  pub writes : own.writes ≡ job.writes
  pub done : own.done ≡ job.done
  -- its routes are ready, so that its end takes no memory
  pub kept : IsKeptIn (image_of_region job.kind m.settled) job.region.found own.kept

-- the session has the job of the machine
abbrev pub HasSameJob : Machine → Option JobFields → Option RegionJob → Type 0
HasSameJob m None None = Unit {0}
HasSameJob m (Some own) (Some job) = IsJobFor m own job
HasSameJob m None (Some job) = ⊥
HasSameJob m (Some own) None = ⊥

-- what the session keeps is the machine's
pub record StandsFor (session : SessionState) (m : Machine) : Type 0 where
  pub nodes : m.settled.nodes ≡ session.topo.nodes
  pub windows : m.settled.windows ≡ session.windows
  pub frames : m.frames ≡ session.topo.frames
  pub image : session.image ≡ image_of m
  pub names : session.names ≡ map (λ (region : Live). region.name) m.live
  pub founds : session.founds ≡ map (λ (region : Live). region.found) m.live
  pub kept : AllZip (λ (region : Live) kept. IsKeptIn m.settled region.found kept) m.live session.kept
  pub job : HasSameJob m session.job m.job

-- ---- with registers and media

-- and registers and media hold the machine
pub record IsAt (session : SessionState) (regs : RegsState) (media : MediaState) (m : Machine) : Type 0 where
  pub stands : StandsFor session m
  pub sound : IsSound m regs.blocks media

-- media holds the bytes of the machine's regions
abbrev pub HoldsMemory : Machine → MediaState → Type 0
HoldsMemory m media = AreMediaOf (map (holding_of m.settled) (kept_regions m)) (block_told media)

-- session, registers and media stand for some machine
abbrev pub Stands : SessionState → RegsState → MediaState → Type 0
Stands session regs media = (m : Machine) × IsAt session regs media m

-- whatever machine they stand for, P holds of it
abbrev pub ForEachMachine : SessionState → RegsState → MediaState → (Machine → Type 0) → Type 0
ForEachMachine session regs media P = (m : Machine) → IsAt session regs media m → P m

-- A turn is taken: this is its reply, all stand for its machine, its words are sent, and its calls of the bus failed where it
-- says, each of them counted, and no other.
pub record HasTaken (turn : Turn) (reply : Reply) (session : SessionState) (old new : RegsState) (media : MediaState) : Type 0 where
  pub told : reply ≡ turn.reply
  pub at : IsAt session new media turn.machine
  pub words : new.trail ≡ trail_with old.trail turn.trail
  pub fails : HasFailed old new turn.failed
