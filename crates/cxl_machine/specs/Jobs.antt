-- How a machine changes with a job: it begins, some of its writes are made, it ends, or it is undone (this project's rules).
use Rattle.std.specs.Prelude.{ℕ, List, [], ◌∷◌, ◌++◌, map, reverse, length, insert, remove, Some, None}
use Rattle.std.specs.List.{flat_map}
use Rattle.std.specs.FinMap as map
use Rattle.cxl_model.specs.declared.plan.Plan.{Plan}
use Rattle.cxl_model.specs.declared.plan.Row.{Row}
use Rattle.cxl_model.specs.System.{System}
use Rattle.cxl_model.specs.Plans.{with_rows}
use Rattle.cxl_apply.specs.declared.write.Write.{Write}
use Rattle.cxl_apply.specs.Jobs.{row_writes, release_write}
use Rattle.cxl_apply.specs.Releases.{rows_of, system_without}
use Rattle.cxl_machine.specs.Machine.{Live, RegionJob, JobKind, Creates, Releases, Machine}

-- ---- the job of a plan and of a release

-- a plan's rows stand in rising node order, and its writes go from the greatest node to the least
abbrev pub create_writes : System → List Row → List Write
create_writes s rows = flat_map (row_writes s.blocks) (reverse rows)

-- the writes of a release go from the least node to the greatest
abbrev pub release_writes : System → Live → List Write
release_writes s region = map release_write (rows_of s region.found)

-- the region of a plan, with no byte in it
abbrev pub planned_region : Plan → Live
planned_region plan = record { name = plan.name; found = plan.found; contents = map.empty }

-- with no write made
abbrev pub create_job : System → Plan → RegionJob
create_job s plan =
    record { kind = Creates plan.rows; region = planned_region plan; writes = create_writes s plan.rows; done = 0 }

-- the release of the region at this place, with no write made
abbrev pub release_job : System → ℕ → Live → RegionJob
release_job s place region =
    record { kind = Releases place; region = region; writes = release_writes s region; done = 0 }

-- how many writes a job has
abbrev pub total_of : RegionJob → ℕ
total_of job = length job.writes

-- ---- the live regions

-- a region under release is not live
abbrev pub live_while : JobKind → List Live → List Live
live_while (Creates rows) live = live
live_while (Releases place) live = remove live place

-- a region that was made is the last
abbrev pub live_when_done : RegionJob → JobKind → List Live → List Live
live_when_done job (Creates rows) live = live ++ job.region ∷ []
live_when_done job (Releases place) live = live

-- a region whose release is undone is live again, at its old place
abbrev pub live_when_undone : RegionJob → JobKind → List Live → List Live
live_when_undone job (Creates rows) live = live
live_when_undone job (Releases place) live = insert live place job.region

-- the image with the rows committed, or with the region's decoders released
abbrev pub settled_by : RegionJob → JobKind → System → System
settled_by job (Creates rows) s = with_rows s rows
settled_by job (Releases place) s = system_without s job.region.found

-- ---- machines

-- the job is pending, with so many of its writes made
abbrev pub at_done : RegionJob → ℕ → Machine → Machine
at_done job done m = record m { job = Some (record job { done = done }) }

-- The job is begun. A region that is being made is not there till the last write; one that is being ended is not live from
-- here on.
abbrev pub begun : RegionJob → Machine → Machine
begun job m = at_done job job.done (record m { live = live_while job.kind m.live })

-- the job that is pending has made its last write: the image is settled with the plan's rows committed, or with the region's
-- decoders released
abbrev pub finished : RegionJob → Machine → Machine
finished job m = record m { settled = settled_by job job.kind m.settled; live = live_when_done job job.kind m.live; job = None }

-- the job that is pending is undone whole: a region that was being ended is live again at its old place
abbrev pub undone : RegionJob → Machine → Machine
undone job m = record m { live = live_when_undone job job.kind m.live; job = None }
