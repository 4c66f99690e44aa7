-- The jobs that commands ask for, or the first refusal, in the order in which they are tried (this project's rules).
use Rattle.std.specs.Prelude.{◌≡◌, ℕ, nat_le, if◌then◌else◌, List, [], ◌∷◌, length, slice_get, Option, Some, None, option_map, option_and_then, is_none, Result, Ok, Err}
use Rattle.std.specs.Option.{option_map_or}
use Rattle.cxl_model.specs.declared.plan.Plan.{Plan}
use Rattle.cxl_model.specs.declared.plan.Row.{Row}
use Rattle.cxl_legal.specs.Firsts.{first_there}
use Rattle.cxl_script.specs.declared.command.Create.{Create}
use Rattle.cxl_apply.specs.Releases.{first_locked, first_not_last}
use Rattle.cxl_reply.specs.declared.reply.Reply.{Reply}
use Rattle.cxl_reply.specs.declared.reply.Reply.TheVariants as replies
use Rattle.cxl_reply.specs.declared.details.Spot.{Spot}
use Rattle.cxl_request.specs.Endpoints.{first_unknown}
use Rattle.cxl_request.specs.Requests.{AsksForPlan}
use Rattle.cxl_machine.specs.Machine.{Live, RegionJob, Machine, live_named, place_named}
use Rattle.cxl_model.specs.Listed.{region_limit}
use Rattle.cxl_machine.specs.Jobs.{create_job, release_job}

-- ---- refusals, each where it holds

-- a job is pending
abbrev pub busy : Machine → Option Reply
busy m = option_map (λ (job : RegionJob). replies.Busy job.region.name) m.job

-- a live region has the name
abbrev pub name_taken : Machine → List ℕ → Option Reply
name_taken m name = option_map (λ (region : Live). replies.NameTaken name) (live_named m name)

-- of the first name on the line that no endpoint has
abbrev pub no_endpoint : Machine → List (List ℕ) → Option Reply
no_endpoint m names = option_map replies.NoEndpoint (first_unknown m.settled.nodes names)

-- as many regions are live as may be
abbrev pub regions_full : Machine → Option Reply
regions_full m = if nat_le region_limit (length m.live) then Some replies.RegionsFull else None

-- no live region has the name
abbrev pub no_region : Machine → List ℕ → Option Reply
no_region m name = if is_none (live_named m name) then Some (replies.NoRegion name) else None

-- the node and the decoder of a row
abbrev pub spot_of : Row → Spot
spot_of row = record { node = row.node; decoder = row.index }

-- a decoder of the region is locked: that of the least node
abbrev pub locked : Machine → List ℕ → Option Reply
locked m name =
    option_map (λ row. replies.Locked (spot_of row)) (option_and_then (λ (region : Live). first_locked m.settled region.found) (live_named m name))

-- another decoder above one of the region's is committed: in the least node
abbrev pub not_last : Machine → List ℕ → Option Reply
not_last m name =
    option_map (λ row. replies.NotLast (spot_of row)) (option_and_then (λ (region : Live). first_not_last m.settled region.found) (live_named m name))

-- ---- a create

-- what is refused before a plan is sought
abbrev pub refusal_of_create : Machine → Create → Option Reply
refusal_of_create m create =
    first_there (busy m ∷ name_taken m create.name ∷ no_endpoint m create.endpoints ∷ regions_full m ∷ [])

-- the job of the plan, where there is one
abbrev pub job_of_plan : Machine → Result Plan Reply → Result RegionJob Reply
job_of_plan m (Ok plan) = Ok (create_job m.settled plan)
job_of_plan m (Err refusal) = Err refusal

-- a plan for the line is sought
abbrev pub AsksUnrefused : Machine → Create → Result RegionJob Reply → Type 0
AsksUnrefused m create asked = (answer : Result Plan Reply) × AsksForPlan m.settled create answer × (asked ≡ job_of_plan m answer)

-- a create asks for a job, unless something stands against it before a plan is sought
abbrev pub AsksUnless : Machine → Create → Option Reply → Result RegionJob Reply → Type 0
AsksUnless m create (Some refusal) asked = asked ≡ Err refusal
AsksUnless m create None asked = AsksUnrefused m create asked

-- the job that a create line asks for, or why it is refused
abbrev pub AsksCreate : Machine → Create → Result RegionJob Reply → Type 0
AsksCreate m create asked = AsksUnless m create (refusal_of_create m create) asked

-- ---- a release

-- the first of these that stands against a release
abbrev pub refusal_of_release : Machine → List ℕ → Option Reply
refusal_of_release m name = first_there (busy m ∷ no_region m name ∷ locked m name ∷ not_last m name ∷ [])

-- the release of the live region at a place
abbrev pub release_at : Machine → ℕ → Option RegionJob
release_at m place = option_map (release_job m.settled place) (slice_get m.live place)

-- the release of the live region of a name
abbrev pub release_named : Machine → List ℕ → Option RegionJob
release_named m name = option_and_then (release_at m) (place_named m name)

-- that, unless something stands against it
abbrev pub job_unless : Machine → List ℕ → Option Reply → Result RegionJob Reply
job_unless m name (Some refusal) = Err refusal
job_unless m name None = option_map_or Ok (release_named m name) (Err (replies.NoRegion name))

-- the job that a line asks for that ends a region, or why it is refused
abbrev pub asked_release : Machine → List ℕ → Result RegionJob Reply
asked_release m name = job_unless m name (refusal_of_release m name)
