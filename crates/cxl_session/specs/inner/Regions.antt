-- How what a session keeps changes with a job: it begins, it ends, or it is undone.
use Rattle.std.specs.Prelude.{◌≡◌, ℕ, ◌≤◌, List, [], ◌∷◌, ◌++◌, insert, remove, slice_get, Option, Some, None}
use Rattle.cxl_regs.specs.Registers.{Registers}
use Rattle.cxl_bus.specs.RegsState.{RegsState}
use Rattle.cxl_bus.specs.Trail.{trail_with}
use Rattle.cxl_model.specs.declared.found.Found.{Found}
use Rattle.cxl_walk.specs.Keeping.{KeptFields}
use Rattle.cxl_apply.specs.Steps.{JobState}
use Rattle.cxl_apply.specs.Jobs.{AreTakenBack, blocks_done}
use Rattle.cxl_apply.specs.WordsSent.{words_made, words_taken_back}
use Rattle.cxl_media.specs.MediaState.{MediaState, frame_count}
use Rattle.cxl_move.specs.Sides.{IsCleared}
use Rattle.cxl_reply.specs.declared.reply.Reply.{Reply}
use Rattle.cxl_reply.specs.declared.reply.Reply.TheVariants as replies
use Rattle.cxl_reply.specs.declared.details.Named.{Named}
use Rattle.cxl_machine.specs.Machine.{RegionJob, Machine}
use Rattle.cxl_machine.specs.Jobs.{begun, undone}
use Rattle.cxl_machine.specs.Fails.{FailsWhole}
use Rattle.cxl_machine.specs.Outcomes.{BusOutcome}
use Rattle.cxl_machine.specs.Regions.{CarriesOutWhole}
use Rattle.cxl_machine.specs.Scripts.{Turn, answer_of}
use Rattle.cxl_machine.specs.Trails.{SendsWhole}
use Rattle.cxl_session.specs.Standing.{IsAt, HasTaken}
use Rattle.cxl_session.specs.State.{JobFields, SessionState}

-- ---- the lists of the live regions, by the place of a release

-- a release takes its region out
abbrev pub taken_out : {A : Type 0} → Option ℕ → List A → List A
taken_out None xs = xs
taken_out (Some place) xs = remove xs place

-- where it is undone, that is there again
abbrev pub taken_in : {A : Type 0} → Option ℕ → A → List A → List A
taken_in None x xs = xs
taken_in (Some place) x xs = insert xs place x

-- the region of a create that is done is the last
abbrev pub put_behind : {A : Type 0} → Option ℕ → A → List A → List A
put_behind None x xs = xs ++ x ∷ []
put_behind (Some place) x xs = xs

-- ---- the session

-- the job is begun
abbrev pub session_begun : JobFields → SessionState → SessionState
session_begun own session = record session {
  names = taken_out own.place session.names;
  founds = taken_out own.place session.founds;
  kept = taken_out own.place session.kept;
  job = Some own;
}

-- it is undone whole
abbrev pub session_undone : JobFields → SessionState → SessionState
session_undone own session = record session {
  names = taken_in own.place own.name session.names;
  founds = taken_in own.place own.found session.founds;
  kept = taken_in own.place own.kept session.kept;
  job = None;
}

-- it has made its last write
abbrev pub session_finished : JobFields → SessionState → SessionState
session_finished own session = record session {
  names = put_behind own.place own.name session.names;
  founds = put_behind own.place own.found session.founds;
  kept = put_behind own.place own.kept session.kept;
  job = None;
}

-- the job of a release, as a session keeps it
abbrev pub own_job : ℕ → List ℕ → Found → KeptFields → JobState → JobFields
own_job place name found kept job =
    record { place = Some place; name = name; found = found; kept = kept; writes = job.writes; done = job.done }

-- such a job is pending, and its region is no longer live
abbrev pub BeginsRelease : SessionState → ℕ → JobState → SessionState → Type 0
BeginsRelease session place job next =
    (name : List ℕ) (found : Found) (kept : KeptFields) → slice_get session.names place ≡ Some name → slice_get session.founds place ≡ Some found → slice_get session.kept place ≡ Some kept
    → next ≡ session_begun (own_job place name found kept job) session

-- ---- registers

-- the writes of a job that were made are taken back down to so many, in its image and on the bus
pub record IsTakenBackTo (own : JobFields) (kept : ℕ) (blocks left : List Registers) (old new : RegsState) : Type 0 where
  pub on_way : (start : List Registers) → AreTakenBack start own.writes → blocks ≡ blocks_done start own.writes own.done → left ≡ blocks_done start own.writes kept
  pub sent : new.trail ≡ trail_with old.trail (words_taken_back own.writes kept own.done)
  pub same : new.blocks ≡ left
  pub counts : old.faults ≤ new.faults
  pub alone : new.counts_failures_alone ≡ old.counts_failures_alone

-- those that follow are made up to so many
pub record IsMadeTo (own : JobFields) (made : ℕ) (blocks left : List Registers) (old new : RegsState) : Type 0 where
  pub on_way : (start : List Registers) → blocks ≡ blocks_done start own.writes own.done → left ≡ blocks_done start own.writes made
  pub sent : new.trail ≡ trail_with old.trail (words_made own.writes own.done made)
  pub same : new.blocks ≡ left
  pub counts : old.faults ≤ new.faults
  pub alone : new.counts_failures_alone ≡ old.counts_failures_alone

-- ---- the end of a job

-- a region with its name, as a reply tells it
abbrev pub named_region : List ℕ → Found → Named
named_region name found = record { name = name; window = found.window; base = found.base; size = found.size; gran = found.gran; ways = found.ways }

-- the region is made, or gone
abbrev pub ended_as : Option ℕ → JobFields → Reply
ended_as None own = replies.Created (named_region own.name own.found)
ended_as (Some place) own = replies.Destroyed own.name

-- what a job is answered that came to its end
abbrev pub finished_reply : JobFields → Reply
finished_reply own = ended_as own.place own

-- media is left without the blocks of a region that is gone
abbrev pub IsLeftBy : Option ℕ → Found → MediaState → MediaState → Type 0
IsLeftBy None found old new = new ≡ old
IsLeftBy (Some place) found old new = IsCleared found old.blocks new.blocks × (frame_count new ≡ frame_count old)

-- media is left by a job that came to its end
abbrev pub IsLeftByEnd : JobFields → MediaState → MediaState → Type 0
IsLeftByEnd own old new = IsLeftBy own.place own.found old new

-- ---- a whole job

-- a job that was begun is carried out: it ends, or is undone, or stays pending
abbrev pub IsWholeFor : SessionState → SessionState → RegsState → RegsState → MediaState → MediaState → Reply → Type 0
IsWholeFor session next old new media left reply =
    (m : Machine) (job : RegionJob) → IsAt session old media (begun job m) → job.done ≡ 0 → undone job (begun job m) ≡ m
    → (turn : Turn) × (outcome : BusOutcome) × CarriesOutWhole m job outcome (answer_of turn) × SendsWhole job outcome turn.trail
    × FailsWhole job outcome turn.trail turn.failed × HasTaken turn reply next old new left

-- a job that was begun with no write made is undone whole, and leaves registers and media as they were
abbrev pub LeavesUndone : SessionState → SessionState → RegsState → RegsState → MediaState → MediaState → Type 0
LeavesUndone session next old new media left =
    (own : JobFields) → session.job ≡ Some own → own.done ≡ 0 → (next ≡ session_undone own session) × (new.blocks ≡ old.blocks) × (left ≡ media)
