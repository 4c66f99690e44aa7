-- What the fields of a session stand for.
use Rattle.std.specs.Prelude.{◌≡◌, ℕ, ◌≤◌, length, Option, Some, None, option_map, IfSome}
use Rattle.std.specs.Vec.{vec_capacity}
use Rattle.cxl_apply.specs.Steps.{HasWordsOf}
use Rattle.cxl_model.specs.Listed.{region_limit}
use Rattle.cxl_session.specs.declared.pending.Kind.{Kind}
use Rattle.cxl_session.specs.declared.pending.Kind.TheVariants as kinds
use Rattle.cxl_session.specs.declared.pending.PendingJob.{PendingJob}
use Rattle.cxl_session.specs.declared.session.Session.TheInside.{Inside}
use Rattle.cxl_session.specs.State.{JobFields, SessionState}

-- the place of the region that a release takes away; a create has none
abbrev pub place_in : Kind → Option ℕ
place_in kinds.Creates = None
place_in (kinds.Releases place) = Some place

-- a pending job: what it makes or takes away, its words, and how many of them are written
abbrev pub job_fields : PendingJob → JobFields
job_fields pending = record {
  place = place_in pending.kind;
  name = pending.name;
  found = pending.found;
  kept = pending.kept;
  writes = pending.job.writes;
  done = pending.job.done;
}

-- what contracts see of the fields of a session
abbrev pub session_view : Inside → SessionState
session_view session = record {
  topo = session.topo;
  windows = session.windows.items;
  image = session.image;
  names = session.names.items;
  founds = session.founds;
  kept = session.kepts.items;
  job = option_map job_fields session.job;
}

-- The three lists go together, with room for as many regions as may live; and the image has the words that the job writes.
pub record HasRooms (session : Inside) : Type 0 where
  pub founds : length session.founds ≡ length session.names.items
  pub kepts : length session.kepts.items ≡ length session.names.items
  pub few : length session.names.items ≤ region_limit
  pub names_room : region_limit ≤ vec_capacity session.names
  pub kepts_room : region_limit ≤ vec_capacity session.kepts
  pub words : IfSome session.job (λ pending. HasWordsOf session.image pending.job.writes)
