-- What is asked for before a job begins.
use Rattle.std.specs.Prelude.{◌≡◌, ℕ, List, Some, None, slice_get, Result, Ok, Err}
use Rattle.cxl_reply.specs.declared.reply.Reply.{Reply}
use Rattle.cxl_apply.specs.Releases.{rows_of, first_locked, first_not_last}
use Rattle.cxl_machine.specs.Machine.{Live, Machine}
use Rattle.cxl_machine.specs.Jobs.{release_job}
use Rattle.cxl_machine.specs.Requests.{asked_release}
use Rattle.cxl_session.specs.declared.requests.Release.{Release}

-- the release of the live region at its place, of which these are the rows
pub record IsNamedRelease (m : Machine) (name : List ℕ) (release : Release) : Type 0 where
  pub idle : m.job ≡ None
  pub region : Live
  pub there : slice_get m.live release.place ≡ Some region
  pub named : region.name ≡ name
  pub rows : release.rows.items ≡ rows_of m.settled region.found
  pub unlocked : first_locked m.settled region.found ≡ None
  pub last : first_not_last m.settled region.found ≡ None
  pub asked : asked_release m name ≡ Ok (release_job m.settled release.place region)

-- that, or why it is refused
abbrev pub IsAskedRelease : Machine → List ℕ → Result Release Reply → Type 0
IsAskedRelease m name (Ok release) = IsNamedRelease m name release
IsAskedRelease m name (Err refusal) = asked_release m name ≡ Err refusal
