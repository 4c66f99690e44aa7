-- Two live regions of a session, by their names.
use Rattle.std.specs.Prelude.{◌≡◌, ◌≢◌, ℕ, slice_get, Some, Result, Ok, Err}
use Rattle.cxl_script.specs.declared.command.Pair.{Pair}
use Rattle.cxl_window.specs.Fields.{WindowFields}
use Rattle.cxl_model.specs.declared.found.Found.{Found}
use Rattle.cxl_reply.specs.declared.reply.Reply.{Reply}
use Rattle.cxl_machine.specs.Machine.{Live, Machine}
use Rattle.cxl_machine.specs.Copies.{for_two}
use Rattle.cxl_machine.specs.Replies.{Answer, stays}
use Rattle.cxl_session.specs.State.{SessionState}
use Rattle.cxl_session.specs.inner.Places.{StandsAt}

-- the session keeps these spans at the place, and they lie in this window
pub record IsSideAt (session : SessionState) (place : ℕ) (found : Found) (w : WindowFields) : Type 0 where
  pub spans : slice_get session.founds place ≡ Some found
  pub window : slice_get session.windows found.window ≡ Some w

-- two regions of one size under the names, at these places; what is asked of the names is answered by them
pub record AreTwo (session : SessionState) (m : Machine) (pair : Pair) (first second : ℕ) : Type 0 where
  pub from : Live
  pub to : Live
  pub from_at : StandsAt session m first from
  pub to_at : StandsAt session m second to
  pub from_named : from.name ≡ pair.from
  pub to_named : to.name ≡ pair.to
  pub apart : from.name ≢ to.name
  pub size : from.found.size ≡ to.found.size
  pub answers : (answer : Live → Live → Answer) → for_two m pair answer ≡ answer from to

-- two such regions, or why there are none
abbrev pub AreForTwo : SessionState → Machine → Pair → Result (ℕ × ℕ) Reply → Type 0
AreForTwo session m pair (Ok places) = AreTwo session m pair places.0 places.1
AreForTwo session m pair (Err refusal) = (answer : Live → Live → Answer) → for_two m pair answer ≡ stays m refusal
