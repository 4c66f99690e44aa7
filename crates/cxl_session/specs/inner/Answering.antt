-- What the parts of a session answer, for whatever machine it stands.
use Rattle.std.specs.Prelude.{◌≡◌, ℕ, ◌+◌, Bool, true, false, Some, Result, Ok, Err}
use Rattle.cxl_bus.specs.RegsState.{RegsState}
use Rattle.cxl_media.specs.MediaState.{MediaState}
use Rattle.cxl_script.specs.declared.command.Command.{Command}
use Rattle.cxl_script.specs.declared.command.Command.TheVariants as commands
use Rattle.cxl_reply.specs.declared.reply.Reply.{Reply}
use Rattle.cxl_machine.specs.Machine.{Live, Machine, live_at, pieces_held}
use Rattle.cxl_machine.specs.Replies.{Answer, stays, within_region, ends_within}
use Rattle.cxl_machine.specs.Scripts.{Turn, TakesTurn}
use Rattle.cxl_machine.specs.Sound.{IsMachine}
use Rattle.cxl_session.specs.State.{SessionState}
use Rattle.cxl_session.specs.Standing.{StandsFor, HoldsMemory, HasTaken, ForEachMachine}
use Rattle.cxl_session.specs.inner.Places.{StandsAt}

-- a command that reads bytes or writes them, or asks where an address goes
abbrev pub is_access : Command → Bool
is_access (commands.Load load) = true
is_access (commands.Store store) = true
is_access (commands.Down h) = true
is_access (commands.Up up) = true
is_access command = false

-- ---- reading

-- session and media stand for some machine, for commands that write no register
abbrev pub StandsSomehow : SessionState → MediaState → Type 0
StandsSomehow session media = (m : Machine) × StandsFor session m × IsMachine m × HoldsMemory m media

-- each machine for which they stand gives this answer, and stays
abbrev pub IsReadFor : SessionState → MediaState → (Machine → Answer → Type 0) → Reply → Type 0
IsReadFor session media Answers reply = (m : Machine) → StandsFor session m → IsMachine m → HoldsMemory m media → Answers m (stays m reply)

-- ---- so many bytes in one region

-- the region at a place holds so many bytes from a host address on, and what is asked of these is answered by it; or why none does
abbrev pub IsWithin : SessionState → Machine → ℕ → ℕ → Result ℕ Reply → Type 0
IsWithin session m h len (Ok place) =
    (region : Live) × StandsAt session m place region × (ends_within region.found h len ≡ true)
    × ((answer : Live → Answer) → within_region m h len answer ≡ answer region) × (live_at m h ≡ Some region)
IsWithin session m h len (Err refusal) = (answer : Live → Answer) → within_region m h len answer ≡ stays m refusal

-- ---- writing media

-- the session stands for the machine, media holds its bytes, and each frame is free or holds a piece of it
pub record HoldsMachine (session : SessionState) (media : MediaState) (m : Machine) : Type 0 where
  pub stands : StandsFor session m
  pub machine : IsMachine m
  pub memory : HoldsMemory m media
  pub frames : media.free + pieces_held m ≡ m.frames

-- they do for some machine
abbrev pub HoldsSome : SessionState → MediaState → Type 0
HoldsSome session media = (m : Machine) × HoldsMachine session media m

-- this is the answer's reply, and session and media hold its machine
pub record IsWrittenAs (session : SessionState) (media : MediaState) (answer : Answer) (reply : Reply) : Type 0 where
  pub told : answer.reply ≡ reply
  pub holds : HoldsMachine session media answer.machine

-- each machine that they held answers so
abbrev pub IsWrittenFor : SessionState → MediaState → MediaState → (Machine → Answer) → Reply → Type 0
IsWrittenFor session old new answer reply = (m : Machine) → HoldsMachine session old m → IsWrittenAs session new (answer m) reply

-- ---- jobs

-- each machine for which they stood takes a turn, to which the session goes on
abbrev pub IsTurnFor : SessionState → SessionState → RegsState → RegsState → MediaState → MediaState → Command → Reply → Type 0
IsTurnFor session next old new media left command reply =
    ForEachMachine session old media (λ m. (turn : Turn) × TakesTurn m (Ok command) turn × HasTaken turn reply next old new left)
