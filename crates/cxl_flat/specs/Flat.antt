-- That a machine behaves as flat memory: its registers carry the host bytes of its live regions one to one onto device bytes, after
-- each command and between any two register writes (this project's rules).
use Rattle.std.specs.Prelude.{◌≡◌, ℕ, ◌+◌, ◌<◌, ◌≤◌, true, false, List, [], take, length, All, Contains, IfOk, IfSome, None, Ok, Err}
use Rattle.cxl_bus.specs.declared.sent.Sent.{Sent}
use Rattle.cxl_bus.specs.Trail.{blocks_sent}
use Rattle.cxl_script.specs.declared.command.Command.{Command}
use Rattle.cxl_script.specs.Grammar.{IsRanged}
use Rattle.cxl_model.specs.declared.found.Found.{Found}
use Rattle.cxl_model.specs.Bytes.{LiesInSpan}
use Rattle.cxl_walk.specs.Carrying.{CarriesRegions}
use Rattle.cxl_machine.specs.Machine.{RegionJob, Machine, HasSameHost, live_at, live_named, image_of, present}
use Rattle.cxl_machine.specs.Jobs.{at_done}
use Rattle.cxl_machine.specs.Replies.{is_refusal}
use Rattle.cxl_machine.specs.Reports.{live_regions}
use Rattle.cxl_machine.specs.Scripts.{Asked, Turn, TakesTurn}
use Rattle.cxl_machine.specs.Sound.{IsMachine}
use Rattle.cxl_machine.specs.Trails.{IsOnTheWay}
use Rattle.cxl_flat.specs.Memory.{IsFlatAccess, writes_bytes, KeepsBytes}

-- ---- one machine

-- The region of a job that is pending is not there: no live region has its name, one of its host bytes or one of its device
-- bytes.
pub record IsUnmapped (m : Machine) (job : RegionJob) : Type 0 where
  pub name : live_named m job.region.name ≡ None
  pub host : (h : ℕ) → job.region.found.base ≤ h → h < job.region.found.base + job.region.found.size → live_at m h ≡ None
  pub device : (found : Found) (endpoint dpa : ℕ) → Contains (live_regions m) found → LiesInSpan found endpoint dpa → ¬ (LiesInSpan job.region.found endpoint dpa)

-- A session can stand for it, its registers carry the host bytes of its live regions, and a pending region is none of these.
pub record IsFlat (m : Machine) : Type 0 where
  pub machine : IsMachine m
  pub carries : CarriesRegions (present m) (live_regions m)
  pub pending : IfSome m.job (IsUnmapped m)

-- ---- one command

-- what is asked for can be asked for by a line
abbrev pub AreRanged : List Asked → Type 0
AreRanged asked = All (λ one. IfOk one IsRanged) asked

-- These first words of a command lead to the image of a machine with the command's job pending. It carries the host bytes of its
-- live regions, too, over the same host, and these have the bytes that they had.
pub record IsFlatWay (m : Machine) (command : Command) (words : List Sent) : Type 0 where
  pub way : IsOnTheWay m command words
  pub flat : IsFlat (at_done way.job way.done way.at)
  pub host : HasSameHost m (at_done way.job way.done way.at)
  pub bytes : KeepsBytes m (at_done way.job way.done way.at)

-- so it is with the words that were sent so far; a line that asks for nothing sends none
abbrev pub PassesFlat : Machine → Asked → List Sent → Type 0
PassesFlat m (Ok command) words = IsFlatWay m command words
PassesFlat m (Err fault) words = ⊥

-- One command of a session behaves as on flat memory.
pub record IsFlatTurn (m : Machine) (one : Asked) (turn : Turn) : Type 0 where
  -- it is answered by the machine, of which loads and stores read and write one flat memory
  pub answered : TakesTurn m one turn
  pub memory : IsFlatAccess m one turn
  -- each region behind a command that writes no bytes has those that it had, or zeros where it is new
  pub bytes : writes_bytes one ≡ false → KeepsBytes m turn.machine
  -- what it leaves is a machine that a session can stand for, over the same host
  pub machine : IsMachine turn.machine
  pub host : HasSameHost m turn.machine
  -- the image of that machine carries the host bytes of its live regions, of which a pending region is none
  pub carries : CarriesRegions (present turn.machine) (live_regions turn.machine)
  pub pending : IfSome turn.machine.job (IsUnmapped turn.machine)
  -- and that image is what the command's words lead to
  pub left : blocks_sent (image_of m) turn.trail ≡ image_of turn.machine
  -- so it is between any two of its words
  pub between : (k : ℕ) → k < length turn.trail → PassesFlat m one (take k turn.trail)
  -- a refused command changes nothing, and where no call of the bus failed it sends no word
  pub refused : is_refusal turn.reply ≡ true → turn.machine ≡ m
  pub silent : is_refusal turn.reply ≡ true → turn.failed ≡ [] → turn.trail ≡ []
