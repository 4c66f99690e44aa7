-- What the program promises of memory: a run behaves as one flat byte memory for each region.
use Rattle.std.specs.Prelude.{◌≡◌, ◌≢◌, ℕ, ◌⊎◌, List, map}
use Rattle.std.specs.List.{concat}
use Rattle.cxl_flat.specs.Flat.{IsFlatTurn}
use Rattle.cxl_inputs.specs.Host.{host_of}
use Rattle.cxl_inputs.specs.declared.status.Status.{Status}
use Rattle.cxl_inputs.specs.declared.status.Status.TheVariants.{Done, ReadFault, TooMuch}
use Rattle.cxl_io.specs.Sink.{SinkState, Takes}
use Rattle.cxl_io.specs.Told.{Told}
use Rattle.cxl_machine.specs.Machine.{Machine, HasSameHost, present}
use Rattle.cxl_machine.specs.Reports.{live_regions}
use Rattle.cxl_machine.specs.Scripts.{Asked, Turn}
use Rattle.cxl_machine.specs.Sound.{IsMachine, Opens}
use Rattle.cxl_machine.specs.Turns.{EachTurn, machine_after}
use Rattle.cxl_model.specs.System.{System}
use Rattle.cxl_model.specs.declared.found.Found.{Found}
use Rattle.cxl_reply.specs.Plans.{found_text}
use Rattle.cxl_topo.specs.declared.node.Node.{Node}
use Rattle.cxl_walk.specs.Carrying.{CarriesRegions}
use Rattle.cxl_shell.specs.Devices.{Devices}
use Rattle.cxl_shell.specs.Endings.{HasCarriedOut, EndsForm}
use Rattle.cxl_commands.specs.Form.{Form, OfResetHost, OfHost, OfWords}
use Rattle.cxl_commands.specs.Outside.{Outside}
use Rattle.cxl_commands.specs.commands.Check.{AreRegionsIn}
use Rattle.cxl_shell.specs.commands.Script.{IsStart, FailsToOpen}
use Rattle.cxl_commands.specs.declared.form.HostAsk.TheVariants as host_asks
use Rattle.cxl_commands.specs.declared.form.ResetAsk.TheVariants as reset_asks
use Rattle.cxl_commands.specs.declared.form.WordsAsk.TheVariants as plain_asks

-- ---- a session

-- A session of the host that files and words name: from the machine with which it opened, turn by turn, to what registers and media hold.
pub record IsFlatSession (form : Form) (old new : Outside) (before after : Devices) (status : Status) : Type 0 where
  pub start : System
  pub frames : ℕ
  pub first : Machine
  pub asked : List Asked
  pub turns : List Turn
  pub host : IsStart form old.files.told start frames
  pub opens : Opens start frames first
  -- a session can stand for the first machine, whose image carries the host bytes of its regions
  pub machine : IsMachine first
  pub carries : CarriesRegions (present first) (live_regions first)
  -- each command behaves as on flat memory
  pub each : EachTurn IsFlatTurn first asked turns
  -- registers and media hold the last machine, over the host of the first
  pub last : HasCarriedOut first turns before after
  pub over : HasSameHost first (machine_after first turns)
  -- and what was asked is what the form asks for, as far as it was read
  pub ends : EndsForm form first asked turns old new before after status

-- a status with which no script was carried out
pub record EndsBeforeScript (status : Status) : Type 0 where
  pub not_done : status ≢ Done
  pub not_read : status ≢ ReadFault
  pub not_long : status ≢ TooMuch

-- no session opened: script, registers and media are as they were, or could not be made ready and the script is unread
pub data HasNoSession (form : Form) (old new : Outside) (before after : Devices) (status : Status) : Type 0 where
  left : EndsBeforeScript status → after ≡ before → HasNoSession form old new before after status
  unready : (s : System) (frames : ℕ) → EndsBeforeScript status → IsStart form old.files.told s frames → after.script ≡ before.script
      → FailsToOpen s frames before after old.out new.out status → HasNoSession form old new before after status

-- it is one or the other
abbrev pub IsFlatOrUnopened : Form → Outside → Outside → Devices → Devices → Status → Type 0
IsFlatOrUnopened form old new before after status =
    IsFlatSession form old new before after status ⊎ HasNoSession form old new before after status

-- ---- an image

-- the image that `check` accepts: its regions are those told, by rising base, and it carries their host bytes
pub record IsFlatImage (told : List ℕ → Told) (cedt topo image : List ℕ) (old new : SinkState) : Type 0 where
  pub nodes : List Node
  pub regions : List Found
  pub found : AreRegionsIn told cedt topo image nodes regions
  pub carries : CarriesRegions (host_of found.table found.tree found.blocks) regions
  pub text : Takes old new (concat (map (found_text nodes) regions))

-- ---- a run

-- what a run does behaves as one flat byte memory for each region
abbrev pub BehavesAsFlatMemory : Form → Outside → Outside → Devices → Devices → Status → Type 0
BehavesAsFlatMemory (OfHost cedt topo image host_asks.Check) old new before after status =
    status ≡ Done → IsFlatImage old.files.told cedt topo image old.out new.out
BehavesAsFlatMemory (OfHost cedt topo image host_asks.Script) old new before after status =
    IsFlatOrUnopened (OfHost cedt topo image host_asks.Script) old new before after status
BehavesAsFlatMemory (OfResetHost cedt topo reset_asks.Script) old new before after status =
    IsFlatOrUnopened (OfResetHost cedt topo reset_asks.Script) old new before after status
BehavesAsFlatMemory (OfWords (plain_asks.Gen n)) old new before after status =
    IsFlatOrUnopened (OfWords (plain_asks.Gen n)) old new before after status
BehavesAsFlatMemory form old new before after status = Unit {0}
