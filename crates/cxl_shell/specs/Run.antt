-- How a run comes to its end.
use Rattle.std.specs.Prelude.{◌≡◌, ℕ, List}
use Rattle.cxl_inputs.specs.declared.status.Status.{Status}
use Rattle.cxl_io.specs.Fetch.{AsksFor}
use Rattle.cxl_machine.specs.Machine.{Machine}
use Rattle.cxl_machine.specs.Scripts.{Asked, Turn}
use Rattle.cxl_machine.specs.Sound.{IsMachine, Opens}
use Rattle.cxl_machine.specs.Turns.{AreTurns}
use Rattle.cxl_model.specs.System.{System}
use Rattle.cxl_shell.specs.Devices.{Devices}
use Rattle.cxl_shell.specs.Endings.{HasCarriedOut, EndsForm}
use Rattle.cxl_commands.specs.Form.{Form, own_files}
use Rattle.cxl_commands.specs.Outside.{Outside}
use Rattle.cxl_commands.specs.RunByFiles.{IsRunByFiles}
use Rattle.cxl_shell.specs.commands.Script.{IsStart, FailsToOpen}

-- No session opened: the run ends by its words and files alone, or the devices could not be made ready.
pub data IsUnopened (form : Form) (old new : Outside) (before after : Devices) (status : Status) : Type 0 where
  -- script, registers and media are as they were
  by_files : after ≡ before → IsRunByFiles form old new status → IsUnopened form old new before after status
  -- no session opened on the host that the files name; the script is unread
  unready : (s : System) (frames : ℕ) → IsStart form old.files.told s frames → AsksFor old.files new.files (own_files form)
      → after.script ≡ before.script → FailsToOpen s frames before after old.out new.out status → IsUnopened form old new before after status

-- How a run comes to its end.
pub data IsRun (form : Form) (old new : Outside) (before after : Devices) (status : Status) : Type 0 where
  unopened : IsUnopened form old new before after status → IsRun form old new before after status
  -- a session opened, and its commands were carried out
  opened : (s : System) (frames : ℕ) (first : Machine) (asked : List Asked) (turns : List Turn) → IsStart form old.files.told s frames
      → AsksFor old.files new.files (own_files form) → Opens s frames first → IsMachine first → AreTurns first asked turns
      → HasCarriedOut first turns before after → EndsForm form first asked turns old new before after status → IsRun form old new before after status

-- a fact of each run, over all that it works on
abbrev pub EachRun : (Form → Outside → Outside → Devices → Devices → Status → Type 0) → Type 0
EachRun P = (form : Form) (old new : Outside) (before after : Devices) (status : Status)
    → IsRun form old new before after status → P form old new before after status
