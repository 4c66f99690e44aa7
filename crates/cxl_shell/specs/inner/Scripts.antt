-- How a script over a host ends.
use Rattle.std.specs.Prelude.{◌≡◌, ℕ, ◌<◌, List}
use Rattle.cxl_inputs.specs.Ends.{Ends}
use Rattle.cxl_inputs.specs.Outcome.{Outcome}
use Rattle.cxl_inputs.specs.declared.status.Status.{Status}
use Rattle.cxl_io.specs.Sink.{SinkState}
use Rattle.cxl_machine.specs.Machine.{Machine}
use Rattle.cxl_model.specs.Listed.{region_limit}
use Rattle.cxl_machine.specs.Scripts.{Asked, Turn}
use Rattle.cxl_machine.specs.Sound.{IsMachine, Opens}
use Rattle.cxl_machine.specs.Turns.{AreTurns}
use Rattle.cxl_model.specs.System.{System}
use Rattle.cxl_opening.specs.Opening.{HasRegions}
use Rattle.cxl_shell.specs.Devices.{Devices}
use Rattle.cxl_shell.specs.Endings.{HasCarriedOut, EndsScript}
use Rattle.cxl_commands.specs.commands.RefusedStart.{too_many_regions}
use Rattle.cxl_shell.specs.commands.Script.{FailsToOpen}
use Rattle.cxl_commands.specs.inner.Reports.{TellsBreach}

-- its image is accepted
pub data EndsOver (s : System) (frames : ℕ) (before after : Devices) (old new : SinkState) (status : Status) : Type 0 where
  -- the image has more regions than may live, which is told
  full : (n : ℕ) → HasRegions s n → region_limit < n → after ≡ before → Ends too_many_regions status old new → EndsOver s frames before after old new status
  -- no session opened while the devices were made ready
  unready : after.script ≡ before.script → FailsToOpen s frames before after old new status → EndsOver s frames before after old new status
  -- a session opened, and the commands were carried out
  opened : (first : Machine) (asked : List Asked) (turns : List Turn) → Opens s frames first → IsMachine first → AreTurns first asked turns
      → HasCarriedOut first turns before after → EndsScript first.settled.nodes asked turns before.script after.script old new status
      → EndsOver s frames before after old new status

-- its image is one of a file, whose first breach is told
pub data EndsFromImage (s : System) (frames : ℕ) (before after : Devices) (old new : SinkState) (status : Status) : Type 0 where
  broken : (outcome : Outcome) → TellsBreach s outcome → after ≡ before → Ends outcome status old new → EndsFromImage s frames before after old new status
  whole : EndsOver s frames before after old new status → EndsFromImage s frames before after old new status
