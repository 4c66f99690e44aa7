-- How the commands of a generated system end over its host.
use Rattle.std.specs.Prelude.{◌≡◌, ℕ, List}
use Rattle.cxl_gen.specs.Made.{made_table, made_tree}
use Rattle.cxl_inputs.specs.ResetHost.{reset_host_of}
use Rattle.cxl_inputs.specs.declared.status.Status.{Status}
use Rattle.cxl_io.specs.Sink.{SinkState}
use Rattle.cxl_machine.specs.Machine.{Machine}
use Rattle.cxl_machine.specs.Scripts.{Asked, Turn}
use Rattle.cxl_machine.specs.Sound.{IsMachine, Opens}
use Rattle.cxl_machine.specs.Turns.{AreTurns, machine_after}
use Rattle.cxl_model.specs.Accepted.{IsAccepted}
use Rattle.cxl_model.specs.System.{System, IsSystem}
use Rattle.cxl_topo.specs.Tree.{Tree}
use Rattle.cxl_shell.specs.Devices.{Devices}
use Rattle.cxl_shell.specs.Endings.{HasCarriedOut, EndsGen}
use Rattle.cxl_shell.specs.commands.Script.{FailsToOpen}

-- the host of the number after reset
abbrev pub made_host : ℕ → System
made_host n = reset_host_of (made_table n) (made_tree n)

-- it is the host of the number after reset, over this tree
pub record IsMadeHost (n : ℕ) (s : System) (tree : Tree) : Type 0 where
  pub host_is : s ≡ made_host n
  pub tree_is : tree ≡ made_tree n
  pub system : IsSystem s
  pub accepted : IsAccepted s

-- how the commands of the number end over a host with these frames; the script is no part of it
pub data EndsMade (n : ℕ) (s : System) (frames : ℕ) (before after : Devices) (old new : SinkState) (status : Status) : Type 0 where
  -- no session opened, also where memory ran out before there was a host
  unready : FailsToOpen s frames before after old new status → EndsMade n s frames before after old new status
  -- a session opened, and the commands were carried out
  opened : (first : Machine) (asked : List Asked) (turns : List Turn) → Opens s frames first → IsMachine first → AreTurns first asked turns
      → HasCarriedOut first turns before after → EndsGen n (machine_after first turns) asked turns old new status
      → EndsMade n s frames before after old new status
