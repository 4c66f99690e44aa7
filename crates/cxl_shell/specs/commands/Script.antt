-- On which host a session starts, where none opens, and what is told where a script ends.
use Rattle.std.specs.Prelude.{◌≡◌, ℕ, ◌≤◌, ◌⊎◌, Bool, true, false, List, [], codes}
use Rattle.cxl_table.specs.CedtFields.{CedtFields}
use Rattle.cxl_enc.specs.Faults.{Rose, LeavesCount}
use Rattle.cxl_gen.specs.Made.{made_table, made_tree}
use Rattle.cxl_inputs.specs.Ends.{Ends, WritesNothing}
use Rattle.cxl_inputs.specs.Host.{host_of, AreRead}
use Rattle.cxl_inputs.specs.Outcome.{Outcome, one_piece}
use Rattle.cxl_inputs.specs.ResetHost.{reset_host_of, AreBothRead}
use Rattle.cxl_inputs.specs.declared.status.Status.{Status}
use Rattle.cxl_inputs.specs.declared.status.Status.TheVariants.{Done, ReadFault, WriteFault, BusFault, Memory, TooMuch}
use Rattle.cxl_io.specs.Sink.{SinkState}
use Rattle.cxl_io.specs.Told.{Told}
use Rattle.cxl_model.specs.Listed.{region_limit}
use Rattle.cxl_model.specs.Accepted.{IsAccepted}
use Rattle.cxl_model.specs.System.{System}
use Rattle.cxl_regs.specs.Registers.{Registers}
use Rattle.cxl_reply.specs.Words.{line}
use Rattle.cxl_opening.specs.Opening.{ArePoweredOn, IsHalfEnabled, HasRegions, empty_media}
use Rattle.cxl_topo.specs.Tree.{Tree}
use Rattle.cxl_turns.specs.declared.endings.Ending.{Ending}
use Rattle.cxl_turns.specs.declared.endings.Ending.TheVariants as endings
use Rattle.cxl_shell.specs.Devices.{Devices}
use Rattle.cxl_commands.specs.Form.{Form, OfResetHost, OfHost, OfWords}
use Rattle.cxl_commands.specs.declared.form.HostAsk.TheVariants as host_asks
use Rattle.cxl_commands.specs.declared.form.ResetAsk.TheVariants as reset_asks
use Rattle.cxl_commands.specs.declared.form.WordsAsk.TheVariants as plain_asks

-- ---- where a session starts

-- the host that the words and files name, with its frames: after reset, with the image of a file, or generated
abbrev pub IsStart : Form → (List ℕ → Told) → System → ℕ → Type 0
IsStart (OfResetHost cedt topo reset_asks.Script) told s frames =
    (table : CedtFields) × (tree : Tree) × AreBothRead told cedt topo table tree × (s ≡ reset_host_of table tree) × (frames ≡ tree.frames)
IsStart (OfHost cedt topo image host_asks.Script) told s frames =
    (table : CedtFields) × (tree : Tree) × (blocks : List Registers) × AreRead told cedt topo image table tree blocks
    × (s ≡ host_of table tree blocks) × (frames ≡ tree.frames)
IsStart (OfWords (plain_asks.Gen n)) told s frames = (s ≡ reset_host_of (made_table n) (made_tree n)) × (frames ≡ (made_tree n).frames)
IsStart form told s frames = ⊥

-- one from which a session can start: it is accepted, and has no more regions than may live
pub record StartsSession (s : System) : Type 0 where
  pub accepted : IsAccepted s
  pub few : (n : ℕ) → HasRegions s n → n ≤ region_limit

-- the bus failed before the first command
abbrev pub bus_failed : Outcome
bus_failed = one_piece BusFault (line (codes "error: bus fault"))

-- No session opened while the devices were made ready: the bus failed on such a host, or memory ran out, in which no fault
-- of the bus is hidden.
pub data FailsToOpen (s : System) (frames : ℕ) (before after : Devices) (old new : SinkState) (status : Status) : Type 0 where
  -- the bus failed, of an image that is not refused: the endpoints before the fault decode, media is empty, and that is told
  bus : StartsSession s → Rose before.regs.faults after.regs.faults → IsHalfEnabled s before.regs after.regs → after.media ≡ empty_media frames
      → Ends bus_failed status old new → FailsToOpen s frames before after old new status
  -- memory ran out: each is as before, or as powering it on left it, no fault of the bus is hidden in it, and nothing is written
  memory : (after.regs ≡ before.regs) ⊎ ArePoweredOn s.blocks before.regs after.regs
      → (after.media ≡ before.media) ⊎ (after.media ≡ empty_media frames)
      → LeavesCount before.regs.counts_failures_alone before.regs.faults after.regs.faults
      → status ≡ Memory → WritesNothing old new → FailsToOpen s frames before after old new status

-- ---- how a script ends

-- the status of an ending
abbrev pub status_of : Ending → Status
status_of endings.Done = Done
status_of endings.ReadFault = ReadFault
status_of endings.TooMuch = TooMuch
status_of endings.WriteFault = WriteFault
status_of endings.Memory = Memory

-- reading the script came to its end
abbrev pub ends_reading : Ending → Bool
ends_reading endings.Done = true
ends_reading endings.ReadFault = true
ends_reading endings.TooMuch = true
ends_reading endings.WriteFault = false
ends_reading endings.Memory = false

-- what is written behind the replies
abbrev pub ending_text : Ending → List ℕ
ending_text endings.ReadFault = line (codes "error: script read failed")
ending_text endings.TooMuch = line (codes "error: script too long")
ending_text end = []

-- what is told where reading the script stopped before its end
abbrev pub script_stopped : Ending → Outcome
script_stopped end = one_piece (status_of end) (ending_text end)
