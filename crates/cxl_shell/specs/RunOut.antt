-- Where memory ran out in a session: how far its commands were carried out.
use Rattle.std.specs.Prelude.{ℕ, List, take}
use Rattle.cxl_gen.specs.Made.{made_table, made_tree}
use Rattle.cxl_inputs.specs.ResetHost.{reset_host_of}
use Rattle.cxl_io.specs.Sink.{Takes}
use Rattle.cxl_machine.specs.Machine.{Machine}
use Rattle.cxl_machine.specs.Scripts.{Turn, lines_asked}
use Rattle.cxl_machine.specs.Sound.{Opens}
use Rattle.cxl_machine.specs.Turns.{AreTurns, text_of}
use Rattle.cxl_model.specs.System.{System}
use Rattle.cxl_turns.specs.Endings.{AreFirstLines}
use Rattle.cxl_shell.specs.Devices.{Devices}
use Rattle.cxl_shell.specs.Endings.{HasCarriedOut}
use Rattle.cxl_commands.specs.Form.{Form}
use Rattle.cxl_commands.specs.Outside.{Outside}
use Rattle.cxl_shell.specs.commands.Gen.{made_asked}
use Rattle.cxl_shell.specs.commands.Script.{IsStart}

-- The first lines of the script were carried out, and their replies are written: registers and media are as before the line that met the want.
pub record HasRunOut (form : Form) (old new : Outside) (before after : Devices) : Type 0 where
  pub start : System
  pub frames : ℕ
  pub first : Machine
  pub lines : List (List ℕ)
  pub turns : List Turn
  pub host : IsStart form old.files.told start frames
  pub opens : Opens start frames first
  pub front : AreFirstLines lines before.script after.script
  pub answered : AreTurns first (lines_asked lines) turns
  pub carried : HasCarriedOut first turns before after
  pub text : Takes old.out new.out (text_of first.settled.nodes turns)

-- some first commands of the number were carried out
pub record HasMadeSome (n : ℕ) (before after : Devices) : Type 0 where
  pub first : Machine
  pub count : ℕ
  pub turns : List Turn
  pub opens : Opens (reset_host_of (made_table n) (made_tree n)) (made_tree n).frames first
  pub answered : AreTurns first (take count (made_asked n)) turns
  pub carried : HasCarriedOut first turns before after
