-- When a run has all that it asks for, and when it is answered whole.
use Rattle.std.specs.Prelude.{◌≡◌, ℕ, ◌≤◌, ◌⊎◌, true, List, ◌++◌, length, IsSomeAnd}
use Rattle.cxl_inputs.specs.Ends.{IsWritten}
use Rattle.cxl_inputs.specs.Outcome.{Outcome}
use Rattle.cxl_inputs.specs.ResetHost.{reset_host_of}
use Rattle.cxl_inputs.specs.declared.status.Status.{Status}
use Rattle.cxl_inputs.specs.declared.status.Status.TheVariants.{Done, Refused}
use Rattle.cxl_io.specs.Fetch.{FetchState}
use Rattle.cxl_io.specs.Reader.{script_limit}
use Rattle.cxl_io.specs.Sink.{Takes}
use Rattle.cxl_io.specs.Source.{SourceState}
use Rattle.cxl_gen.specs.Made.{made_table, made_tree}
use Rattle.cxl_machine.specs.Machine.{Machine, present}
use Rattle.cxl_machine.specs.Scripts.{Turn, lines_asked}
use Rattle.cxl_machine.specs.Sound.{Opens}
use Rattle.cxl_machine.specs.Turns.{AreTurns, machine_after, text_of}
use Rattle.cxl_model.specs.System.{System}
use Rattle.cxl_commands.specs.Answers.{IsOutcomeByFiles}
use Rattle.cxl_shell.specs.Devices.{Devices}
use Rattle.cxl_turns.specs.Endings.{StopsReading}
use Rattle.cxl_turns.specs.declared.endings.Ending.{Ending}
use Rattle.cxl_turns.specs.declared.endings.Ending.TheVariants as endings
use Rattle.cxl_shell.specs.Endings.{HasCarriedOut}
use Rattle.cxl_commands.specs.Form.{Form, OfResetHost, OfHost, OfWords, reads_script}
use Rattle.cxl_commands.specs.Outside.{Outside}
use Rattle.cxl_commands.specs.Readings.{Readings, AreKnown}
use Rattle.cxl_shell.specs.commands.Gen.{made_asked, gen_told, HasChecked}
use Rattle.cxl_shell.specs.commands.Script.{IsStart, ending_text}
use Rattle.cxl_commands.specs.declared.form.HostAsk.TheVariants as host_asks
use Rattle.cxl_commands.specs.declared.form.ResetAsk.TheVariants as reset_asks
use Rattle.cxl_commands.specs.declared.form.WordsAsk.{WordsAsk}
use Rattle.cxl_commands.specs.declared.form.WordsAsk.TheVariants as plain_asks

-- ---- all that is asked for is there

-- all files of the form are known and have a reading
abbrev pub AreReadyFiles : Form → FetchState → Type 0
AreReadyFiles form files = (readings : Readings) × AreKnown form files.told readings

-- the words ask for something that no file tells
abbrev pub AreReadyWords : WordsAsk → Type 0
AreReadyWords plain_asks.NoCreate = ⊥
AreReadyWords plain_asks.Unreadable = ⊥
AreReadyWords ask = Unit {0}

-- the words ask for something, of which the files that they name tell
abbrev pub AreReady : Form → FetchState → Type 0
AreReady (OfWords ask) files = AreReadyWords ask
AreReady form files = AreReadyFiles form files

-- the script is known and within its limit
abbrev pub IsReadyScript : SourceState → Type 0
IsReadyScript script = IsSomeAnd script.left (λ bytes. length bytes ≤ script_limit)

-- the words ask for something, and files and script, where they are asked for, are known, have a reading and are within the
-- limit
abbrev pub IsReady : Form → FetchState → SourceState → Type 0
IsReady form files script = AreReady form files × (reads_script form ≡ true → IsReadyScript script)

-- ---- it is answered whole

-- a session opened, and its script was read to this end, with all its lines carried out and all its text written
pub record HasReadOut (form : Form) (end : Ending) (old new : Outside) (before after : Devices) : Type 0 where
  pub start : System
  pub frames : ℕ
  pub first : Machine
  pub lines : List (List ℕ)
  pub turns : List Turn
  pub host : IsStart form old.files.told start frames
  pub opens : Opens start frames first
  pub stops : StopsReading end lines before.script after.script
  pub answered : AreTurns first (lines_asked lines) turns
  pub carried : HasCarriedOut first turns before after
  pub text : Takes old.out new.out (text_of first.settled.nodes turns ++ ending_text end)

-- all commands of the number were carried out; its line is told so, written whole or cut short
pub record HasMadeAll (n : ℕ) (IsTold : Outcome → Type 0) (before after : Devices) : Type 0 where
  pub first : Machine
  pub turns : List Turn
  pub checked : ℕ
  pub opens : Opens (reset_host_of (made_table n) (made_tree n)) (made_tree n).frames first
  pub answered : AreTurns first (made_asked n) turns
  pub carried : HasCarriedOut first turns before after
  pub found : HasChecked (present (machine_after first turns)) checked
  pub text : IsTold (gen_told n turns checked)

-- by its files: with status 0 or 8, all its text is written, and script, registers and media are as they were
pub record IsWholeByFiles (form : Form) (old new : Outside) (before after : Devices) (status : Status) : Type 0 where
  pub outcome : Outcome
  pub answers : IsOutcomeByFiles form old.files new.files outcome
  pub written : IsWritten outcome status old.out new.out
  pub status_is : (status ≡ Done) ⊎ (status ≡ Refused)
  pub left : after ≡ before

-- the script of a form is read to its end, or no session starts, which is told
abbrev pub IsScriptAnswered : Form → Outside → Outside → Devices → Devices → Status → Type 0
IsScriptAnswered form old new before after status =
    ((status ≡ Done) × HasReadOut form endings.Done old new before after) ⊎ IsWholeByFiles form old new before after status

-- with status 0 or 8 by the definitions, all its text is written, and a script is read to its end
abbrev pub IsAnsweredWhole : Form → Outside → Outside → Devices → Devices → Status → Type 0
IsAnsweredWhole (OfResetHost cedt topo reset_asks.Script) old new before after status =
    IsScriptAnswered (OfResetHost cedt topo reset_asks.Script) old new before after status
IsAnsweredWhole (OfHost cedt topo image host_asks.Script) old new before after status =
    IsScriptAnswered (OfHost cedt topo image host_asks.Script) old new before after status
IsAnsweredWhole (OfWords (plain_asks.Gen n)) old new before after status =
    (status ≡ Done) × HasMadeAll n (λ outcome. IsWritten outcome status old.out new.out) before after × (after.script ≡ before.script)
IsAnsweredWhole form old new before after status = IsWholeByFiles form old new before after status
