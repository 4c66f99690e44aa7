-- How the commands of a session end: those of a script, and those of a generated system.
use Rattle.std.specs.Prelude.{◌≡◌, ℕ, List, [], ◌∷◌, ◌++◌, length, take, option_map}
use Rattle.cxl_bus.specs.declared.sent.Sent.{Sent}
use Rattle.cxl_enc.specs.Faults.{LeavesCount}
use Rattle.cxl_inputs.specs.Ends.{Ends, WritesNothing}
use Rattle.cxl_bus.specs.Failed.{behind, HasFailed, fresh}
use Rattle.cxl_inputs.specs.declared.status.Status.{Status}
use Rattle.cxl_inputs.specs.declared.status.Status.TheVariants.{Done, WriteFault, Memory}
use Rattle.cxl_io.specs.Sink.{SinkState, Takes}
use Rattle.cxl_io.specs.Source.{SourceState}
use Rattle.cxl_machine.specs.Machine.{Machine, present}
use Rattle.cxl_machine.specs.Scripts.{Asked, Turn, lines_asked}
use Rattle.cxl_machine.specs.Sound.{IsSound}
use Rattle.cxl_machine.specs.Turns.{machine_after, text_of, words_sent, failed_in}
use Rattle.cxl_reply.specs.Replies.{reply_text}
use Rattle.cxl_opening.specs.Opening.{endpoints_in, enabling}
use Rattle.cxl_topo.specs.declared.node.Node.{Node}
use Rattle.cxl_turns.specs.Endings.{AreFirstLines, StopsReading, IsCutBehind}
use Rattle.cxl_turns.specs.declared.endings.Ending.{Ending}
use Rattle.cxl_shell.specs.Devices.{Devices}
use Rattle.cxl_commands.specs.Form.{Form, OfResetHost, OfHost, OfWords}
use Rattle.cxl_commands.specs.Outside.{Outside}
use Rattle.cxl_shell.specs.commands.Gen.{made_asked, gen_told, HasChecked}
use Rattle.cxl_shell.specs.commands.Script.{status_of, ending_text}
use Rattle.cxl_commands.specs.declared.form.HostAsk.TheVariants as host_asks
use Rattle.cxl_commands.specs.declared.form.ResetAsk.TheVariants as reset_asks
use Rattle.cxl_commands.specs.declared.form.WordsAsk.TheVariants as plain_asks

-- From a first machine these turns were taken: registers and media hold the last one, the words behind the enabling ones are theirs, and
-- calls of the bus failed where they say behind these, each of them counted, and no other since it was powered on.
pub record HasCarriedOut (first : Machine) (turns : List Turn) (before after : Devices) : Type 0 where
  pub holds : IsSound (machine_after first turns) after.regs.blocks after.media
  pub words : after.regs.trail ≡ option_map (λ (sent : List Sent). enabling (endpoints_in first.settled.nodes) ++ words_sent turns) before.regs.trail
  pub fails : HasFailed (fresh before.regs) after.regs (behind (length (enabling (endpoints_in first.settled.nodes))) (failed_in turns))

-- ---- a script

-- How the commands of a script end. Each reply is written before the next line is carried out. Reading came to its end, all
-- is written and no write failed; or the sink failed in the text behind the replies, or in the last reply; or memory ran
-- out, in which no fault of source or sink is hidden.
pub data EndsScript (nodes : List Node) (asked : List Asked) (turns : List Turn) (before after : SourceState) (old new : SinkState) (status : Status) : Type 0 where
  -- reading came to this end, all is written, and no write failed; where it is the script's own end, no fault of the source is swallowed
  read_out : (end : Ending) (lines : List (List ℕ)) → status ≡ status_of end → StopsReading end lines before after → asked ≡ lines_asked lines
      → Takes old new (text_of nodes turns ++ ending_text end)
      → (status ≡ Done → LeavesCount before.counts_failures_alone before.faults after.faults)
      → LeavesCount old.counts_failures_alone old.faults new.faults
      → EndsScript nodes asked turns before after old new status
  -- the sink failed in the text behind the last reply
  ending_cut : (end : Ending) (lines : List (List ℕ)) → status ≡ WriteFault → StopsReading end lines before after → asked ≡ lines_asked lines
      → IsCutBehind (text_of nodes turns) (ending_text end) old new → EndsScript nodes asked turns before after old new status
  -- the sink failed in the last reply; all before it stand whole, and the source is not asked for more
  reply_cut : (lines : List (List ℕ)) (earlier : List Turn) (last : Turn) → status ≡ WriteFault → AreFirstLines lines before after
      → asked ≡ lines_asked lines → turns ≡ earlier ++ last ∷ []
      → IsCutBehind (text_of nodes earlier) (reply_text nodes last.reply) old new
      → LeavesCount before.counts_failures_alone before.faults after.faults → EndsScript nodes asked turns before after old new status
  -- memory ran out at the next line, or before its reply; all replies so far stand whole, and no fault of source or sink is hidden in it
  runs_out : (lines : List (List ℕ)) → status ≡ Memory → AreFirstLines lines before after → asked ≡ lines_asked lines
      → Takes old new (text_of nodes turns) → LeavesCount before.counts_failures_alone before.faults after.faults
      → LeavesCount old.counts_failures_alone old.faults new.faults → EndsScript nodes asked turns before after old new status

-- ---- a generated system

-- How the commands of a generated system end: with all of them carried out, one line is written, or the sink failed in it; or memory ran out.
pub data EndsGen (n : ℕ) (last : Machine) (asked : List Asked) (turns : List Turn) (old new : SinkState) (status : Status) : Type 0 where
  told : (checked : ℕ) → asked ≡ made_asked n → HasChecked (present last) checked → Ends (gen_told n turns checked) status old new
      → EndsGen n last asked turns old new status
  runs_out : (count : ℕ) → asked ≡ take count (made_asked n) → status ≡ Memory → WritesNothing old new → EndsGen n last asked turns old new status

-- ---- a form that works on a session

-- the end that the form asks for
abbrev pub EndsForm : Form → Machine → List Asked → List Turn → Outside → Outside → Devices → Devices → Status → Type 0
EndsForm (OfResetHost cedt topo reset_asks.Script) first asked turns old new before after status =
    EndsScript first.settled.nodes asked turns before.script after.script old.out new.out status
EndsForm (OfHost cedt topo image host_asks.Script) first asked turns old new before after status =
    EndsScript first.settled.nodes asked turns before.script after.script old.out new.out status
EndsForm (OfWords (plain_asks.Gen n)) first asked turns old new before after status =
    (after.script ≡ before.script) × EndsGen n (machine_after first turns) asked turns old.out new.out status
EndsForm form first asked turns old new before after status = ⊥
