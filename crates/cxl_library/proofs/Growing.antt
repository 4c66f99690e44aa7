-- What a run writes: its sink keeps all that it took, and where that failed the run ends with status 6.
use Rattle.std.proofs.Common.{◌≢◌, ℕ, List, [], ◌++◌, take, inl, inr}
use Rattle.std.specs.List.{concat}
use Rattle.cxl_enc.specs.Faults.{LeavesCount}
use Rattle.cxl_commands.specs.Form.{Form, OfTable, OfResetHost, OfHost, OfWords}
use Rattle.cxl_commands.specs.Outside.{Outside}
use Rattle.cxl_commands.specs.RunByFiles as ways
use Rattle.cxl_commands.specs.declared.form.HostAsk.TheVariants as host_asks
use Rattle.cxl_commands.specs.declared.form.ResetAsk.TheVariants as reset_asks
use Rattle.cxl_commands.specs.declared.form.WordsAsk.TheVariants as plain_asks
use Rattle.cxl_inputs.specs.Ends.{Ends}
use Rattle.cxl_inputs.specs.Outcome.{Outcome, whole_text}
use Rattle.cxl_inputs.specs.declared.status.Status.{Status}
use Rattle.cxl_inputs.specs.declared.status.Status.TheVariants.{WriteFault}
use Rattle.cxl_io.specs.Sink.{SinkState, Takes}
use Rattle.cxl_io.specs.Source.{SourceState}
use Rattle.cxl_machine.specs.Machine.{Machine}
use Rattle.cxl_machine.specs.Scripts.{Asked, Turn}
use Rattle.cxl_machine.specs.Turns.{machine_after, text_of}
use Rattle.cxl_model.specs.System.{System}
use Rattle.cxl_reply.specs.Replies.{reply_text}
use Rattle.cxl_shell.specs.Devices.{Devices}
use Rattle.cxl_shell.specs.Endings.{EndsScript, read_out, ending_cut, reply_cut, EndsGen, EndsForm}
use Rattle.cxl_shell.specs.Endings as ends
use Rattle.cxl_shell.specs.Run.{by_files, unready, IsRun, unopened, opened}
use Rattle.cxl_shell.specs.commands.Script.{FailsToOpen, bus, memory, ending_text}
use Rattle.cxl_topo.specs.declared.node.Node.{Node}

pub record HasGrown (status : Status) (old new : SinkState) : Type 0 where
  pub text : List ℕ
  pub taken : Takes old new text
  pub quiet : status ≢ WriteFault → LeavesCount old.counts_failures_alone old.faults new.faults

grown_to : (outcome : Outcome) (status : Status) (old new : SinkState) → Ends outcome status old new → HasGrown status old new
grown_to outcome status old new (inl written) = record { text = whole_text outcome; taken = written.taken; quiet = λ _. written.unswallowed }
grown_to outcome status old new (inr short) =
    record { text = take short.taken.count (whole_text outcome); taken = short.taken.taken; quiet = λ other. absurd (other short.status_is) }

by_files_grows : (form : Form) (old new : Outside) (status : Status) → ways.IsRunByFiles form old new status → HasGrown status old.out new.out
by_files_grows form old new status (ways.writes outcome answers written) = grown_to outcome status old.out new.out (inl written)
by_files_grows form old new status (ways.is_cut outcome answers short) = grown_to outcome status old.out new.out (inr short)
by_files_grows form old new status (ways.runs_out takes is (ways.before some none)) =
    record { text = []; taken = none.taken; quiet = λ _. none.unswallowed }
by_files_grows form old new status (ways.runs_out takes is (ways.behind outcome answers unfailed lines)) =
    record { text = concat (take lines.count outcome.pieces); taken = lines.taken; quiet = λ _. lines.unswallowed }

unready_grows : (s : System) (frames : ℕ) (first last : Devices) (old new : SinkState) (status : Status) → FailsToOpen s frames first last old new status
    → HasGrown status old new
unready_grows s frames first last old new status (bus starts rose half empty told) = grown_to _ status old new told
unready_grows s frames first last old new status (memory regs media unhidden is none) = record { text = []; taken = none.taken; quiet = λ _. none.unswallowed }

pub script_grows : (nodes : List Node) (asked : List Asked) (turns : List Turn) (first last : SourceState) (old new : SinkState) (status : Status)
    → EndsScript nodes asked turns first last old new status → HasGrown status old new
script_grows nodes asked turns first last old new status (read_out end lines is stops e text source sink) =
    record { text = text_of nodes turns ++ ending_text end; taken = text; quiet = λ _. sink }
script_grows nodes asked turns first last old new status (ending_cut end lines is stops e short) =
    record { text = text_of nodes turns ++ take short.count (ending_text end); taken = short.taken; quiet = λ other. absurd (other is) }
script_grows nodes asked turns first last old new status (reply_cut lines earlier one is stops e f short source) =
    record { text = text_of nodes earlier ++ take short.count (reply_text nodes one.reply); taken = short.taken; quiet = λ other. absurd (other is) }
script_grows nodes asked turns first last old new status (ends.runs_out lines is stops e text source sink) =
    record { text = text_of nodes turns; taken = text; quiet = λ _. sink }

gen_grows : (n : ℕ) (last : Machine) (asked : List Asked) (turns : List Turn) (old new : SinkState) (status : Status)
    → EndsGen n last asked turns old new status → HasGrown status old new
gen_grows n last asked turns old new status (ends.told checked e found told) = grown_to _ status old new told
gen_grows n last asked turns old new status (ends.runs_out count e is none) = record { text = []; taken = none.taken; quiet = λ _. none.unswallowed }

form_grows : (form : Form) (m : Machine) (asked : List Asked) (turns : List Turn) (old new : Outside) (first last : Devices) (status : Status)
    → EndsForm form m asked turns old new first last status → HasGrown status old.out new.out
form_grows (OfTable cedt ask) m asked turns old new first last status none = absurd none
form_grows (OfResetHost cedt topo (reset_asks.Plan create)) m asked turns old new first last status none = absurd none
form_grows (OfResetHost cedt topo reset_asks.Script) m asked turns old new first last status end =
    script_grows m.settled.nodes asked turns first.script last.script old.out new.out status end
form_grows (OfHost cedt topo image host_asks.Check) m asked turns old new first last status none = absurd none
form_grows (OfHost cedt topo image host_asks.Script) m asked turns old new first last status end =
    script_grows m.settled.nodes asked turns first.script last.script old.out new.out status end
form_grows (OfWords plain_asks.NoCreate) m asked turns old new first last status none = absurd none
form_grows (OfWords (plain_asks.Gen n)) m asked turns old new first last status end =
    gen_grows n (machine_after m turns) asked turns old.out new.out status end.1
form_grows (OfWords plain_asks.Help) m asked turns old new first last status none = absurd none
form_grows (OfWords plain_asks.Version) m asked turns old new first last status none = absurd none
form_grows (OfWords plain_asks.Unreadable) m asked turns old new first last status none = absurd none

pub run_grows : (form : Form) (old new : Outside) (first last : Devices) (status : Status) → IsRun form old new first last status
    → HasGrown status old.out new.out
run_grows form old new first last status (unopened (by_files left run)) = by_files_grows form old new status run
run_grows form old new first last status (unopened (unready s frames start asks unread fails)) =
    unready_grows s frames first last old.out new.out status fails
run_grows form old new first last status (opened s frames m asked turns start asks opens sound answered carried end) =
    form_grows form m asked turns old new first last status end
