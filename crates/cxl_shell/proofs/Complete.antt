-- Runs that have all that they ask for are answered whole.
use Rattle.std.proofs.Common.{◌≡◌, ◌⊎◌, ℕ, ◌+◌, ◌≤◌, Option, Some, None, List, ◌++◌, length, refl, sym, ap, subst, ◌∙◌, inl, inr, arith, length-append}
use Rattle.std.specs.Option.{IsSomeAnd}
use Rattle.cxl_enc.specs.Faults.{Rose}
use Rattle.cxl_gen.specs.Made.{made_tree}
use Rattle.cxl_inputs.specs.Ends.{IsWritten}
use Rattle.cxl_inputs.specs.Outcome.{Outcome}
use Rattle.cxl_inputs.specs.declared.status.Status.{Status}
use Rattle.cxl_inputs.specs.declared.status.Status.TheVariants.{Done, BusFault, Refused, Memory}
use Rattle.cxl_io.specs.Reader.{script_limit}
use Rattle.cxl_io.specs.Source.{SourceState}
use Rattle.cxl_io.specs.Told.{told_behind}
use Rattle.cxl_machine.specs.Machine.{Machine}
use Rattle.cxl_machine.specs.Scripts.{Asked, Turn}
use Rattle.cxl_machine.specs.Sound.{Opens}
use Rattle.cxl_machine.specs.Turns.{AreTurns, machine_after}
use Rattle.cxl_model.specs.System.{System}
use Rattle.cxl_turns.specs.declared.endings.Ending.TheVariants as endings
use Rattle.cxl_commands.specs.Answers.{IsOutcomeByFiles, IsAnswerBy}
use Rattle.cxl_shell.specs.Completeness.{AreReadyFiles, IsReadyScript, IsReady, HasReadOut, IsWholeByFiles, IsScriptAnswered, IsAnsweredWhole}
use Rattle.cxl_shell.specs.Devices.{Devices}
use Rattle.cxl_shell.specs.Endings.{HasCarriedOut, EndsScript, read_out, ending_cut, reply_cut, runs_out, EndsGen, told}
use Rattle.cxl_shell.specs.Endings as endings_of
use Rattle.cxl_commands.specs.Form.{Form, OfTable, OfResetHost, OfHost, OfWords}
use Rattle.cxl_commands.specs.Outside.{Outside}
use Rattle.cxl_commands.specs.RunByFiles.{IsRunByFiles, writes, is_cut}
use Rattle.cxl_shell.specs.Run.{by_files, unready, unopened, opened, IsRun}
use Rattle.cxl_commands.specs.RunByFiles as runs
use Rattle.cxl_commands.specs.commands.Help.{helped, version_told}
use Rattle.cxl_shell.specs.commands.Script.{IsStart, FailsToOpen, bus, memory}
use Rattle.cxl_commands.specs.declared.form.HostAsk.TheVariants as host_asks
use Rattle.cxl_commands.specs.declared.form.ResetAsk.TheVariants as reset_asks
use Rattle.cxl_commands.specs.declared.form.WordsAsk.TheVariants as plain_asks
use Rattle.cxl_shell.proofs.Lifted.{no_session}
use Rattle.cxl_commands.proofs.Readings.{HaveOneReading, answer_comes, unless_stopped}
use Rattle.cxl_commands.proofs.Runs.{answer_status}

-- a script that is known and within its limit has no byte past it
within : (before after : SourceState) (bytes : List ℕ) → IsReadyScript before → before.left ≡ told_behind bytes after.left → length bytes ≡ script_limit + 1 → ⊥
within before after bytes ready given count = at before.left after.left ready given
  where
    at : (left rest : Option (List ℕ)) → IsSomeAnd left (λ all. length all ≤ script_limit) → left ≡ told_behind bytes rest → ⊥
    at None rest few is = absurd few
    at (Some all) None few is = absurd (cc)
    at (Some all) (Some rest) few is =
        let same : all ≡ bytes ++ rest = cc in
        let long : length (bytes ++ rest) ≡ length bytes + length rest = length-append bytes rest in
        let less : length (bytes ++ rest) ≤ script_limit = subst (λ b. length b ≤ script_limit) same few in
        absurd (omega (arith, long, less, count))

module _ (old new : Outside) (before after : Devices) (status : Status) (files_well : ¬ (Rose old.files.faults new.files.faults)) (source_well : ¬ (Rose before.script.faults after.script.faults)) (sink_well : ¬ (Rose old.out.faults new.out.faults)) where
  abbrev Completes : Form → Type 0
  Completes form = (status ≡ Memory) ⊎ ((status ≡ BusFault) × Rose before.regs.faults after.regs.faults) ⊎ IsAnsweredWhole form old new before after status

  -- ---- by files

  whole : (form : Form) (outcome : Outcome) → (outcome.status ≡ Done) ⊎ (outcome.status ≡ Refused) → IsOutcomeByFiles form old.files new.files outcome → IsWritten outcome status old.out new.out → after ≡ before → IsWholeByFiles form old new before after status
  whole form outcome (inl done) answers written left = record { outcome = outcome; answers = answers; written = written; status_is = inl (written.status_is ∙ done); left = left }
  whole form outcome (inr refused) answers written left = record { outcome = outcome; answers = answers; written = written; status_is = inr (written.status_is ∙ refused); left = left }

  -- the outcome that is written has the status of an answer
  ends_so : (o outcome : Outcome) → (o.status ≡ Done) ⊎ (o.status ≡ Refused) → status ≡ o.status → status ≡ outcome.status → (outcome.status ≡ Done) ⊎ (outcome.status ≡ Refused)
  ends_so o outcome (inl done) is own = inl (sym own ∙ is ∙ done)
  ends_so o outcome (inr refused) is own = inr (sym own ∙ is ∙ refused)

  module _ (one : HaveOneReading) where
    by_its_files : (form : Form) → AreReadyFiles form old.files → IsRunByFiles form old new status → after ≡ before → (status ≡ Memory) ⊎ IsWholeByFiles form old new before after status
    by_its_files form ready (writes outcome answers written) left =
        at (unless_stopped old new status files_well sink_well (answer_comes old new status one form (writes outcome answers written) ready.0 ready.1))
      where
        at : (status ≡ Memory) ⊎ ((o : Outcome) × IsAnswerBy form ready.0 o × IsWritten o status old.out new.out) → (status ≡ Memory) ⊎ IsWholeByFiles form old new before after status
        at (inl is) = inl is
        at (inr some) = inr (whole form outcome (ends_so some.0 outcome (answer_status form ready.0 some.0 some.1) some.2.status_is written.status_is) answers written left)
    by_its_files form ready (is_cut outcome answers cut) left = absurd (sink_well cut.rose)
    by_its_files form ready (runs.runs_out takes is out) left = inl is

    either : (form : Form) → (IsWholeByFiles form old new before after status → IsAnsweredWhole form old new before after status) → (status ≡ Memory) ⊎ IsWholeByFiles form old new before after status → Completes form
    either form so (inl is) = inl is
    either form so (inr is) = inr (inr (so is))

  told_so : (form : Form) (fixed : Outcome) → fixed.status ≡ Done → ((o : Outcome) → IsOutcomeByFiles form old.files new.files o → o ≡ fixed) → (IsWholeByFiles form old new before after status → IsAnsweredWhole form old new before after status) → IsRunByFiles form old new status → after ≡ before → Completes form
  told_so form fixed done alone so (writes outcome answers written) left = inr (inr (so (whole form outcome (inl (ap (λ o. o.status) (alone outcome answers) ∙ done)) answers written left)))
  told_so form fixed done alone so (is_cut outcome answers cut) left = absurd (sink_well cut.rose)
  told_so form fixed done alone so (runs.runs_out takes is out) left = inl is

  -- ---- with a session

  failed_to_open : (form : Form) (s : System) (frames : ℕ) → FailsToOpen s frames before after old.out new.out status → Completes form
  failed_to_open form s frames (bus starts rose half empty (inl written)) = inr (inl (written.status_is, rose))
  failed_to_open form s frames (bus starts rose half empty (inr cut)) = absurd (sink_well cut.rose)
  failed_to_open form s frames (memory regs media unhidden is none) = inl is

  module _ (form : Form) (s : System) (frames : ℕ) (first : Machine) (asked : List Asked) (turns : List Turn) (start : IsStart form old.files.told s frames) (opens : Opens s frames first) (answered : AreTurns first asked turns) (carried : HasCarriedOut first turns before after) where
    read_whole : IsReadyScript before.script → EndsScript first.settled.nodes asked turns before.script after.script old.out new.out status → (status ≡ Memory) ⊎ ((status ≡ Done) × HasReadOut form endings.Done old new before after)
    read_whole ready (read_out endings.Done lines is stops e text source sink) =
        inr (is, record { start = s; frames = frames; first = first; lines = lines; turns = turns; host = start; opens = opens; stops = stops; answered = subst (λ a. AreTurns first a turns) e answered; carried = carried; text = text })
    read_whole ready (read_out endings.ReadFault lines is stops e text source sink) = absurd (source_well stops.1)
    read_whole ready (read_out endings.TooMuch lines is stops e text source sink) = absurd (within before.script after.script stops.0 ready stops.1 stops.2)
    read_whole ready (read_out endings.WriteFault lines is stops e text source sink) = absurd stops
    read_whole ready (read_out endings.Memory lines is stops e text source sink) = absurd stops
    read_whole ready (ending_cut end lines is stops e cut) = absurd (sink_well cut.rose)
    read_whole ready (reply_cut lines earlier last is front e these cut source) = absurd (sink_well cut.rose)
    read_whole ready (runs_out lines is front e text source sink) = inl is

  script_completes : (form : Form) → (IsScriptAnswered form old new before after status → IsAnsweredWhole form old new before after status) → (status ≡ Memory) ⊎ ((status ≡ Done) × HasReadOut form endings.Done old new before after) → Completes form
  script_completes form so (inl is) = inl is
  script_completes form so (inr read) = inr (inr (so (inl read)))

  gen_completes : (n : ℕ) (s : System) (frames : ℕ) (first : Machine) (asked : List Asked) (turns : List Turn) → IsStart (OfWords (plain_asks.Gen n)) old.files.told s frames → Opens s frames first → AreTurns first asked turns → HasCarriedOut first turns before after → after.script ≡ before.script → EndsGen n (machine_after first turns) asked turns old.out new.out status → Completes (OfWords (plain_asks.Gen n))
  gen_completes n s frames first asked turns start opens answered carried unread (told checked e found (inl written)) =
      inr (inr (
        written.status_is,
        record {
          first = first;
          turns = turns;
          checked = checked;
          opens = subst (λ t. Opens t (made_tree n).frames first) start.0 (subst (λ k. Opens s k first) start.1 opens);
          answered = subst (λ a. AreTurns first a turns) e answered;
          carried = carried;
          found = found;
          text = written;
        },
        unread,
      ))
  gen_completes n s frames first asked turns start opens answered carried unread (told checked e found (inr cut)) = absurd (sink_well cut.rose)
  gen_completes n s frames first asked turns start opens answered carried unread (endings_of.runs_out count e is none) = inl is

  module _ (one : HaveOneReading) where
    pub completes : (form : Form) → IsReady form old.files before.script → IsRun form old new before after status → Completes form
    completes (OfTable cedt ask) ready run =
        let by = no_session (OfTable cedt ask) old new before after status run refl in
        either one (OfTable cedt ask) (λ is. is) (by_its_files one (OfTable cedt ask) ready.0 by.0 by.1)
    completes (OfResetHost cedt topo (reset_asks.Plan create)) ready run =
        let by = no_session (OfResetHost cedt topo (reset_asks.Plan create)) old new before after status run refl in
        either one (OfResetHost cedt topo (reset_asks.Plan create)) (λ is. is) (by_its_files one (OfResetHost cedt topo (reset_asks.Plan create)) ready.0 by.0 by.1)
    completes (OfResetHost cedt topo reset_asks.Script) ready (unopened (by_files left run)) =
        either one (OfResetHost cedt topo reset_asks.Script) (λ is. inr is) (by_its_files one (OfResetHost cedt topo reset_asks.Script) ready.0 run left)
    completes (OfResetHost cedt topo reset_asks.Script) ready (unopened (unready s frames start asks unread fails)) = failed_to_open (OfResetHost cedt topo reset_asks.Script) s frames fails
    completes (OfResetHost cedt topo reset_asks.Script) ready (opened s frames first asked turns start asks opens is answered carried ends) =
        script_completes (OfResetHost cedt topo reset_asks.Script) (λ is. is) (read_whole (OfResetHost cedt topo reset_asks.Script) s frames first asked turns start opens answered carried (ready.1 refl) ends)
    completes (OfHost cedt topo image host_asks.Check) ready run =
        let by = no_session (OfHost cedt topo image host_asks.Check) old new before after status run refl in
        either one (OfHost cedt topo image host_asks.Check) (λ is. is) (by_its_files one (OfHost cedt topo image host_asks.Check) ready.0 by.0 by.1)
    completes (OfHost cedt topo image host_asks.Script) ready (unopened (by_files left run)) =
        either one (OfHost cedt topo image host_asks.Script) (λ is. inr is) (by_its_files one (OfHost cedt topo image host_asks.Script) ready.0 run left)
    completes (OfHost cedt topo image host_asks.Script) ready (unopened (unready s frames start asks unread fails)) = failed_to_open (OfHost cedt topo image host_asks.Script) s frames fails
    completes (OfHost cedt topo image host_asks.Script) ready (opened s frames first asked turns start asks opens is answered carried ends) =
        script_completes (OfHost cedt topo image host_asks.Script) (λ is. is) (read_whole (OfHost cedt topo image host_asks.Script) s frames first asked turns start opens answered carried (ready.1 refl) ends)
    completes (OfWords plain_asks.NoCreate) ready run = absurd ready.0
    completes (OfWords plain_asks.Unreadable) ready run = absurd ready.0
    completes (OfWords plain_asks.Help) ready run =
        let by = no_session (OfWords plain_asks.Help) old new before after status run refl in
        told_so (OfWords plain_asks.Help) helped refl (λ o answers. answers.0) (λ is. is) by.0 by.1
    completes (OfWords plain_asks.Version) ready run =
        let by = no_session (OfWords plain_asks.Version) old new before after status run refl in
        told_so (OfWords plain_asks.Version) version_told refl (λ o answers. answers.0) (λ is. is) by.0 by.1
    completes (OfWords (plain_asks.Gen n)) ready (unopened (by_files left (writes outcome answers written))) = absurd answers.0
    completes (OfWords (plain_asks.Gen n)) ready (unopened (by_files left (is_cut outcome answers cut))) = absurd answers.0
    completes (OfWords (plain_asks.Gen n)) ready (unopened (by_files left (runs.runs_out takes is out))) = inl is
    completes (OfWords (plain_asks.Gen n)) ready (unopened (unready s frames start asks unread fails)) = failed_to_open (OfWords (plain_asks.Gen n)) s frames fails
    completes (OfWords (plain_asks.Gen n)) ready (opened s frames first asked turns start asks opens is answered carried ends) =
        gen_completes n s frames first asked turns start opens answered carried ends.0 ends.1
