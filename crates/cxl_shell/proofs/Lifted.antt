-- What holds of each run: of those that end by their files, and of those that left their files behind.
use Rattle.std.proofs.Common.{◌≡◌, ◌⊎◌, ℕ, true, false, List, refl, sym, ap, subst, ◌∙◌, inl, inr}
use Rattle.cxl_enc.specs.Faults.{Rose}
use Rattle.cxl_inputs.specs.Ends.{Ends}
use Rattle.cxl_inputs.specs.Outcome.{Outcome}
use Rattle.cxl_inputs.specs.declared.status.Status.{Status}
use Rattle.cxl_inputs.specs.declared.status.Status.TheVariants.{WriteFault}
use Rattle.cxl_io.specs.Fetch.{AsksFor}
use Rattle.cxl_io.specs.Sink.{SinkState}
use Rattle.cxl_io.specs.Source.{SourceState}
use Rattle.cxl_io.specs.Told.{Told}
use Rattle.cxl_machine.specs.Machine.{Machine}
use Rattle.cxl_machine.specs.Scripts.{Asked, Turn}
use Rattle.cxl_model.specs.System.{System}
use Rattle.cxl_topo.specs.declared.node.Node.{Node}
use Rattle.cxl_turns.specs.Endings.{StopsReading}
use Rattle.cxl_turns.specs.declared.endings.Ending.{Ending}
use Rattle.cxl_turns.specs.declared.endings.Ending.TheVariants as endings
use Rattle.cxl_shell.specs.Devices.{Devices}
use Rattle.cxl_shell.specs.Endings.{EndsScript, read_out, ending_cut, reply_cut, runs_out, EndsGen, EndsForm}
use Rattle.cxl_shell.specs.Endings as endings_of
use Rattle.cxl_commands.specs.Form.{Form, OfTable, OfResetHost, OfHost, OfWords, own_files, runs_session, takes_memory}
use Rattle.cxl_commands.specs.Outside.{Outside}
use Rattle.cxl_commands.specs.RunByFiles.{IsRunByFiles, EachRunByFiles}
use Rattle.cxl_shell.specs.Run.{by_files, unready, unopened, opened, IsRun, EachRun}
use Rattle.cxl_shell.specs.Statuses.{is_of_files}
use Rattle.cxl_shell.specs.commands.Script.{IsStart, FailsToOpen, bus_failed, bus, memory, status_of}
use Rattle.cxl_shell.specs.commands.Gen.{gen_told}
use Rattle.cxl_commands.specs.declared.form.HostAsk.TheVariants as host_asks
use Rattle.cxl_commands.specs.declared.form.ResetAsk.TheVariants as reset_asks
use Rattle.cxl_commands.specs.declared.form.WordsAsk.TheVariants as plain_asks

-- the same run, by the status that it gives
pub with_status : (form : Form) (old new : Outside) (before after : Devices) (status other : Status) → IsRun form old new before after status → status ≡ other → IsRun form old new before after other
with_status form old new before after status other run same = subst (IsRun form old new before after) same run

-- such a status comes behind the files; status 6 has its cause
pub record IsLate (status : Status) (old new : SinkState) : Type 0 where
  pub late : is_of_files status ≡ false
  pub cut : status ≡ WriteFault → Rose old.faults new.faults

-- The run left its files behind: all that its form names were read and asked for, and a session opened, or its devices could not be made ready.
pub record IsBehindFiles (form : Form) (old new : Outside) (status : Status) : Type 0 where
  pub start : System
  pub frames : ℕ
  pub host : IsStart form old.files.told start frames
  pub asks : AsksFor old.files new.files (own_files form)
  pub is_late : IsLate status old.out new.out

late_of : (outcome : Outcome) (status : Status) (old new : SinkState) → is_of_files outcome.status ≡ false → (outcome.status ≡ WriteFault → ⊥) → Ends outcome status old new → IsLate status old new
late_of outcome status old new late other (inl written) = record { late = ap is_of_files written.status_is ∙ late; cut = λ is. absurd (other (sym written.status_is ∙ is)) }
late_of outcome status old new late other (inr cut) = record { late = ap is_of_files cut.status_is; cut = λ is. cut.rose }

not_opened : (s : System) (frames : ℕ) (before after : Devices) (old new : SinkState) (status : Status) → FailsToOpen s frames before after old new status → IsLate status old new
not_opened s frames before after old new status (bus starts rose half empty ends) = late_of bus_failed status old new refl (λ is. cc) ends
not_opened s frames before after old new status (memory regs media unhidden is none) = record { late = ap is_of_files is; cut = λ other. absurd (cc) }

module _ (old new : SinkState) (status : Status) where
  read_late : (end : Ending) (lines : List (List ℕ)) (before after : SourceState) → status ≡ status_of end → StopsReading end lines before after → IsLate status old new
  read_late endings.Done lines before after is stops = record { late = ap is_of_files is; cut = λ other. absurd (cc) }
  read_late endings.ReadFault lines before after is stops = record { late = ap is_of_files is; cut = λ other. absurd (cc) }
  read_late endings.TooMuch lines before after is stops = record { late = ap is_of_files is; cut = λ other. absurd (cc) }
  read_late endings.WriteFault lines before after is stops = absurd stops
  read_late endings.Memory lines before after is stops = absurd stops

  script_late : (nodes : List Node) (asked : List Asked) (turns : List Turn) (before after : SourceState) → EndsScript nodes asked turns before after old new status → IsLate status old new
  script_late nodes asked turns before after (read_out end lines is stops e text source sink) = read_late end lines before after is stops
  script_late nodes asked turns before after (ending_cut end lines is stops e cut) = record { late = ap is_of_files is; cut = λ other. cut.rose }
  script_late nodes asked turns before after (reply_cut lines earlier last is first e these cut source) = record { late = ap is_of_files is; cut = λ other. cut.rose }
  script_late nodes asked turns before after (runs_out lines is first e text source sink) = record { late = ap is_of_files is; cut = λ other. absurd (cc) }

  gen_late : (n : ℕ) (last : Machine) (asked : List Asked) (turns : List Turn) → EndsGen n last asked turns old new status → IsLate status old new
  gen_late n last asked turns (endings_of.told checked e found ends) = late_of (gen_told n turns checked) status old new refl (λ is. cc) ends
  gen_late n last asked turns (endings_of.runs_out count e is none) = record { late = ap is_of_files is; cut = λ other. absurd (cc) }

-- the commands of a session that opened end late
form_late : (form : Form) (first : Machine) (asked : List Asked) (turns : List Turn) (old new : Outside) (before after : Devices) (status : Status) → EndsForm form first asked turns old new before after status → IsLate status old.out new.out
form_late (OfTable cedt ask) first asked turns old new before after status none = absurd none
form_late (OfResetHost cedt topo (reset_asks.Plan create)) first asked turns old new before after status none = absurd none
form_late (OfResetHost cedt topo reset_asks.Script) first asked turns old new before after status ends = script_late old.out new.out status first.settled.nodes asked turns before.script after.script ends
form_late (OfHost cedt topo image host_asks.Check) first asked turns old new before after status none = absurd none
form_late (OfHost cedt topo image host_asks.Script) first asked turns old new before after status ends = script_late old.out new.out status first.settled.nodes asked turns before.script after.script ends
form_late (OfWords plain_asks.NoCreate) first asked turns old new before after status none = absurd none
form_late (OfWords plain_asks.Help) first asked turns old new before after status none = absurd none
form_late (OfWords plain_asks.Version) first asked turns old new before after status none = absurd none
form_late (OfWords plain_asks.Unreadable) first asked turns old new before after status none = absurd none
form_late (OfWords (plain_asks.Gen n)) first asked turns old new before after status ends = gen_late old.out new.out status n _ asked turns ends.1

-- each run ends by its files, or left them behind
pub by_or_behind : (form : Form) (old new : Outside) (before after : Devices) (status : Status) → IsRun form old new before after status → (IsRunByFiles form old new status × (after ≡ before)) ⊎ IsBehindFiles form old new status
by_or_behind form old new before after status (unopened (by_files left run)) = inl (run, left)
by_or_behind form old new before after status (unopened (unready s frames start asks unread fails)) =
    inr (record { start = s; frames = frames; host = start; asks = asks; is_late = not_opened s frames before after old.out new.out status fails })
by_or_behind form old new before after status (opened s frames first asked turns start asks opens is answered carried ends) =
    inr (record { start = s; frames = frames; host = start; asks = asks; is_late = form_late form first asked turns old new before after status ends })

-- a fact of each run: of those that end by their files, and of the others
pub lifted : (P : Form → Outside → Outside → Status → Type 0) → EachRunByFiles P → ((form : Form) (old new : Outside) (status : Status) → IsBehindFiles form old new status → P form old new status) → EachRun (λ form old new before after status. P form old new status)
lifted P each others form old new before after status run = at (by_or_behind form old new before after status run)
  where
    at : (IsRunByFiles form old new status × (after ≡ before)) ⊎ IsBehindFiles form old new status → P form old new status
    at (inl is) = each form old new status is.0
    at (inr behind) = others form old new status behind

-- such a run has no status that comes of words and files alone
pub not_early : (form : Form) (old new : Outside) (status early : Status) → is_of_files early ≡ true → IsBehindFiles form old new status → status ≡ early → ⊥
not_early form old new status early own behind is = let late = behind.is_late.late in let same = ap is_of_files is in cc

-- ---- runs of files

-- such a run's form works on a session
behind_runs : (form : Form) (files : List ℕ → Told) (s : System) (frames : ℕ) → IsStart form files s frames → (runs_session form ≡ true) × (takes_memory form ≡ true)
behind_runs (OfTable cedt ask) files s frames none = absurd none
behind_runs (OfResetHost cedt topo (reset_asks.Plan create)) files s frames none = absurd none
behind_runs (OfResetHost cedt topo reset_asks.Script) files s frames start = (refl, refl)
behind_runs (OfHost cedt topo image host_asks.Check) files s frames none = absurd none
behind_runs (OfHost cedt topo image host_asks.Script) files s frames start = (refl, refl)
behind_runs (OfWords plain_asks.NoCreate) files s frames none = absurd none
behind_runs (OfWords plain_asks.Help) files s frames none = absurd none
behind_runs (OfWords plain_asks.Version) files s frames none = absurd none
behind_runs (OfWords plain_asks.Unreadable) files s frames none = absurd none
behind_runs (OfWords (plain_asks.Gen n)) files s frames start = (refl, refl)

module _ (form : Form) (old new : Outside) (before after : Devices) (status : Status) (run : IsRun form old new before after status) where
  pub no_session : runs_session form ≡ false → IsRunByFiles form old new status × (after ≡ before)
  no_session none = at (by_or_behind form old new before after status run)
    where
      at : (IsRunByFiles form old new status × (after ≡ before)) ⊎ IsBehindFiles form old new status → IsRunByFiles form old new status × (after ≡ before)
      at (inl is) = is
      at (inr behind) = let runs = (behind_runs form old.files.told behind.start behind.frames behind.host).0 in absurd (cc)

  pub of_its_files : is_of_files status ≡ true → IsRunByFiles form old new status × (after ≡ before)
  of_its_files own = at (by_or_behind form old new before after status run)
    where
      at : (IsRunByFiles form old new status × (after ≡ before)) ⊎ IsBehindFiles form old new status → IsRunByFiles form old new status × (after ≡ before)
      at (inl is) = is
      at (inr behind) = let late = behind.is_late.late in absurd (cc)

pub behind_takes : (form : Form) (old new : Outside) (status : Status) → IsBehindFiles form old new status → takes_memory form ≡ true
behind_takes form old new status behind = (behind_runs form old.files.told behind.start behind.frames behind.host).1
