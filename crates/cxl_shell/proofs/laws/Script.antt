-- What a run of a script comes to.
use Rattle.std.proofs.Common.{◌≡◌, ◌⊎◌, ℕ, ◌+◌, ◌<◌, ◌≤◌, true, false, Option, Some, None, List, [], ◌++◌, length, IfSome, refl, sym, ap, subst, ◌∙◌, inl, inr, arith, length-append}
use Rattle.cxl_table.specs.CedtFields.{CedtFields}
use Rattle.cxl_enc.specs.Faults.{Rose}
use Rattle.cxl_inputs.specs.Ends.{IsWritten}
use Rattle.cxl_inputs.specs.Host.{host_of, AreRead}
use Rattle.cxl_inputs.specs.Image.{IsImageOf, IsImageReading}
use Rattle.cxl_inputs.specs.Outcome.{Outcome}
use Rattle.cxl_inputs.specs.Table.{IsTableOf, IsReading}
use Rattle.cxl_inputs.specs.Topology.{IsTreeOf, IsTreeReading}
use Rattle.cxl_inputs.specs.declared.status.Status.{Status}
use Rattle.cxl_inputs.specs.declared.status.Status.TheVariants.{Done, ReadFault, WriteFault, BusFault, Refused, Memory, TooMuch}
use Rattle.cxl_io.specs.Reader.{script_limit}
use Rattle.cxl_io.specs.Sink.{SinkState, Takes}
use Rattle.cxl_io.specs.Source.{SourceState}
use Rattle.cxl_io.specs.Told.{Told, Bytes, told_behind}
use Rattle.cxl_machine.specs.Machine.{Machine}
use Rattle.cxl_machine.specs.Scripts.{Asked, Turn, lines_asked}
use Rattle.cxl_machine.specs.Sound.{Opens}
use Rattle.cxl_machine.specs.Turns.{AreTurns, machine_after, text_of}
use Rattle.cxl_model.specs.Accepted.{IsAccepted, HasFirstBreach}
use Rattle.cxl_model.specs.System.{System}
use Rattle.cxl_topo.proofs.Trees.{KnownTree}
use Rattle.cxl_model.proofs.SpansListed.{one_list}
use Rattle.cxl_regs.specs.Registers.{Registers}
use Rattle.cxl_opening.specs.Opening.{IsHalfEnabled, empty_media}
use Rattle.cxl_topo.specs.Faults.{IsTree}
use Rattle.cxl_topo.specs.Laws.{AreTreeLaws}
use Rattle.cxl_topo.specs.Tree.{Tree}
use Rattle.cxl_topo.specs.declared.node.Node.{Node}
use Rattle.cxl_turns.specs.Endings.{StopsReading}
use Rattle.cxl_turns.specs.declared.endings.Ending.{Ending}
use Rattle.cxl_turns.specs.declared.endings.Ending.TheVariants as endings
use Rattle.cxl_shell.specs.Completeness.{HasReadOut}
use Rattle.cxl_shell.specs.Devices.{Devices}
use Rattle.cxl_shell.specs.Endings.{HasCarriedOut, EndsScript, read_out, ending_cut, reply_cut, runs_out, EndsGen, EndsForm}
use Rattle.cxl_shell.specs.Endings as endings_of
use Rattle.cxl_commands.specs.Answers.{IsAnswerBy}
use Rattle.cxl_commands.specs.Stopped.{IsStopped}
use Rattle.cxl_commands.specs.Form.{Form, OfTable, OfResetHost, OfHost, OfWords, runs_session, reads_script}
use Rattle.cxl_commands.specs.Outside.{Outside}
use Rattle.cxl_commands.specs.Readings.{AreKnown, ByHost}
use Rattle.cxl_commands.specs.RunByFiles.{IsRunByFiles}
use Rattle.cxl_shell.specs.Run.{IsUnopened, by_files, unready, unopened, opened, IsRun}
use Rattle.cxl_shell.specs.RunOut.{HasRunOut}
use Rattle.cxl_commands.specs.commands.RefusedStart.{IsRefusedStart, breach_told, many_told}
use Rattle.cxl_shell.specs.commands.Script.{IsStart, StartsSession, FailsToOpen, bus, memory, status_of, ends_reading, ending_text}
use Rattle.cxl_commands.specs.declared.form.HostAsk.TheVariants as host_asks
use Rattle.cxl_commands.specs.declared.form.ResetAsk.TheVariants as reset_asks
use Rattle.cxl_commands.specs.declared.form.WordsAsk.TheVariants as plain_asks
use Rattle.cxl_shell.specs.Statuses.{is_of_files}
use Rattle.cxl_shell.proofs.Lifted.{of_its_files}
use Rattle.cxl_commands.proofs.Readings.{HaveOneReading, answer_comes}
use Rattle.cxl_commands.proofs.Runs.{came_to, reset_refused, host_refused, start_status}
use Rattle.cxl_commands.proofs.Steps.{same_bytes}
use Rattle.cxl_shell.proofs.laws.Early.{comes_early, early_by_files, is_of_devices, without_devices, unready_early}

-- ---- a form that works on a session ends as a script or as a generated system does

pub data EndsSession (form : Form) (first : Machine) (asked : List Asked) (turns : List Turn) (old new : SinkState) (before after : SourceState) (status : Status) : Type 0 where
  of_script : reads_script form ≡ true → EndsScript first.settled.nodes asked turns before after old new status → EndsSession form first asked turns old new before after status
  of_gen : (n : ℕ) → reads_script form ≡ false → after ≡ before → EndsGen n (machine_after first turns) asked turns old new status → EndsSession form first asked turns old new before after status

pub ends_session : (form : Form) (first : Machine) (asked : List Asked) (turns : List Turn) (old new : Outside) (before after : Devices) (status : Status) → EndsForm form first asked turns old new before after status → EndsSession form first asked turns old.out new.out before.script after.script status
ends_session (OfTable cedt ask) first asked turns old new before after status none = absurd none
ends_session (OfResetHost cedt topo (reset_asks.Plan create)) first asked turns old new before after status none = absurd none
ends_session (OfResetHost cedt topo reset_asks.Script) first asked turns old new before after status ends = of_script refl ends
ends_session (OfHost cedt topo image host_asks.Check) first asked turns old new before after status none = absurd none
ends_session (OfHost cedt topo image host_asks.Script) first asked turns old new before after status ends = of_script refl ends
ends_session (OfWords plain_asks.NoCreate) first asked turns old new before after status none = absurd none
ends_session (OfWords plain_asks.Help) first asked turns old new before after status none = absurd none
ends_session (OfWords plain_asks.Version) first asked turns old new before after status none = absurd none
ends_session (OfWords plain_asks.Unreadable) first asked turns old new before after status none = absurd none
ends_session (OfWords (plain_asks.Gen n)) first asked turns old new before after status ends = of_gen n refl ends.0 ends.1

-- a generated system ends with one of three statuses
pub gen_ended : (n : ℕ) (last : Machine) (asked : List Asked) (turns : List Turn) (old new : SinkState) (status : Status) → EndsGen n last asked turns old new status → (status ≡ Done) ⊎ (status ≡ WriteFault) ⊎ (status ≡ Memory)
gen_ended n last asked turns old new status (endings_of.told checked e found (inl written)) = inl written.status_is
gen_ended n last asked turns old new status (endings_of.told checked e found (inr short)) = inr (inl short.status_is)
gen_ended n last asked turns old new status (endings_of.runs_out count e is none) = inr (inr is)

-- each form that reads the script works on a session
pub script_runs : (form : Form) → reads_script form ≡ true → runs_session form ≡ true
script_runs (OfTable cedt ask) reads = absurd (cc)
script_runs (OfResetHost cedt topo (reset_asks.Plan create)) reads = absurd (cc)
script_runs (OfResetHost cedt topo reset_asks.Script) reads = refl
script_runs (OfHost cedt topo image host_asks.Check) reads = absurd (cc)
script_runs (OfHost cedt topo image host_asks.Script) reads = refl
script_runs (OfWords ask) reads = absurd (cc)

-- ---- how far a script was read

-- more bytes than the limit were given
long_given : (left rest : Option (List ℕ)) (bytes all : List ℕ) → left ≡ told_behind bytes rest → left ≡ Some all → length bytes ≤ length all
long_given left None bytes all given there = absurd (cc)
long_given left (Some rest) bytes all given there =
    let same : all ≡ bytes ++ rest = cc in
    let long : length (bytes ++ rest) ≡ length bytes + length rest = length-append bytes rest in
    let count : length all ≡ length (bytes ++ rest) = ap length same in
    omega (arith, long, count)

-- at its end all bytes were given
all_given : (left rest : Option (List ℕ)) (bytes all : List ℕ) → left ≡ told_behind bytes rest → IfSome rest (λ more. more ≡ []) → left ≡ Some all → length all ≤ length bytes
all_given left None bytes all given end there = absurd (cc)
all_given left (Some rest) bytes all given end there =
    let same : all ≡ bytes ++ rest = cc in
    let long : length (bytes ++ rest) ≡ length bytes + length rest = length-append bytes rest in
    let count : length all ≡ length (bytes ++ rest) = ap length same in
    let none : length rest ≡ 0 = ap length end in
    omega (arith, long, count, none)

module _ (before after : SourceState) (old new : SinkState) (bytes : List ℕ) (all : before.left ≡ Some bytes) where
  read_too_much : (lines : List (List ℕ)) → StopsReading endings.TooMuch lines before after → script_limit < length bytes
  read_too_much lines stops =
      let long = long_given before.left after.left stops.0 bytes stops.1 all in
      let count = stops.2 in
      omega (arith, long, count)

  not_at_end : (lines : List (List ℕ)) → StopsReading endings.Done lines before after → script_limit < length bytes → ⊥
  not_at_end lines stops more =
      let few = all_given before.left after.left stops.0 bytes stops.1 stops.3 all in
      let within = stops.2 in
      absurd (omega (arith, few, within, more))

-- ---- from a run

module _ (form : Form) (old new : Outside) (before after : Devices) (status : Status) where
  module _ (s : System) (frames : ℕ) (first : Machine) (asked : List Asked) (turns : List Turn) (start : IsStart form old.files.told s frames) (opens : Opens s frames first) (answered : AreTurns first asked turns) (carried : HasCarriedOut first turns before after) where
    read_so : (end : Ending) (lines : List (List ℕ)) → StopsReading end lines before.script after.script → asked ≡ lines_asked lines → Takes old.out new.out (text_of first.settled.nodes turns ++ ending_text end) → HasReadOut form end old new before after
    read_so end lines stops e text =
        record { start = s; frames = frames; first = first; lines = lines; turns = turns; host = start; opens = opens; stops = stops; answered = subst (λ a. AreTurns first a turns) e answered; carried = carried; text = text }

    -- reading came to this end, where the status says so
    read_to : (end : Ending) → ends_reading end ≡ true → status ≡ status_of end → EndsScript first.settled.nodes asked turns before.script after.script old.out new.out status → HasReadOut form end old new before after
    read_to endings.Done reads is (read_out endings.Done lines own stops e text source sink) = read_so endings.Done lines stops e text
    read_to endings.Done reads is (read_out endings.ReadFault lines own stops e text source sink) = absurd (cc)
    read_to endings.Done reads is (read_out endings.TooMuch lines own stops e text source sink) = absurd (cc)
    read_to endings.ReadFault reads is (read_out endings.Done lines own stops e text source sink) = absurd (cc)
    read_to endings.ReadFault reads is (read_out endings.ReadFault lines own stops e text source sink) = read_so endings.ReadFault lines stops e text
    read_to endings.ReadFault reads is (read_out endings.TooMuch lines own stops e text source sink) = absurd (cc)
    read_to endings.TooMuch reads is (read_out endings.Done lines own stops e text source sink) = absurd (cc)
    read_to endings.TooMuch reads is (read_out endings.ReadFault lines own stops e text source sink) = absurd (cc)
    read_to endings.TooMuch reads is (read_out endings.TooMuch lines own stops e text source sink) = read_so endings.TooMuch lines stops e text
    read_to endings.WriteFault reads is ends = absurd (cc)
    read_to endings.Memory reads is ends = absurd (cc)
    read_to end reads is (read_out endings.WriteFault lines own stops e text source sink) = absurd stops
    read_to end reads is (read_out endings.Memory lines own stops e text source sink) = absurd stops
    read_to endings.Done reads is (ending_cut other lines own stops e cut) = absurd (cc)
    read_to endings.ReadFault reads is (ending_cut other lines own stops e cut) = absurd (cc)
    read_to endings.TooMuch reads is (ending_cut other lines own stops e cut) = absurd (cc)
    read_to endings.Done reads is (reply_cut lines earlier last own front e these cut source) = absurd (cc)
    read_to endings.ReadFault reads is (reply_cut lines earlier last own front e these cut source) = absurd (cc)
    read_to endings.TooMuch reads is (reply_cut lines earlier last own front e these cut source) = absurd (cc)
    read_to endings.Done reads is (runs_out lines own front e text source sink) = absurd (cc)
    read_to endings.ReadFault reads is (runs_out lines own front e text source sink) = absurd (cc)
    read_to endings.TooMuch reads is (runs_out lines own front e text source sink) = absurd (cc)

    out_at : status ≡ Memory → EndsScript first.settled.nodes asked turns before.script after.script old.out new.out status → HasRunOut form old new before after
    out_at is (read_out endings.Done lines own stops e text source sink) = absurd (cc)
    out_at is (read_out endings.ReadFault lines own stops e text source sink) = absurd (cc)
    out_at is (read_out endings.TooMuch lines own stops e text source sink) = absurd (cc)
    out_at is (read_out endings.WriteFault lines own stops e text source sink) = absurd stops
    out_at is (read_out endings.Memory lines own stops e text source sink) = absurd stops
    out_at is (ending_cut end lines own stops e cut) = absurd (cc)
    out_at is (reply_cut lines earlier last own front e these cut source) = absurd (cc)
    out_at is (runs_out lines own front e text source sink) =
        record { start = s; frames = frames; first = first; lines = lines; turns = turns; host = start; opens = opens; front = front; answered = subst (λ a. AreTurns first a turns) e answered; carried = carried; text = text }

  -- no reading of a script came to its end where no session opened
  read_by_files : (end : Ending) → ends_reading end ≡ true → status ≡ status_of end → comes_early status ≡ true → ⊥
  read_by_files endings.Done reads is early = let own = ap comes_early is in absurd (cc)
  read_by_files endings.ReadFault reads is early = let own = ap comes_early is in absurd (cc)
  read_by_files endings.TooMuch reads is early = let own = ap comes_early is in absurd (cc)
  read_by_files endings.WriteFault reads is early = absurd (cc)
  read_by_files endings.Memory reads is early = absurd (cc)

  pub reads_out : (end : Ending) → reads_script form ≡ true → ends_reading end ≡ true → status ≡ status_of end → IsRun form old new before after status → HasReadOut form end old new before after
  reads_out end form_reads reads is (unopened (by_files left run)) = absurd (read_by_files end reads is (early_by_files old new form status (script_runs form form_reads) run))
  reads_out end form_reads reads is (unopened (unready s frames start asks unread fails)) = absurd (read_by_files end reads is (unready_early s frames before after old.out new.out status fails))
  reads_out end form_reads reads is (opened s frames first asked turns start asks opens sound answered carried ends) = at (ends_session form first asked turns old new before after status ends)
    where
      at : EndsSession form first asked turns old.out new.out before.script after.script status → HasReadOut form end old new before after
      at (of_script own ends) = read_to s frames first asked turns start opens answered carried end reads is ends
      at (of_gen n none unread ends) = absurd (cc)

  pub memory_in_script : reads_script form ≡ true → status ≡ Memory → IsRun form old new before after status → IsUnopened form old new before after status ⊎ HasRunOut form old new before after
  memory_in_script form_reads is (unopened run) = inl run
  memory_in_script form_reads is (opened s frames first asked turns start asks opens sound answered carried ends) = at (ends_session form first asked turns old new before after status ends)
    where
      at : EndsSession form first asked turns old.out new.out before.script after.script status → IsUnopened form old new before after status ⊎ HasRunOut form old new before after
      at (of_script own ends) = inr (out_at s frames first asked turns start opens answered carried is ends)
      at (of_gen n none unread ends) = absurd (cc)

  -- ---- the causes of statuses

  gen_not : (n : ℕ) (last : Machine) (asked : List Asked) (turns : List Turn) → is_of_devices status ≡ true → EndsGen n last asked turns old.out new.out status → ⊥
  gen_not n last asked turns is ends = at (gen_ended n last asked turns old.out new.out status ends)
    where
      at : (status ≡ Done) ⊎ (status ≡ WriteFault) ⊎ (status ≡ Memory) → ⊥
      at (inl own) = let none = ap is_of_devices own in absurd (cc)
      at (inr (inl own)) = let none = ap is_of_devices own in absurd (cc)
      at (inr (inr own)) = let none = ap is_of_devices own in absurd (cc)

  -- an end of reading that takes the source, and how it is seen
  source_rose : (nodes : List Node) (asked : List Asked) (turns : List Turn) → status ≡ ReadFault → EndsScript nodes asked turns before.script after.script old.out new.out status → Rose before.script.faults after.script.faults
  source_rose nodes asked turns is (read_out endings.Done lines own stops e text source sink) = absurd (cc)
  source_rose nodes asked turns is (read_out endings.ReadFault lines own stops e text source sink) = stops.1
  source_rose nodes asked turns is (read_out endings.TooMuch lines own stops e text source sink) = absurd (cc)
  source_rose nodes asked turns is (read_out endings.WriteFault lines own stops e text source sink) = absurd stops
  source_rose nodes asked turns is (read_out endings.Memory lines own stops e text source sink) = absurd stops
  source_rose nodes asked turns is (ending_cut end lines own stops e cut) = absurd (cc)
  source_rose nodes asked turns is (reply_cut lines earlier last own front e these cut source) = absurd (cc)
  source_rose nodes asked turns is (runs_out lines own front e text source sink) = absurd (cc)

  pub read_failed : status ≡ ReadFault → IsRun form old new before after status → Rose before.script.faults after.script.faults
  read_failed is (unopened (by_files left run)) = let none = without_devices old new form status run in let some = ap is_of_devices is in absurd (cc)
  read_failed is (unopened (unready s frames start asks unread fails)) = let early = unready_early s frames before after old.out new.out status fails in let own = ap comes_early is in absurd (cc)
  read_failed is (opened s frames first asked turns start asks opens sound answered carried ends) = at (ends_session form first asked turns old new before after status ends)
    where
      at : EndsSession form first asked turns old.out new.out before.script after.script status → Rose before.script.faults after.script.faults
      at (of_script own ends) = source_rose first.settled.nodes asked turns is ends
      at (of_gen n none unread ends) = absurd (gen_not n (machine_after first turns) asked turns (ap is_of_devices is) ends)

  past_limit : (nodes : List Node) (asked : List Asked) (turns : List Turn) (bytes : List ℕ) → status ≡ TooMuch → before.script.left ≡ Some bytes → EndsScript nodes asked turns before.script after.script old.out new.out status → script_limit < length bytes
  past_limit nodes asked turns bytes is all (read_out endings.Done lines own stops e text source sink) = absurd (cc)
  past_limit nodes asked turns bytes is all (read_out endings.ReadFault lines own stops e text source sink) = absurd (cc)
  past_limit nodes asked turns bytes is all (read_out endings.TooMuch lines own stops e text source sink) = read_too_much before.script after.script old.out new.out bytes all lines stops
  past_limit nodes asked turns bytes is all (read_out endings.WriteFault lines own stops e text source sink) = absurd stops
  past_limit nodes asked turns bytes is all (read_out endings.Memory lines own stops e text source sink) = absurd stops
  past_limit nodes asked turns bytes is all (ending_cut end lines own stops e cut) = absurd (cc)
  past_limit nodes asked turns bytes is all (reply_cut lines earlier last own front e these cut source) = absurd (cc)
  past_limit nodes asked turns bytes is all (runs_out lines own front e text source sink) = absurd (cc)

  pub is_too_long : (bytes : List ℕ) → status ≡ TooMuch → before.script.left ≡ Some bytes → IsRun form old new before after status → script_limit < length bytes
  is_too_long bytes is all (unopened (by_files left run)) = let none = without_devices old new form status run in let some = ap is_of_devices is in absurd (cc)
  is_too_long bytes is all (unopened (unready s frames start asks unread fails)) = let early = unready_early s frames before after old.out new.out status fails in let own = ap comes_early is in absurd (cc)
  is_too_long bytes is all (opened s frames first asked turns start asks opens sound answered carried ends) = at (ends_session form first asked turns old new before after status ends)
    where
      at : EndsSession form first asked turns old.out new.out before.script after.script status → script_limit < length bytes
      at (of_script own ends) = past_limit first.settled.nodes asked turns bytes is all ends
      at (of_gen n none unread ends) = absurd (gen_not n (machine_after first turns) asked turns (ap is_of_devices is) ends)

  -- ---- a script that is too long

  -- it is told so, unless source, sink or memory end the run before
  abbrev pub IsTooLongOr : Type 0 → Type 0
  IsTooLongOr Other =
      (status ≡ TooMuch) ⊎ ((status ≡ ReadFault) × Rose before.script.faults after.script.faults)
      ⊎ ((status ≡ WriteFault) × Rose old.out.faults new.out.faults) ⊎ (status ≡ Memory) ⊎ Other

  stops_long : (Other : Type 0) (nodes : List Node) (asked : List Asked) (turns : List Turn) (bytes : List ℕ) → before.script.left ≡ Some bytes → script_limit < length bytes → EndsScript nodes asked turns before.script after.script old.out new.out status → IsTooLongOr Other
  stops_long Other nodes asked turns bytes all more (read_out endings.Done lines own stops e text source sink) = absurd (not_at_end before.script after.script old.out new.out bytes all lines stops more)
  stops_long Other nodes asked turns bytes all more (read_out endings.ReadFault lines own stops e text source sink) = inr (inl (own, stops.1))
  stops_long Other nodes asked turns bytes all more (read_out endings.TooMuch lines own stops e text source sink) = inl own
  stops_long Other nodes asked turns bytes all more (read_out endings.WriteFault lines own stops e text source sink) = absurd stops
  stops_long Other nodes asked turns bytes all more (read_out endings.Memory lines own stops e text source sink) = absurd stops
  stops_long Other nodes asked turns bytes all more (ending_cut end lines own stops e cut) = inr (inr (inl (own, cut.rose)))
  stops_long Other nodes asked turns bytes all more (reply_cut lines earlier last own front e these cut source) = inr (inr (inl (own, cut.rose)))
  stops_long Other nodes asked turns bytes all more (runs_out lines own front e text source sink) = inr (inr (inr (inl own)))

  pub only_long : (bytes : List ℕ) → reads_script form ≡ true → before.script.left ≡ Some bytes → script_limit < length bytes → IsRun form old new before after status → IsTooLongOr (IsUnopened form old new before after status)
  only_long bytes reads all more (unopened run) = inr (inr (inr (inr run)))
  only_long bytes reads all more (opened s frames first asked turns start asks opens sound answered carried ends) = at (ends_session form first asked turns old new before after status ends)
    where
      at : EndsSession form first asked turns old.out new.out before.script after.script status → IsTooLongOr (IsUnopened form old new before after status)
      at (of_script own ends) = stops_long (IsUnopened form old new before after status) first.settled.nodes asked turns bytes all more ends
      at (of_gen n none unread ends) = absurd (cc)

  -- ---- the bus failed before the first command

  -- the endpoints before the fault decode, and media is empty
  abbrev pub IsHalfReady : Type 0
  IsHalfReady = (s : System) × (frames : ℕ) × IsStart form old.files.told s frames × IsHalfEnabled s before.regs after.regs × (after.media ≡ empty_media frames)

  script_not_bus : (nodes : List Node) (asked : List Asked) (turns : List Turn) → status ≡ BusFault → EndsScript nodes asked turns before.script after.script old.out new.out status → ⊥
  script_not_bus nodes asked turns is (read_out endings.Done lines own stops e text source sink) = absurd (cc)
  script_not_bus nodes asked turns is (read_out endings.ReadFault lines own stops e text source sink) = absurd (cc)
  script_not_bus nodes asked turns is (read_out endings.TooMuch lines own stops e text source sink) = absurd (cc)
  script_not_bus nodes asked turns is (read_out endings.WriteFault lines own stops e text source sink) = absurd stops
  script_not_bus nodes asked turns is (read_out endings.Memory lines own stops e text source sink) = absurd stops
  script_not_bus nodes asked turns is (ending_cut end lines own stops e cut) = absurd (cc)
  script_not_bus nodes asked turns is (reply_cut lines earlier last own front e these cut source) = absurd (cc)
  script_not_bus nodes asked turns is (runs_out lines own front e text source sink) = absurd (cc)

  bus_unready : (s : System) (frames : ℕ) → IsStart form old.files.told s frames → after.script ≡ before.script → status ≡ BusFault → FailsToOpen s frames before after old.out new.out status
      → Rose before.regs.faults after.regs.faults × (after.script ≡ before.script) × IsHalfReady
  bus_unready s frames start unread is (bus starts rose half empty ends) = (rose, unread, (s, frames, start, half, empty))
  bus_unready s frames start unread is (memory regs media unhidden own none) = absurd (cc)

  pub bus_rose : status ≡ BusFault → IsRun form old new before after status → Rose before.regs.faults after.regs.faults × (after.script ≡ before.script) × IsHalfReady
  bus_rose is (unopened (by_files left run)) = let none = without_devices old new form status run in let some = ap is_of_devices is in absurd (cc)
  bus_rose is (unopened (unready s frames start asks unread fails)) = bus_unready s frames start unread is fails
  bus_rose is (opened s frames first asked turns start asks opens sound answered carried ends) = at (ends_session form first asked turns old new before after status ends)
    where
      at : EndsSession form first asked turns old.out new.out before.script after.script status → Rose before.regs.faults after.regs.faults × (after.script ≡ before.script) × IsHalfReady
      at (of_script own ends) = absurd (script_not_bus first.settled.nodes asked turns is ends)
      at (of_gen n none unread ends) = absurd (gen_not n (machine_after first turns) asked turns (ap is_of_devices is) ends)

-- ---- no session starts

module _ (old new : Outside) (before after : Devices) (status : Status) where
  -- the image has a breach or too many regions, which is told, and nothing was touched
  abbrev pub IsRefusedSo : Form → Type 0
  IsRefusedSo form =
      (s : System) × (frames : ℕ) × (outcome : Outcome) × IsStart form old.files.told s frames × IsRefusedStart s outcome
      × IsWritten outcome status old.out new.out × (after ≡ before)

  refused_so : (form : Form) → reads_script form ≡ true → status ≡ Refused → IsRunByFiles form old new status → after ≡ before → IsRefusedSo form
  refused_so (OfTable cedt ask) reads is run left = absurd (cc)
  refused_so (OfResetHost cedt topo (reset_asks.Plan create)) reads is run left = absurd (cc)
  refused_so (OfResetHost cedt topo reset_asks.Script) reads is run left =
      absurd ((reset_refused old new cedt topo reset_asks.Script (came_to old new (OfResetHost cedt topo reset_asks.Script) status Refused run is)).answer)
  refused_so (OfHost cedt topo image host_asks.Check) reads is run left = absurd (cc)
  refused_so (OfHost cedt topo image host_asks.Script) reads is run left =
      let at = host_refused old new cedt topo image host_asks.Script (came_to old new (OfHost cedt topo image host_asks.Script) status Refused run is) in (
        host_of at.table at.tree at.blocks,
        at.tree.frames,
        at.outcome,
        (at.table, at.tree, at.blocks, at.of, refl, refl),
        at.answer,
        subst (λ own. IsWritten at.outcome own old.out new.out) (sym is) at.written,
        left,
      )
  refused_so (OfWords ask) reads is run left = absurd (cc)

  pub is_refused : (form : Form) → reads_script form ≡ true → status ≡ Refused → IsRun form old new before after status → IsRefusedSo form
  is_refused form reads is run =
      let by = of_its_files form old new before after status run (ap is_of_files is) in
      refused_so form reads is by.0 by.1

-- ---- an image from which no session starts

abbrev pub ImageScript : List ℕ → List ℕ → List ℕ → Form
ImageScript cedt topo image = OfHost cedt topo image host_asks.Script

-- a session that opened is of no such image
refused_not_opened : ((s : System) → IsAccepted s → HasFirstBreach s → ⊥) → (s : System) → KnownTree s.nodes → (frames : ℕ) (first : Machine) (outcome : Outcome) → Opens s frames first → IsRefusedStart s outcome → ⊥
refused_not_opened not_both s tree frames first outcome opens (breach_told rule node decoder is e) = not_both s opens.accepted (rule, node, decoder, is)
refused_not_opened not_both s tree frames first outcome opens (many_told regions is listed more e) =
    let same : length regions ≡ length opens.regions = ap length (one_list s regions opens.regions tree listed opens.listed) in
    let few = opens.few in
    absurd (omega (arith, same, few, more))

-- nor does one start
refused_not_started : ((s : System) → IsAccepted s → HasFirstBreach s → ⊥) → (s : System) (outcome : Outcome) → StartsSession s → IsRefusedStart s outcome → ⊥
refused_not_started not_both s outcome starts (breach_told rule node decoder is e) = not_both s starts.accepted (rule, node, decoder, is)
refused_not_started not_both s outcome starts (many_told regions is listed more e) = let few = starts.few (length regions) (is, (regions, listed, refl)) in absurd (omega (arith, few, more))

-- the table, the tree and the image that a session starts on are the known ones
module _ (one : HaveOneReading) (told : List ℕ → Told) (cedt topo image : List ℕ) (table : CedtFields) (tree : Tree) (blocks : List Registers) (known : AreKnown (ImageScript cedt topo image) told (ByHost table tree blocks)) where
  own_table : (other : CedtFields) → IsTableOf (told cedt) other → other ≡ table
  own_table other of =
      let knows = known.0 in
      let asked = knows.known.asked in
      let names : knows.known.file ≡ cedt = cc in
      let there : told cedt ≡ Bytes knows.bytes = subst (λ f. told f ≡ Bytes knows.bytes) names knows.known.there in
      one.of_table.one knows.bytes other table (subst (λ b. IsReading b other) (same_bytes (told cedt) of.bytes knows.bytes of.told_so there) of.reading) knows.reading

  own_tree : (other : Tree) → IsTreeOf (told topo) other → other ≡ tree
  own_tree other of =
      let knows = known.1 in
      let asked = knows.known.asked in
      let names : knows.known.file ≡ topo = cc in
      let there : told topo ≡ Bytes knows.bytes = subst (λ f. told f ≡ Bytes knows.bytes) names knows.known.there in
      one.of_tree.one knows.bytes other tree (subst (λ b. IsTreeReading b other) (same_bytes (told topo) of.bytes knows.bytes of.told_so there) of.reading) knows.reading

  own_image : (other : List Registers) → IsImageOf (told image) tree.nodes other → other ≡ blocks
  own_image other of =
      let knows = known.2 in
      let asked = knows.known.asked in
      let names : knows.known.file ≡ image = cc in
      let there : told image ≡ Bytes knows.bytes = subst (λ f. told f ≡ Bytes knows.bytes) names knows.known.there in
      (one.of_image tree.nodes).one knows.bytes other blocks (subst (λ b. IsImageReading b tree.nodes other) (same_bytes (told image) of.bytes knows.bytes of.told_so there) of.reading) knows.reading

  own_host : (other : CedtFields) (grown : Tree) (parts : List Registers) → AreRead told cedt topo image other grown parts → host_of other grown parts ≡ host_of table tree blocks
  own_host other grown parts read =
      let first = own_table other read.of_table in
      let second = own_tree grown read.of_tree in
      let third = own_image parts (subst (λ (t : Tree). IsImageOf (told image) t.nodes parts) second read.of_image) in
      ap (λ t. host_of t grown parts) first ∙ ap (λ t. host_of table t parts) second ∙ ap (λ b. host_of table tree b) third

  own_start : (s : System) (frames : ℕ) → IsStart (ImageScript cedt topo image) told s frames → s ≡ host_of table tree blocks
  own_start s frames start = start.4 ∙ own_host start.0 start.1 start.2 start.3

module _ (one : HaveOneReading) (not_both : (s : System) → IsAccepted s → HasFirstBreach s → ⊥) (tree_laws : (nodes : List Node) → IsTree nodes → AreTreeLaws nodes) (old new : Outside) (before after : Devices) (status : Status) where
  module _ (cedt topo image : List ℕ) (table : CedtFields) (tree : Tree) (blocks : List Registers) (outcome : Outcome) (known : AreKnown (ImageScript cedt topo image) old.files.told (ByHost table tree blocks)) (refused : IsRefusedStart (host_of table tree blocks) outcome) where
    refused_fails : (s : System) (frames : ℕ) → s ≡ host_of table tree blocks → FailsToOpen s frames before after old.out new.out status → (status ≡ Refused) ⊎ IsStopped status old new
    refused_fails s frames same (bus starts rose half empty ends) = absurd (refused_not_started not_both (host_of table tree blocks) outcome (subst StartsSession same starts) refused)
    refused_fails s frames same (memory regs media unhidden is none) = inr (inr (inr is))

    told_refused : ((o : Outcome) × IsAnswerBy (ImageScript cedt topo image) (ByHost table tree blocks) o × IsWritten o status old.out new.out) ⊎ IsStopped status old new → (status ≡ Refused) ⊎ IsStopped status old new
    told_refused (inl some) = let written = some.2 in inl (written.status_is ∙ start_status (host_of table tree blocks) some.0 some.1)
    told_refused (inr stopped) = inr stopped

    pub refused_comes : IsRun (ImageScript cedt topo image) old new before after status → (status ≡ Refused) ⊎ IsStopped status old new
    refused_comes (unopened (by_files left run)) = told_refused (answer_comes old new status one (ImageScript cedt topo image) run (ByHost table tree blocks) known)
    refused_comes (unopened (unready s frames start asks unread fails)) =
        refused_fails s frames (own_start one old.files.told cedt topo image table tree blocks known s frames start) fails
    refused_comes (opened s frames first asked turns start asks opens sound answered carried ends) =
        let same = own_start one old.files.told cedt topo image table tree blocks known s frames start in
        let legal = known.1.reading.stands.legal in
        absurd (refused_not_opened not_both (host_of table tree blocks) (record { tree = legal; laws = tree_laws tree.nodes legal }) frames first outcome
        (subst (λ t. Opens t frames first) same opens) refused)
