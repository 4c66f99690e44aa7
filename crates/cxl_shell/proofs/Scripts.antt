-- How a script ends: over an open session, over a host, and over the files of its form.
use Rattle.std.proofs.Common.{◌≡◌, ◌≢◌, ◌⊎◌, ℕ, ◌<◌, ◌≤◌, true, Option, Some, None, option_map, List, [], ◌∷◌, ◌++◌, length, take, Result, Ok, Err, refl, sym, ap, subst, ◌∙◌, inl, inr, arith}
use Rattle.std.specs.Prelude.{⊤}
use Rattle.std.proofs.lemmas.Bool.{cases_lt}
use Rattle.std.proofs.lemmas.List.{append-nil}
use Rattle.cxl_bus.proofs.Failed.{fails_both}
use Rattle.cxl_bus.specs.Failed.{behind, HasFailed, fresh}
use Rattle.cxl_bus.specs.RegsState.{RegsState}
use Rattle.cxl_bus.specs.Trail.{trail_with}
use Rattle.cxl_bus.specs.declared.sent.Sent.{Sent}
use Rattle.cxl_table.specs.CedtFields.{CedtFields}
use Rattle.cxl_check.specs.declared.fault.Breach.{Breach}
use Rattle.cxl_enc.specs.Faults.{Rose, LeavesCount, CountsExactly}
use Rattle.cxl_image.specs.Images.{reset_blocks}
use Rattle.cxl_inputs.specs.Ends.{Ends, Finishes, WritesNothing}
use Rattle.cxl_inputs.specs.File.{RunsOutBehind}
use Rattle.cxl_inputs.specs.Host.{AreRead, HasNoHost, host_of, no_host, by_host}
use Rattle.cxl_inputs.specs.Outcome.{Outcome}
use Rattle.cxl_inputs.specs.ResetHost.{AreBothRead, HasNoResetHost, reset_host_of, no_reset_host}
use Rattle.cxl_inputs.specs.Stop.{IsStop}
use Rattle.cxl_inputs.specs.declared.status.Status.{Status}
use Rattle.cxl_inputs.specs.declared.status.Status.TheVariants.{Done, WriteFault, Memory}
use Rattle.cxl_inputs.specs.declared.stop.Stop.{Stop}
use Rattle.cxl_inputs.specs.declared.stop.Stop.TheVariants as stop
use Rattle.cxl_inputs.proofs.Stops.{stop-weaker}
use Rattle.cxl_io.specs.Fetch.{AsksFor}
use Rattle.cxl_io.specs.Sink.{SinkState, Takes, TakesPrefix}
use Rattle.cxl_io.specs.Source.{SourceState}
use Rattle.cxl_io.proofs.Writes.{Takes-append}
use Rattle.cxl_machine.specs.Machine.{Machine}
use Rattle.cxl_model.specs.Listed.{region_limit}
use Rattle.cxl_machine.specs.Scripts.{Asked, Turn, lines_asked}
use Rattle.cxl_machine.specs.Sound.{Opens}
use Rattle.cxl_machine.specs.Turns.{text_of, words_sent, failed_in}
use Rattle.cxl_machine.specs.declared.fault.OpenFault.{OpenFault}
use Rattle.cxl_machine.specs.declared.fault.OpenFault.TheVariants as faults
use Rattle.cxl_model.specs.Accepted.{IsAccepted}
use Rattle.cxl_model.specs.System.{System, system_of, bridge_uids}
use Rattle.cxl_regs.specs.Registers.{Registers}
use Rattle.cxl_opening.specs.Opening.{endpoints_in, enabling, ArePoweredOn, empty_media, IsHalfEnabled, IsRefusedImage, HasRegions}
use Rattle.cxl_session.specs.State.{SessionState}
use Rattle.cxl_topo.specs.Tree.{Tree}
use Rattle.cxl_topo.specs.declared.node.Node.{Node}
use Rattle.cxl_turns.specs.Endings.{StopsReading, MeetsNoFault, EndsLines}
use Rattle.cxl_turns.specs.Endings as line_ends
use Rattle.cxl_turns.specs.Going.{HasGoneOn}
use Rattle.cxl_turns.specs.declared.endings.Ending.{Ending}
use Rattle.cxl_turns.specs.declared.endings.Ending.TheVariants as endings
use Rattle.cxl_window.specs.Fields.{WindowFields}
use Rattle.cxl_window.specs.Windows.{windows_of}
use Rattle.cxl_commands.specs.Answers.{IsOutcomeByFiles}
use Rattle.cxl_shell.specs.Devices.{Devices, devices}
use Rattle.cxl_shell.specs.Endings.{HasCarriedOut, EndsScript, read_out, ending_cut, reply_cut, runs_out}
use Rattle.cxl_commands.specs.Form.{Form, Script, own_files, takes_memory}
use Rattle.cxl_commands.specs.Outside.{Outside}
use Rattle.cxl_commands.specs.RunByFiles.{IsRunByFiles}
use Rattle.cxl_shell.specs.Run.{by_files, unready, unopened, opened, IsRun}
use Rattle.cxl_commands.specs.commands.RefusedStart.{breach_told, many_told, too_many_regions}
use Rattle.cxl_commands.specs.inner.Reports.{TellsBreach}
use Rattle.cxl_shell.specs.commands.Script.{StartsSession, bus, memory, bus_failed, status_of, ends_reading, ending_text, script_stopped}
use Rattle.cxl_shell.specs.inner.Scripts.{EndsOver, EndsFromImage}
use Rattle.cxl_shell.specs.inner.Scripts as over
use Rattle.cxl_shell.proofs.ResetHosts.{no_regions}
use Rattle.cxl_commands.proofs.Stops.{run-ended, run-finished}

-- ---- over an open session

module _ (nodes : List Node) (asked : List Asked) (turns : List Turn) (before after : SourceState) where
  -- nothing is told behind the replies
  pub script-done : (old new : SinkState) → EndsLines nodes asked turns before after old new endings.Done → EndsScript nodes asked turns before after old new Done
  script-done old new (line_ends.read_out lines stops e text source sink) =
      read_out endings.Done lines refl stops e (subst (Takes old new) (sym (append-nil (text_of nodes turns))) text) (λ is. source refl) sink.unswallowed
  script-done old new (line_ends.reply_cut lines earlier last first e these cut is source) = absurd (cc)
  script-done old new (line_ends.runs_out lines first e is text source sink) = absurd (cc)

  pub script-cut : (old new : SinkState) → EndsLines nodes asked turns before after old new endings.WriteFault → EndsScript nodes asked turns before after old new WriteFault
  script-cut old new (line_ends.read_out lines stops e text source sink) = absurd stops
  script-cut old new (line_ends.reply_cut lines earlier last first e these cut is source) = reply_cut lines earlier last refl first e these cut source
  script-cut old new (line_ends.runs_out lines first e is text source sink) = absurd (cc)

  pub script-out : (old new : SinkState) → EndsLines nodes asked turns before after old new endings.Memory → EndsScript nodes asked turns before after old new Memory
  script-out old new (line_ends.read_out lines stops e text source sink) = absurd stops
  script-out old new (line_ends.reply_cut lines earlier last first e these cut is source) = absurd (cc)
  script-out old new (line_ends.runs_out lines first e is text source sink) = runs_out lines refl first e text source sink

  -- why reading stopped is told behind them
  module _ (end : Ending) (status : Status) (early : status_of end ≢ Done) (old mid new : SinkState) (counts : old.faults ≤ mid.faults) where
    told_behind : (lines : List (List ℕ)) → StopsReading end lines before after → asked ≡ lines_asked lines → Takes old mid (text_of nodes turns) → MeetsNoFault old mid → Ends (script_stopped end) status mid new → EndsScript nodes asked turns before after old new status
    told_behind lines stops e text sink (inl written) =
        let more = subst (Takes mid new) (append-nil (ending_text end)) written.taken in
        read_out end lines written.status_is stops e (Takes-append old mid new (text_of nodes turns) (ending_text end) text more)
        (λ is. absurd (early (sym written.status_is ∙ is))) (λ only. written.unswallowed (sink.alone ∙ only) ∙ sink.unswallowed only)
    told_behind lines stops e text sink (inr cut) =
        let part = subst (TakesPrefix mid new) (append-nil (ending_text end)) cut.taken in
        let rose = cut.rose in
        ending_cut end lines cut.status_is stops e (record {
          rose = omega (arith, rose, counts);
          count = part.count;
          short = part.short;
          taken = Takes-append old mid new (text_of nodes turns) (take part.count (ending_text end)) text part.taken;
          counted = λ only. subst (λ n. CountsExactly 1 true n new.faults) (sink.unswallowed only) (λ _. cut.counted (sink.alone ∙ only)) refl;
        })

    pub script-stopped : ends_reading end ≡ true → EndsLines nodes asked turns before after old mid end → Ends (script_stopped end) status mid new → EndsScript nodes asked turns before after old new status
    script-stopped reads (line_ends.read_out lines stops e text source sink) ends = told_behind lines stops e text sink ends
    script-stopped reads (line_ends.reply_cut lines earlier last first e these cut is source) ends = let own = ap ends_reading is in absurd (cc)
    script-stopped reads (line_ends.runs_out lines first e is text source sink) ends = let own = ap ends_reading is in absurd (cc)

-- ---- a session opened

-- the words behind those that enable the endpoints
words_behind : (old mid new : Option (List Sent)) (front words : List Sent) → mid ≡ option_map (λ (sent : List Sent). front) old → new ≡ trail_with mid words → new ≡ option_map (λ (sent : List Sent). front ++ words) old
words_behind None mid new front words is then = then ∙ ap (λ t. trail_with t words) is
words_behind (Some sent) mid new front words is then = then ∙ ap (λ t. trail_with t words) is

words_fresh : (old mid : Option (List Sent)) (front : List Sent) → mid ≡ option_map (λ (sent : List Sent). front) old → mid ≡ trail_with (option_map (λ (sent : List Sent). []) old) front
words_fresh None mid front is = is
words_fresh (Some sent) mid front is = is

pub carried-out : (start : System) (frames : ℕ) (first : Machine) (asked : List Asked) (turns : List Turn) (session : SessionState) (nodes : List Node) (mid : RegsState) (before after : Devices) → Opens start frames first → start.nodes ≡ nodes
    → mid.trail ≡ option_map (λ (sent : List Sent). enabling (endpoints_in nodes)) before.regs.trail → HasFailed (fresh before.regs) mid []
    → HasGoneOn first asked turns session mid after.regs after.media → HasCarriedOut first turns before after
carried-out start frames first asked turns session nodes mid before after opens same enabled unfailed gone =
    let host : first.settled.nodes ≡ nodes = ap (λ (m : Machine). m.settled.nodes) opens.machine ∙ same in
    record {
      holds = gone.at.sound;
      words =
          subst (λ ns. after.regs.trail ≡ option_map (λ (sent : List Sent). enabling (endpoints_in ns) ++ words_sent turns) before.regs.trail) (sym host)
          (words_behind before.regs.trail mid.trail after.regs.trail (enabling (endpoints_in nodes)) (words_sent turns) enabled gone.words);
      fails =
          subst (λ ns. HasFailed (fresh before.regs) after.regs (behind (length (enabling (endpoints_in ns))) (failed_in turns))) (sym host)
          (fails_both (fresh before.regs) mid after.regs (enabling (endpoints_in nodes)) [] (failed_in turns) (words_fresh before.regs.trail mid.trail (enabling (endpoints_in nodes)) enabled)
          unfailed gone.fails);
    }

-- ---- none opened

-- the devices are as they were
pub devices_left : (before after : Devices) → after.script ≡ before.script → after.regs ≡ before.regs → after.media ≡ before.media → after ≡ before
devices_left before after script regs media =
    ap (λ s. devices s after.regs after.media) script ∙ ap (λ r. devices before.script r after.media) regs ∙ ap (λ m. devices before.script before.regs m) media

-- no more regions than may live, where more are refused
pub starts_session : (s : System) → IsAccepted s → ((n : ℕ) → HasRegions s n → region_limit < n → ⊥) → StartsSession s
starts_session s accepted none = record { accepted = accepted; few = λ n has. at n has (cases_lt region_limit n) }
  where
    at : (n : ℕ) → HasRegions s n → (region_limit < n) ⊎ (n ≤ region_limit) → n ≤ region_limit
    at n has (inl more) = absurd (none n has more)
    at n has (inr few) = few

-- a fault of the bus is neither
pub not_refused : {T : Type 0} {result : Result T OpenFault} (n : ℕ) → result ≡ Err faults.Bus → (result ≡ Err faults.Memory) ⊎ (result ≡ Err (faults.Full n)) → ⊥
not_refused n is (inl out) = cc
not_refused n is (inr full) = cc

module _ (s : System) (frames : ℕ) (before after : Devices) (old new : SinkState) (status : Status) (unread : after.script ≡ before.script) where
  pub not-opened : (fault : OpenFault) (answer : Result Outcome Stop) → ((b : Breach) → fault ≢ faults.Breach b)
      → ((n : ℕ) → fault ≡ faults.Full n → HasRegions s n × (region_limit < n))
      → (IsRefusedImage fault → (after.regs ≡ before.regs) × (after.media ≡ before.media))
      → (fault ≡ faults.Bus → StartsSession s) → (fault ≡ faults.Bus → Rose before.regs.faults after.regs.faults)
      → (fault ≡ faults.Bus → IsHalfEnabled s before.regs after.regs × (after.media ≡ empty_media frames))
      → (fault ≡ faults.Memory → ((after.regs ≡ before.regs) ⊎ ArePoweredOn s.blocks before.regs after.regs) × ((after.media ≡ before.media) ⊎ (after.media ≡ empty_media frames)))
      → (fault ≡ faults.Memory → LeavesCount before.regs.counts_failures_alone before.regs.faults after.regs.faults)
      → ((n : ℕ) → fault ≡ faults.Full n → answer ≡ Ok too_many_regions) → (fault ≡ faults.Bus → answer ≡ Ok bus_failed) → (fault ≡ faults.Memory → answer ≡ Err stop.Memory)
      → Finishes answer status old new → EndsOver s frames before after old new status
  not-opened (faults.Breach b) answer no_breach many untouched starts rose half out unhidden tells_many tells_bus tells_memory finishes = absurd (no_breach b refl)
  not-opened (faults.Full n) answer no_breach many untouched starts rose half out unhidden tells_many tells_bus tells_memory finishes =
      let left = untouched tt in
      let has = many n refl in
      over.full n has.0 has.1 (devices_left before after unread left.0 left.1) (subst (λ a. Finishes a status old new) (tells_many n refl) finishes)
  not-opened faults.Bus answer no_breach many untouched starts rose half out unhidden tells_many tells_bus tells_memory finishes =
      over.unready unread (bus (starts refl) (rose refl) (half refl).0 (half refl).1 (subst (λ a. Finishes a status old new) (tells_bus refl) finishes))
  not-opened faults.Memory answer no_breach many untouched starts rose half out unhidden tells_many tells_bus tells_memory finishes =
      let ends : (status ≡ Memory) × WritesNothing old new = subst (λ a. Finishes a status old new) (tells_memory refl) finishes in
      over.unready unread (memory (out refl).0 (out refl).1 (unhidden refl) ends.0 ends.1)

-- no session opened, since the check of the host stopped
pub not-checked : (s : System) (frames : ℕ) (before : Devices) (old new : SinkState) (status : Status) (reason : Stop) → IsStop (TellsBreach s) ⊤ reason → Finishes (Err reason) status old new → EndsFromImage s frames before before old new status
not-checked s frames before old new status (stop.Outcome outcome) tells ends = over.broken outcome tells refl ends
not-checked s frames before old new status stop.Memory out ends = over.whole (over.unready refl (memory (inl refl) (inl refl) (λ alone. refl) ends.0 ends.1))

-- ---- over the files of a form

module _ (old new : Outside) (before after : Devices) (status : Status) where
  -- a form without a session ends by its files
  pub run-left : (form : Form) → IsRunByFiles form old new status → after ≡ before → IsRun form old new before after status
  run-left form run left = unopened (by_files left run)

  -- no host
  run-unread : (form : Form) (P : Outcome → Type 0) (reason : Stop) → takes_memory form ≡ true → after ≡ before → ((o : Outcome) → P o → IsOutcomeByFiles form old.files new.files o)
      → IsStop P (RunsOutBehind (own_files form) old.files new.files) reason → Finishes (Err reason) status old.out new.out → IsRun form old new before after status
  run-unread form P reason takes left follows stops finishes =
      unopened (by_files left (run-finished form old new status takes (Err reason)
      (stop-weaker P (IsOutcomeByFiles form old.files new.files) (RunsOutBehind (own_files form) old.files new.files) (RunsOutBehind (own_files form) old.files new.files) reason follows (λ out. out) stops)
      finishes))

  reset_over : (cedt topo : List ℕ) (table : CedtFields) (tree : Tree) → AreBothRead old.files.told cedt topo table tree → AsksFor old.files new.files (cedt ∷ topo ∷ []) → EndsOver (reset_host_of table tree) tree.frames before after old.out new.out status → IsRun (Script cedt topo None) old new before after status
  reset_over cedt topo table tree read asks (over.full n has many left ends) = absurd (no_regions table tree n has many)
  reset_over cedt topo table tree read asks (over.unready unread fails) = unopened (unready (reset_host_of table tree) tree.frames (table, tree, read, refl, refl) asks unread fails)
  reset_over cedt topo table tree read asks (over.opened first asked turns opens is answered carried ends) =
      opened (reset_host_of table tree) tree.frames first asked turns (table, tree, read, refl, refl) asks opens is answered carried ends

  -- from reset
  pub from_reset : (cedt topo : List ℕ) (table : CedtFields) (tree : Tree) (blocks : List Registers) (windows : List WindowFields) → AreBothRead old.files.told cedt topo table tree → windows ≡ windows_of table.records (Some (bridge_uids tree.nodes))
      → blocks ≡ reset_blocks tree.nodes → AsksFor old.files new.files (cedt ∷ topo ∷ []) → EndsOver (system_of blocks tree windows) tree.frames before after old.out new.out status → IsRun (Script cedt topo None) old new before after status
  from_reset cedt topo table tree blocks windows read made reset asks ends =
      reset_over cedt topo table tree read asks (subst (λ ws. EndsOver (system_of (reset_blocks tree.nodes) tree ws) tree.frames before after old.out new.out status) made
      (subst (λ bs. EndsOver (system_of bs tree windows) tree.frames before after old.out new.out status) reset ends))

  pub reset-unread : (cedt topo : List ℕ) (reason : Stop) → after ≡ before → IsStop (HasNoResetHost cedt topo old.files new.files) (RunsOutBehind (cedt ∷ topo ∷ []) old.files new.files) reason
      → Finishes (Err reason) status old.out new.out → IsRun (Script cedt topo None) old new before after status
  reset-unread cedt topo reason left stops finishes =
      run-unread (Script cedt topo None) (HasNoResetHost cedt topo old.files new.files) reason refl left (λ o none. no_reset_host none) stops finishes

  image_over : (cedt topo image : List ℕ) (table : CedtFields) (tree : Tree) (blocks : List Registers) → AreRead old.files.told cedt topo image table tree blocks → AsksFor old.files new.files (cedt ∷ topo ∷ image ∷ []) → EndsOver (host_of table tree blocks) tree.frames before after old.out new.out status → IsRun (Script cedt topo (Some image)) old new before after status
  image_over cedt topo image table tree blocks read asks (over.full n has many left ends) =
      unopened (by_files left (run-ended (Script cedt topo (Some image)) old new status too_many_regions (by_host table tree blocks read (asks, many_told has.1.0 has.0 has.1.1 (subst (λ k. region_limit < k) (sym has.1.2) many) refl)) ends))
  image_over cedt topo image table tree blocks read asks (over.unready unread fails) = unopened (unready (host_of table tree blocks) tree.frames (table, tree, blocks, read, refl, refl) asks unread fails)
  image_over cedt topo image table tree blocks read asks (over.opened first asked turns opens is answered carried ends) =
      opened (host_of table tree blocks) tree.frames first asked turns (table, tree, blocks, read, refl, refl) asks opens is answered carried ends

  image_ends : (cedt topo image : List ℕ) (table : CedtFields) (tree : Tree) (blocks : List Registers) → AreRead old.files.told cedt topo image table tree blocks → AsksFor old.files new.files (cedt ∷ topo ∷ image ∷ []) → EndsFromImage (host_of table tree blocks) tree.frames before after old.out new.out status → IsRun (Script cedt topo (Some image)) old new before after status
  image_ends cedt topo image table tree blocks read asks (over.broken outcome tells left ends) =
      unopened (by_files left (run-ended (Script cedt topo (Some image)) old new status outcome (by_host table tree blocks read (asks, breach_told tells.rule tells.node tells.decoder tells.first tells.told)) ends))
  image_ends cedt topo image table tree blocks read asks (over.whole ends) = image_over cedt topo image table tree blocks read asks ends

  -- from an image
  pub from_image : (cedt topo image : List ℕ) (table : CedtFields) (tree : Tree) (blocks : List Registers) (windows : List WindowFields) → AreRead old.files.told cedt topo image table tree blocks → windows ≡ windows_of table.records (Some (bridge_uids tree.nodes))
      → AsksFor old.files new.files (cedt ∷ topo ∷ image ∷ []) → EndsFromImage (system_of blocks tree windows) tree.frames before after old.out new.out status → IsRun (Script cedt topo (Some image)) old new before after status
  from_image cedt topo image table tree blocks windows read made asks ends =
      image_ends cedt topo image table tree blocks read asks (subst (λ ws. EndsFromImage (system_of blocks tree ws) tree.frames before after old.out new.out status) made ends)

  pub image-unread : (cedt topo image : List ℕ) (reason : Stop) → after ≡ before → IsStop (HasNoHost cedt topo image old.files new.files) (RunsOutBehind (cedt ∷ topo ∷ image ∷ []) old.files new.files) reason
      → Finishes (Err reason) status old.out new.out → IsRun (Script cedt topo (Some image)) old new before after status
  image-unread cedt topo image reason left stops finishes =
      run-unread (Script cedt topo (Some image)) (HasNoHost cedt topo image old.files new.files) reason refl left (λ o none. no_host none) stops finishes
