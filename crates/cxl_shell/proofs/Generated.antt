-- How the commands of a generated system end: over an open session, and over its host.
use Rattle.std.proofs.Common.{◌≡◌, ◌≢◌, ◌⊎◌, ℕ, ◌<◌, Some, List, [], map, take, length, Result, Ok, Err, refl, sym, ap, subst, ◌∙◌}
use Rattle.std.specs.Prelude.{All, slice_get}
use Rattle.std.proofs.Math.Seq.{take-length}
use Rattle.std.proofs.lemmas.List.{take-map}
use Rattle.std.proofs.lemmas.List.Elements.{All-get_or}
use Rattle.std.proofs.lemmas.Option.{slice_get_within, get_or_from_slice_get}
use Rattle.cxl_bus.specs.RegsState.{RegsState}
use Rattle.cxl_table.specs.CedtFields.{CedtFields}
use Rattle.cxl_check.specs.declared.fault.Breach.{Breach}
use Rattle.cxl_enc.specs.Faults.{Rose, LeavesCount}
use Rattle.cxl_gen.specs.Made.{made_table, made_tree, made_commands}
use Rattle.cxl_image.specs.Images.{reset_blocks}
use Rattle.cxl_inputs.specs.Ends.{Finishes, WritesNothing}
use Rattle.cxl_inputs.specs.Outcome.{Outcome}
use Rattle.cxl_inputs.specs.ResetHost.{reset_host_of}
use Rattle.cxl_inputs.specs.declared.status.Status.{Status}
use Rattle.cxl_inputs.specs.declared.status.Status.TheVariants.{Memory}
use Rattle.cxl_inputs.specs.declared.stop.Stop.{Stop}
use Rattle.cxl_inputs.specs.declared.stop.Stop.TheVariants as stop
use Rattle.cxl_io.specs.Fetch.{AsksFor}
use Rattle.cxl_io.specs.Sink.{SinkState}
use Rattle.cxl_machine.specs.Machine.{Machine, present, image_of}
use Rattle.cxl_model.specs.Listed.{region_limit}
use Rattle.cxl_machine.specs.Scripts.{Turn}
use Rattle.cxl_machine.specs.declared.fault.OpenFault.{OpenFault}
use Rattle.cxl_machine.specs.declared.fault.OpenFault.TheVariants as faults
use Rattle.cxl_media.specs.MediaState.{MediaState}
use Rattle.cxl_model.specs.Accepted.{IsAccepted}
use Rattle.cxl_model.specs.System.{System, IsSystem, system_of, bridge_uids}
use Rattle.cxl_regs.specs.Registers.{Registers}
use Rattle.cxl_script.specs.Grammar.{IsRanged}
use Rattle.cxl_script.specs.declared.command.Command.{Command}
use Rattle.cxl_opening.specs.Opening.{ArePoweredOn, IsHalfEnabled, HasRegions, empty_media}
use Rattle.cxl_session.specs.Standing.{StandsFor, ForEachMachine}
use Rattle.cxl_session.specs.State.{SessionState, image_in}
use Rattle.cxl_topo.specs.Tree.{Tree}
use Rattle.cxl_topo.specs.declared.node.Node.{Node}
use Rattle.cxl_turns.specs.Going.{HasGoneOn}
use Rattle.cxl_turns.specs.declared.counts.Counts.{Counts}
use Rattle.cxl_turns.proofs.Counting.{AreCounted, left_counted}
use Rattle.cxl_window.specs.Fields.{WindowFields}
use Rattle.cxl_window.specs.Windows.{windows_of}
use Rattle.cxl_shell.specs.Devices.{Devices}
use Rattle.cxl_commands.specs.Form.{Gen}
use Rattle.cxl_commands.specs.Outside.{Outside}
use Rattle.cxl_shell.specs.Run.{unopened, unready, opened, IsRun}
use Rattle.cxl_shell.specs.commands.Gen.{made_asked}
use Rattle.cxl_shell.specs.commands.Script.{FailsToOpen, bus, memory, bus_failed}
use Rattle.cxl_shell.specs.inner.Generated.{made_host, IsMadeHost, EndsMade}
use Rattle.cxl_shell.specs.inner.Generated as made
use Rattle.cxl_shell.proofs.ResetHosts.{no_regions}
use Rattle.cxl_shell.proofs.Scripts.{starts_session}

-- ---- over an open session

-- its image is the machine's
pub image_is_present : (session : SessionState) (m : Machine) → StandsFor session m → image_in session ≡ present m
image_is_present session m stands =
    let over : List Node → List Registers → List WindowFields → System = λ nodes blocks windows. record { nodes = nodes; blocks = blocks; windows = windows } in
    ap (λ nodes. over nodes session.image session.windows) (sym stands.nodes) ∙ ap (λ blocks. over m.settled.nodes blocks session.windows) stands.image
    ∙ ap (λ windows. over m.settled.nodes (image_of m) windows) (sym stands.windows)

module _ (n : ℕ) (m : Machine) (turns : List Turn) (session : SessionState) (old new : RegsState) (media : MediaState) where
  -- all of them are the first of them
  pub gone_first_all : HasGoneOn m (made_asked n) turns session old new media → HasGoneOn m (take (length (made_asked n)) (made_asked n)) turns session old new media
  gone_first_all gone = subst (λ asked. HasGoneOn m asked turns session old new media) (sym (take-length (made_asked n))) gone

  pub gone_first : (count : ℕ) → HasGoneOn m (map (λ command. Ok command) (take count (made_commands n))) turns session old new media → HasGoneOn m (take count (made_asked n)) turns session old new media
  gone_first count gone = subst (λ asked. HasGoneOn m asked turns session old new media) (sym (take-map (λ command. Ok command) count (made_commands n))) gone

-- the next of them, as a line could ask for it
pub next_ranged : (n k : ℕ) (command : Command) → ((n : ℕ) → All IsRanged (made_commands n)) → slice_get (made_commands n) k ≡ Some command → IsRanged command
next_ranged n k command ranged is =
    subst IsRanged (get_or_from_slice_get (made_commands n) k command command is) (All-get_or IsRanged (made_commands n) k command (slice_get_within (made_commands n) k command is) (ranged n))

-- memory ran out for the next one, or while it was carried out
pub before_next : (n k : ℕ) (start session : SessionState) (old new : RegsState) (before media : MediaState) (counts : Counts)
    → AreCounted k (made_commands n) start session old new before media counts
    → ForEachMachine start old before (λ m. (count : ℕ) × (turns : List Turn) × HasGoneOn m (take count (made_asked n)) turns session old new media)
before_next n k start session old new before media counts so_far m at =
    let (turns, gone, is) = so_far.each m at in (k, turns, gone_first n m turns session old new media k gone)

pub at_next : (n k : ℕ) (start mid session : SessionState) (old now new : RegsState) (before between media : MediaState) (counts : Counts)
    → AreCounted k (made_commands n) start mid old now before between counts → ForEachMachine mid now between (λ m. HasGoneOn m [] [] session now new media)
    → ForEachMachine start old before (λ m. (count : ℕ) × (turns : List Turn) × HasGoneOn m (take count (made_asked n)) turns session old new media)
at_next n k start mid session old now new before between media counts so_far none m at =
    let (count, turns, gone) = left_counted k (made_commands n) start mid session old now new before between media counts so_far none m at in
    (count, turns, gone_first n m turns session old new media count gone)

-- ---- its host

module _ (n : ℕ) (table : CedtFields) (tree : Tree) (blocks : List Registers) (windows : List WindowFields) where
  pub host-made : table ≡ made_table n → tree ≡ made_tree n → blocks ≡ reset_blocks tree.nodes → windows ≡ windows_of table.records (Some (bridge_uids tree.nodes)) → IsSystem (system_of blocks tree windows)
      → ((t : Tree) (ws : List WindowFields) → IsSystem (system_of (reset_blocks t.nodes) t ws) → IsAccepted (system_of (reset_blocks t.nodes) t ws)) → IsMadeHost n (system_of blocks tree windows) tree
  host-made of_table of_tree reset judged system law = record {
    host_is =
        ap (λ bs. system_of bs tree windows) reset ∙ ap (λ ws. system_of (reset_blocks tree.nodes) tree ws) judged
        ∙ ap (λ t. reset_host_of t tree) of_table ∙ ap (λ t. reset_host_of (made_table n) t) of_tree;
    tree_is = of_tree;
    system = system;
    accepted = subst (λ bs. IsAccepted (system_of bs tree windows)) (sym reset) (law tree windows (subst (λ bs. IsSystem (system_of bs tree windows)) reset system));
  }

-- ---- no session opened

module _ (n : ℕ) (s : System) (is : s ≡ made_host n) (accepted : IsAccepted s) (frames : ℕ) (before after : Devices) (old new : SinkState) (status : Status) where
  pub fails-to_open : (fault : OpenFault) (answer : Result Outcome Stop) → ((b : Breach) → fault ≢ faults.Breach b)
      → ((many : ℕ) → fault ≡ faults.Full many → HasRegions s many × (region_limit < many))
      → (fault ≡ faults.Bus → Rose before.regs.faults after.regs.faults)
      → (fault ≡ faults.Bus → IsHalfEnabled s before.regs after.regs × (after.media ≡ empty_media frames))
      → (fault ≡ faults.Memory → ((after.regs ≡ before.regs) ⊎ ArePoweredOn s.blocks before.regs after.regs) × ((after.media ≡ before.media) ⊎ (after.media ≡ empty_media frames)))
      → (fault ≡ faults.Memory → LeavesCount before.regs.counts_failures_alone before.regs.faults after.regs.faults)
      → (fault ≡ faults.Bus → answer ≡ Ok bus_failed) → (fault ≡ faults.Memory → answer ≡ Err stop.Memory)
      → Finishes answer status old new → FailsToOpen s frames before after old new status
  fails-to_open (faults.Breach b) answer no_breach many rose half out unhidden tells_bus tells_memory finishes = absurd (no_breach b refl)
  fails-to_open (faults.Full count) answer no_breach many rose half out unhidden tells_bus tells_memory finishes =
      let has = many count refl in
      absurd (no_regions (made_table n) (made_tree n) count (subst (λ t. HasRegions t count) is has.0) has.1)
  fails-to_open faults.Bus answer no_breach many rose half out unhidden tells_bus tells_memory finishes =
      bus (starts_session s accepted (λ count has more. no_regions (made_table n) (made_tree n) count (subst (λ t. HasRegions t count) is has) more))
      (rose refl) (half refl).0 (half refl).1 (subst (λ a. Finishes a status old new) (tells_bus refl) finishes)
  fails-to_open faults.Memory answer no_breach many rose half out unhidden tells_bus tells_memory finishes =
      let ends : (status ≡ Memory) × WritesNothing old new = subst (λ a. Finishes a status old new) (tells_memory refl) finishes in
      memory (out refl).0 (out refl).1 (unhidden refl) ends.0 ends.1

-- ---- over no file

-- a run of the form
module _ (n : ℕ) (old new : Outside) (before after : Devices) (status : Status) where
  pub run-made : AsksFor old.files new.files [] → after.script ≡ before.script → EndsMade n (made_host n) (made_tree n).frames before after old.out new.out status → IsRun (Gen n) old new before after status
  run-made asks unread (made.unready fails) = unopened (unready (made_host n) (made_tree n).frames (refl, refl) asks unread fails)
  run-made asks unread (made.opened first asked turns opens is answered carried ends) =
      opened (made_host n) (made_tree n).frames first asked turns (refl, refl) asks opens is answered carried (unread, ends)
