-- What a run of `check` comes to.
use Rattle.std.proofs.Common.{◌≡◌, ℕ, ◌⊎◌, List, refl, ap, subst, ◌∙◌, inl, inr}
use Rattle.cxl_table.specs.CedtFields.{CedtFields}
use Rattle.cxl_inputs.specs.Ends.{IsWritten}
use Rattle.cxl_inputs.specs.Host.{host_of, AreRead, no_host, by_host}
use Rattle.cxl_inputs.specs.Outcome.{Outcome, whole_text}
use Rattle.cxl_inputs.specs.declared.status.Status.{Status}
use Rattle.cxl_inputs.specs.declared.status.Status.TheVariants.{Done, Refused}
use Rattle.cxl_io.specs.Sink.{Takes}
use Rattle.cxl_model.specs.Accepted.{IsAccepted, HasFirstBreach}
use Rattle.cxl_model.specs.System.{System}
use Rattle.cxl_regs.specs.Registers.{Registers}
use Rattle.cxl_topo.specs.Tree.{Tree}
use Rattle.cxl_commands.specs.Answers.{IsOutcomeByFiles}
use Rattle.cxl_commands.specs.Stopped.{IsBehind, IsStopped}
use Rattle.cxl_commands.specs.Form.{Check}
use Rattle.cxl_commands.specs.Outside.{Outside}
use Rattle.cxl_commands.specs.RunByFiles.{RunsOut, before, behind}
use Rattle.cxl_commands.specs.commands.Check.{IsChecked, regions_told, breach_told, IsRegionsText, IsBreachText, TakesRegions}
use Rattle.cxl_commands.specs.declared.form.HostAsk.TheVariants as asks
use Rattle.cxl_commands.proofs.Pieces.{one_text, nothing_taken, nothing_of, no_host_is_one}
use Rattle.cxl_commands.proofs.Runs.{Came, host_done, host_refused}

module _ (old new : Outside) where
  regions_written : (cedt topo image : List ℕ) (table : CedtFields) (tree : Tree) (blocks : List Registers) (outcome : Outcome) → AreRead old.files.told cedt topo image table tree blocks → IsChecked (host_of table tree blocks) outcome → IsWritten outcome Done old.out new.out → (text : List ℕ) × IsRegionsText old.files.told cedt topo image text × Takes old.out new.out text
  regions_written cedt topo image table tree blocks outcome of (regions_told regions sound is listed e) written =
      (whole_text outcome, record { nodes = tree.nodes; regions = regions; found = record { table = table; tree = tree; blocks = blocks; read = of; over = refl; system = sound; accepted = is; listed = listed }; lines = ap whole_text e }, written.taken)
  regions_written cedt topo image table tree blocks outcome of (breach_told rule node decoder first e) written =
      let own = ap (λ o. o.status) e in let done = written.status_is in absurd (cc)

  breach_written : (cedt topo image : List ℕ) (table : CedtFields) (tree : Tree) (blocks : List Registers) (outcome : Outcome) → AreRead old.files.told cedt topo image table tree blocks → IsChecked (host_of table tree blocks) outcome → IsWritten outcome Refused old.out new.out → (text : List ℕ) × IsBreachText old.files.told cedt topo image text × Takes old.out new.out text
  breach_written cedt topo image table tree blocks outcome of (regions_told regions sound is listed e) written =
      let own = ap (λ o. o.status) e in let refused = written.status_is in absurd (cc)
  breach_written cedt topo image table tree blocks outcome of (breach_told rule node decoder first e) written =
      (_, record { table = table; tree = tree; blocks = blocks; rule = rule; node = node; decoder = decoder; read = of; first = first; names = refl }, subst (Takes old.out new.out) (one_text outcome Refused _ e) written.taken)

  pub check_accepted : (cedt topo image : List ℕ) → Came old new (Check cedt topo image) Done → (text : List ℕ) × IsRegionsText old.files.told cedt topo image text × Takes old.out new.out text
  check_accepted cedt topo image came =
      let at = host_done old new cedt topo image asks.Check came in
      regions_written cedt topo image at.table at.tree at.blocks at.outcome at.of at.answer at.written

  pub check_broken : (cedt topo image : List ℕ) → Came old new (Check cedt topo image) Refused → (text : List ℕ) × IsBreachText old.files.told cedt topo image text × Takes old.out new.out text
  check_broken cedt topo image came =
      let at = host_refused old new cedt topo image asks.Check came in
      breach_written cedt topo image at.table at.tree at.blocks at.outcome at.of at.answer at.written

  regions_of_check : (cedt topo image : List ℕ) (table : CedtFields) (tree : Tree) (blocks : List Registers) (outcome : Outcome) → AreRead old.files.told cedt topo image table tree blocks → IsChecked (host_of table tree blocks) outcome → IsBehind outcome old.out new.out → (new.out.taken ≡ old.out.taken) ⊎ TakesRegions old.files.told cedt topo image old.out new.out
  regions_of_check cedt topo image table tree blocks outcome of (regions_told regions sound is listed e) lines =
      let at = subst (λ o. IsBehind o old.out new.out) e lines in
      inr (record { nodes = tree.nodes; regions = regions; found = record { table = table; tree = tree; blocks = blocks; read = of; over = refl; system = sound; accepted = is; listed = listed }; count = at.count; taken = at.taken })
  regions_of_check cedt topo image table tree blocks outcome of (breach_told rule node decoder first e) lines = inl (nothing_of old.out new.out outcome (record { status = _; text = _; is = e }) lines)

  regions_of_host : (cedt topo image : List ℕ) (outcome : Outcome) → IsOutcomeByFiles (Check cedt topo image) old.files new.files outcome → IsBehind outcome old.out new.out → (new.out.taken ≡ old.out.taken) ⊎ TakesRegions old.files.told cedt topo image old.out new.out
  regions_of_host cedt topo image outcome (no_host none) lines = inl (nothing_of old.out new.out outcome (no_host_is_one old.files new.files cedt topo image outcome none) lines)
  regions_of_host cedt topo image outcome (by_host table tree blocks of answer) lines = regions_of_check cedt topo image table tree blocks outcome of answer.1 lines

  pub memory_in_check : (cedt topo image : List ℕ) → RunsOut (Check cedt topo image) old new → (new.out.taken ≡ old.out.taken) ⊎ TakesRegions old.files.told cedt topo image old.out new.out
  memory_in_check cedt topo image (before out none) = inl (nothing_taken old.out new.out none.taken)
  memory_in_check cedt topo image (behind outcome answers unfailed lines) = regions_of_host cedt topo image outcome answers lines

-- an accepted image's outcome, and that of one with a breach
module _ (not_both : (s : System) → IsAccepted s → HasFirstBreach s → ⊥) (s : System) (outcome : Outcome) where
  accepted_done : IsAccepted s → IsChecked s outcome → outcome.status ≡ Done
  accepted_done is (regions_told regions sound again listed e) = ap (λ o. o.status) e
  accepted_done is (breach_told rule node decoder first e) = absurd (not_both s is (rule, node, decoder, first))

  broken_refused : HasFirstBreach s → IsChecked s outcome → outcome.status ≡ Refused
  broken_refused breach (regions_told regions sound is listed e) = absurd (not_both s is breach)
  broken_refused breach (breach_told rule node decoder first e) = ap (λ o. o.status) e

module _ (not_both : (s : System) → IsAccepted s → HasFirstBreach s → ⊥) (old new : Outside) (status : Status) (s : System) where
  pub accepted_comes : IsAccepted s → ((o : Outcome) × IsChecked s o × IsWritten o status old.out new.out) ⊎ IsStopped status old new → (status ≡ Done) ⊎ IsStopped status old new
  accepted_comes is (inl some) = let written = some.2 in inl (written.status_is ∙ accepted_done not_both s some.0 is some.1)
  accepted_comes is (inr stopped) = inr stopped

  pub broken_comes : HasFirstBreach s → ((o : Outcome) × IsChecked s o × IsWritten o status old.out new.out) ⊎ IsStopped status old new → (status ≡ Refused) ⊎ IsStopped status old new
  broken_comes breach (inl some) = let written = some.2 in inl (written.status_is ∙ broken_refused not_both s some.0 breach some.1)
  broken_comes breach (inr stopped) = inr stopped
