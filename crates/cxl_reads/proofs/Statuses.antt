-- Status 6 comes where the sink failed, and from no file.
use Rattle.std.proofs.Common.{◌≡◌, ℕ, List, [], ◌∷◌, inl, inr, sym, ap, ◌∙◌, arith}
use Rattle.cxl_check.specs.declared.fault.Breach.{Breach}
use Rattle.cxl_enc.specs.Faults.{Rose}
use Rattle.cxl_inputs.specs.Ends.{Ends}
use Rattle.cxl_inputs.specs.Exit.{exit_code}
use Rattle.cxl_inputs.specs.Given.{SpellNoTable, StandForNoTree, HoldNoImage}
use Rattle.cxl_inputs.specs.Outcome.{Outcome}
use Rattle.cxl_inputs.specs.declared.status.Status.{Status}
use Rattle.cxl_inputs.specs.declared.status.Status.TheVariants.{WriteFault}
use Rattle.cxl_io.specs.Sink.{SinkState}
use Rattle.cxl_topo.specs.declared.node.Node.{Node}
use Rattle.cxl_reads.specs.Answers.{IsAnswered, table_name, topology_name, image_name}
use Rattle.cxl_reads.specs.Breaches.{AreBreaches, verdict}
use Rattle.cxl_reads.specs.Breaches as places
use Rattle.cxl_reads.specs.Decoders.{AreDecoders, no_tree, no_image, blocks}
use Rattle.cxl_reads.specs.Tree.{IsTreeTold}
use Rattle.cxl_reads.specs.Tree as trees
use Rattle.cxl_reads.specs.Windows.{AreWindows}
use Rattle.cxl_reads.specs.Windows as seen

-- no outcome of this kind has the status of a sink that failed
abbrev pub AreNoWriteFaults : (Outcome → Type 0) → Type 0
AreNoWriteFaults IsOutcome = (outcome : Outcome) → IsOutcome outcome → outcome.status ≡ WriteFault → ⊥

ends_rose : (outcome : Outcome) (status : Status) (old new : SinkState) → (outcome.status ≡ WriteFault → ⊥) → Ends outcome status old new → status ≡ WriteFault
    → Rose old.faults new.faults
ends_rose outcome status old new other (inl whole) is = absurd (other (sym whole.status_is ∙ is))
ends_rose outcome status old new other (inr short) is = short.rose

pub write_fault_rose : (IsOutcome : Outcome → Type 0) → AreNoWriteFaults IsOutcome → (status : Status) (old new : SinkState) → IsAnswered IsOutcome status old new
    → status ≡ WriteFault → Rose old.faults new.faults
write_fault_rose IsOutcome others status old new (inl told) is =
    ends_rose told.outcome status old new (others told.outcome told.is) told.ends is
write_fault_rose IsOutcome others status old new (inr out) is =
    absurd (let same : 9 ≡ 6 = ap exit_code (sym out.status_is ∙ is) in omega (arith, same))

-- an outcome with another exit status
other_code : (outcome told : Outcome) → outcome ≡ told → (exit_code told.status ≡ 6 → ⊥) → outcome.status ≡ WriteFault → ⊥
other_code outcome told e other is = other (sym (ap (λ (o : Outcome). exit_code o.status) e) ∙ ap exit_code is)

no_table_faults : (file bytes : List ℕ) → AreNoWriteFaults (SpellNoTable file bytes)
no_table_faults file bytes outcome (inl many) = other_code outcome _ many.told (λ (e : 12 ≡ 6). omega (arith, e))
no_table_faults file bytes outcome (inr (fault, found, told)) = other_code outcome _ told (λ (e : 3 ≡ 6). omega (arith, e))

no_tree_faults : (file bytes : List ℕ) → AreNoWriteFaults (StandForNoTree file bytes)
no_tree_faults file bytes outcome (inl many) = other_code outcome _ many.told (λ (e : 12 ≡ 6). omega (arith, e))
no_tree_faults file bytes outcome (inr (fault, found, told)) = other_code outcome _ told (λ (e : 4 ≡ 6). omega (arith, e))

no_image_faults : (file bytes : List ℕ) (nodes : List Node) → AreNoWriteFaults (HoldNoImage file bytes nodes)
no_image_faults file bytes nodes outcome (inl many) = other_code outcome _ many.told (λ (e : 12 ≡ 6). omega (arith, e))
no_image_faults file bytes nodes outcome (inr (fault, found, told)) = other_code outcome _ told (λ (e : 10 ≡ 6). omega (arith, e))

pub tree_faults : (topo : List ℕ) → AreNoWriteFaults (IsTreeTold topo)
tree_faults topo outcome (trees.no_tree none) = no_tree_faults topology_name topo outcome none
tree_faults topo outcome (trees.nodes tree read told) = other_code outcome _ told (λ (e : 0 ≡ 6). omega (arith, e))

pub decoders_faults : (topo image : List ℕ) → AreNoWriteFaults (AreDecoders topo image)
decoders_faults topo image outcome (no_tree none) = no_tree_faults topology_name topo outcome none
decoders_faults topo image outcome (no_image tree read none) = no_image_faults image_name image tree.nodes outcome none
decoders_faults topo image outcome (blocks tree image_blocks of_tree of_image told) = other_code outcome _ told (λ (e : 0 ≡ 6). omega (arith, e))

verdict_code : (breaches : List Breach) → exit_code (verdict breaches) ≡ 6 → ⊥
verdict_code [] e = let same : 0 ≡ 6 = e in omega (arith, same)
verdict_code (b ∷ others) e = let same : 8 ≡ 6 = e in omega (arith, same)

pub breaches_faults : (cedt topo image : List ℕ) → AreNoWriteFaults (AreBreaches cedt topo image)
breaches_faults cedt topo image outcome (places.no_table none) = no_table_faults table_name cedt outcome none
breaches_faults cedt topo image outcome (places.no_tree table read none) = no_tree_faults topology_name topo outcome none
breaches_faults cedt topo image outcome (places.no_image table tree of_table of_tree none) = no_image_faults image_name image tree.nodes outcome none
breaches_faults cedt topo image outcome (places.places table tree image_blocks given tells) =
    other_code outcome _ tells.told (verdict_code tells.breaches)

pub windows_faults : (cedt topo : List ℕ) → AreNoWriteFaults (AreWindows cedt topo)
windows_faults cedt topo outcome (seen.no_table none) = no_table_faults table_name cedt outcome none
windows_faults cedt topo outcome (seen.no_tree table read none) = no_tree_faults topology_name topo outcome none
windows_faults cedt topo outcome (seen.windows table tree of_table of_tree told) = other_code outcome _ told (λ (e : 0 ≡ 6). omega (arith, e))
