use Rattle.std.proofs.Common.{refl}
use Rattle.cxl_table.specs.CedtFields.{CedtFields}
use Rattle.cxl_cedt.specs.declared.fault.CedtFault.{CedtFault}
use Rattle.cxl_inputs.specs.Table.{IsReading, IsFaulty}
use Rattle.cxl_inputs.specs.Topology.{IsTreeReading, IsFaultyTree}
use Rattle.cxl_inputs.specs.declared.status.Status.TheVariants.{BadTopo}
use Rattle.cxl_topo.specs.Tree.{Tree}
use Rattle.cxl_topofile.specs.declared.fault.TopoFault.{TopoFault}
use Rattle.cxl_topofile.specs.declared.fault.TopoFault.TheVariants.{Memory}
use Rattle.cxl_shell.proofs.Behind.{tree_behind}
use Rattle.cxl_shell.proofs.Lifted.{lifted, not_early}
use Rattle.cxl_commands.proofs.Readings.{one_table, one_topology, AfterTree, tree_step, after_table}
use Rattle.cxl_commands.proofs.Runs.{came_to, tree_fault_told}
use Rattle.cxl_commands.proofs.Steps.{HasOneReading, absent_step, large_step, fault_step, none_step, unless_before, unless_absent}
use Rattle.cxl_shell.proofs.files.topology_statuses.Goals as goal

tables : (c : goal.After-one_topology_reading) → HasOneReading CedtFields CedtFault IsReading IsFaulty
tables c = one_table c.one_reading.ensures.one_table c.one_reading.ensures.one_fault c.one_reading.ensures.not_both

topologies : (c : goal.After-one_topology_reading) → HasOneReading Tree TopoFault IsTreeReading IsFaultyTree
topologies c = one_topology c.one_topology_reading.ensures.one_tree c.one_topology_reading.ensures.one_fault c.one_topology_reading.ensures.not_both

pub returns-clause-bad_topology : goal.returns-clause-bad_topology
returns-clause-bad_topology c = lifted _ (λ form old new status run fault is. tree_fault_told old new form fault (came_to old new form status (BadTopo fault) run is))
    (λ form old new status behind fault is. absurd (not_early form old new status (BadTopo fault) refl behind is))

pub returns-clause-only_bad_topology : goal.returns-clause-only_bad_topology
returns-clause-only_bad_topology c = lifted _ (λ form old new status run table bytes fault knows known faults.
    unless_before old new status (after_table old new status (tables c) form run table knows) (λ step.
    fault_step old new status Tree TopoFault IsTreeReading IsFaultyTree BadTopo (old.files.told known.file) (AfterTree old new status form table) (topologies c) bytes known.there fault faults (tree_step old new status form table known.file known.asked step)))
    (λ form old new status behind table bytes fault knows known faults.
    fault_step old new status Tree TopoFault IsTreeReading IsFaultyTree BadTopo (old.files.told known.file) (λ tree. Unit {0}) (topologies c) bytes known.there fault faults (tree_behind form old new status behind known.file known.asked))

pub returns-clause-no_topology : goal.returns-clause-no_topology
returns-clause-no_topology c = lifted _ (λ form old new status run table bytes knows known within none.
    unless_before old new status (after_table old new status (tables c) form run table knows) (λ step.
    none_step old new status Tree TopoFault IsTreeReading IsFaultyTree BadTopo (old.files.told known.file) (AfterTree old new status form table) (topologies c) bytes known.there within (λ tree is. none (tree, is.stands)) (tree_step old new status form table known.file known.asked step)))
    (λ form old new status behind table bytes knows known within none.
    none_step old new status Tree TopoFault IsTreeReading IsFaultyTree BadTopo (old.files.told known.file) (λ tree. Unit {0}) (topologies c) bytes known.there within (λ tree is. none (tree, is.stands)) (tree_behind form old new status behind known.file known.asked))

pub returns-clause-not_both : goal.returns-clause-not_both
returns-clause-not_both c = λ bytes fault faults tree. c.one_topology_reading.ensures.not_both bytes tree.0 fault faults.real tree.1 faults.first

pub returns-clause-absent : goal.returns-clause-absent
returns-clause-absent c = lifted _ (λ form old new status run table file knows asked absent.
    unless_absent old new status (after_table old new status (tables c) form run table knows) (λ step.
    absent_step old new status Tree TopoFault IsTreeReading IsFaultyTree BadTopo (old.files.told file) (AfterTree old new status form table) absent (tree_step old new status form table file asked step)))
    (λ form old new status behind table file knows asked absent.
    absent_step old new status Tree TopoFault IsTreeReading IsFaultyTree BadTopo (old.files.told file) (λ tree. Unit {0}) absent (tree_behind form old new status behind file asked))

pub returns-clause-only_too_large : goal.returns-clause-only_too_large
returns-clause-only_too_large c = lifted _ (λ form old new status run table bytes knows known many.
    unless_before old new status (after_table old new status (tables c) form run table knows) (λ step.
    large_step old new status Tree TopoFault IsTreeReading IsFaultyTree BadTopo (old.files.told known.file) (AfterTree old new status form table) (topologies c) bytes known.there many (tree_step old new status form table known.file known.asked step)))
    (λ form old new status behind table bytes knows known many.
    large_step old new status Tree TopoFault IsTreeReading IsFaultyTree BadTopo (old.files.told known.file) (λ tree. Unit {0}) (topologies c) bytes known.there many (tree_behind form old new status behind known.file known.asked))

pub returns-clause-own_memory : goal.returns-clause-own_memory
returns-clause-own_memory c = lifted _ (λ form old new status run is.
    let told = tree_fault_told old new form Memory (came_to old new form status (BadTopo Memory) run is) in
    told.2.faulty.real refl)
    (λ form old new status behind is. not_early form old new status (BadTopo Memory) refl behind is)
