use Rattle.std.proofs.Common.{List, refl}
use Rattle.cxl_image.specs.declared.fault.ImageFault.{ImageFault}
use Rattle.cxl_image.specs.declared.fault.ImageFault.TheVariants.{Memory}
use Rattle.cxl_inputs.specs.declared.status.Status.TheVariants.{BadImage}
use Rattle.cxl_regs.specs.Registers.{Registers}
use Rattle.cxl_shell.proofs.Behind.{image_behind}
use Rattle.cxl_shell.proofs.Lifted.{lifted, not_early}
use Rattle.cxl_commands.proofs.Readings.{HaveOneReading, one_table, one_topology, one_image, ReadsImage, FailsImage, AnsweredByHost, image_step, after_tree, known_tree}
use Rattle.cxl_commands.proofs.Runs.{came_to, image_fault_told}
use Rattle.cxl_commands.proofs.Steps.{absent_step, large_step, fault_step, none_step, unless_before, unless_absent}
use Rattle.cxl_shell.proofs.files.image_statuses.Goals as goal

have : (c : goal.After-one_image_reading) → HaveOneReading
have c = record {
  of_table = one_table c.one_reading.ensures.one_table c.one_reading.ensures.one_fault c.one_reading.ensures.not_both;
  of_tree = one_topology c.one_topology_reading.ensures.one_tree c.one_topology_reading.ensures.one_fault c.one_topology_reading.ensures.not_both;
  of_image = one_image c.one_image_reading.ensures.one_image c.one_image_reading.ensures.one_fault c.one_image_reading.ensures.not_both;
}

pub returns-clause-bad_image : goal.returns-clause-bad_image
returns-clause-bad_image c = lifted _ (λ form old new status run tree fault knows is.
    let told = image_fault_told old new form fault (came_to old new form status (BadImage fault) run is) in
    (told.file, told.asked, known_tree old new status form (have c) told.topo told.file told.tree tree fault told.asked_tree told.of_tree knows told.is))
    (λ form old new status behind tree fault knows is. absurd (not_early form old new status (BadImage fault) refl behind is))

pub returns-clause-only_bad_image : goal.returns-clause-only_bad_image
returns-clause-only_bad_image c = lifted _ (λ form old new status run table tree bytes fault knows knows_tree known faults.
    unless_before old new status (after_tree old new status (have c) form run table tree knows knows_tree) (λ step.
    fault_step old new status (List Registers) ImageFault (ReadsImage tree.nodes) (FailsImage tree.nodes) BadImage (old.files.told known.file) (AnsweredByHost old new status form table tree) ((have c).of_image tree.nodes) bytes known.there fault faults (image_step old new status form table tree known.file known.asked step)))
    (λ form old new status behind table tree bytes fault knows knows_tree known faults.
    fault_step old new status (List Registers) ImageFault (ReadsImage tree.nodes) (FailsImage tree.nodes) BadImage (old.files.told known.file) (λ blocks. Unit {0}) ((have c).of_image tree.nodes) bytes known.there fault faults (image_behind form old new status behind (have c) tree knows_tree known.file known.asked))

pub returns-clause-no_image : goal.returns-clause-no_image
returns-clause-no_image c = lifted _ (λ form old new status run table tree bytes knows knows_tree known within none.
    unless_before old new status (after_tree old new status (have c) form run table tree knows knows_tree) (λ step.
    none_step old new status (List Registers) ImageFault (ReadsImage tree.nodes) (FailsImage tree.nodes) BadImage (old.files.told known.file) (AnsweredByHost old new status form table tree) ((have c).of_image tree.nodes) bytes known.there within (λ blocks is. none (blocks, is.file)) (image_step old new status form table tree known.file known.asked step)))
    (λ form old new status behind table tree bytes knows knows_tree known within none.
    none_step old new status (List Registers) ImageFault (ReadsImage tree.nodes) (FailsImage tree.nodes) BadImage (old.files.told known.file) (λ blocks. Unit {0}) ((have c).of_image tree.nodes) bytes known.there within (λ blocks is. none (blocks, is.file)) (image_behind form old new status behind (have c) tree knows_tree known.file known.asked))

pub returns-clause-absent : goal.returns-clause-absent
returns-clause-absent c = lifted _ (λ form old new status run table tree file knows knows_tree asked absent.
    unless_absent old new status (after_tree old new status (have c) form run table tree knows knows_tree) (λ step.
    absent_step old new status (List Registers) ImageFault (ReadsImage tree.nodes) (FailsImage tree.nodes) BadImage (old.files.told file) (AnsweredByHost old new status form table tree) absent (image_step old new status form table tree file asked step)))
    (λ form old new status behind table tree file knows knows_tree asked absent.
    absent_step old new status (List Registers) ImageFault (ReadsImage tree.nodes) (FailsImage tree.nodes) BadImage (old.files.told file) (λ blocks. Unit {0}) absent (image_behind form old new status behind (have c) tree knows_tree file asked))

pub returns-clause-only_too_large : goal.returns-clause-only_too_large
returns-clause-only_too_large c = lifted _ (λ form old new status run table tree bytes knows knows_tree known many.
    unless_before old new status (after_tree old new status (have c) form run table tree knows knows_tree) (λ step.
    large_step old new status (List Registers) ImageFault (ReadsImage tree.nodes) (FailsImage tree.nodes) BadImage (old.files.told known.file) (AnsweredByHost old new status form table tree) ((have c).of_image tree.nodes) bytes known.there many (image_step old new status form table tree known.file known.asked step)))
    (λ form old new status behind table tree bytes knows knows_tree known many.
    large_step old new status (List Registers) ImageFault (ReadsImage tree.nodes) (FailsImage tree.nodes) BadImage (old.files.told known.file) (λ blocks. Unit {0}) ((have c).of_image tree.nodes) bytes known.there many (image_behind form old new status behind (have c) tree knows_tree known.file known.asked))

pub returns-clause-own_memory : goal.returns-clause-own_memory
returns-clause-own_memory c = lifted _ (λ form old new status run is.
    let told = image_fault_told old new form Memory (came_to old new form status (BadImage Memory) run is) in
    told.is.faulty.first)
    (λ form old new status behind is. not_early form old new status (BadImage Memory) refl behind is)
