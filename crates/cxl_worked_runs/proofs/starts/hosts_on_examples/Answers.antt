use Rattle.std.proofs.Common.{◌≡◌, length, refl, ap, arith}
use Rattle.cxl_model.specs.System.{System}
use Rattle.cxl_worked_runs.proofs.starts.hosts_on_examples.Goals as goal

pub returns-clause-after_reset : goal.returns-clause-after_reset
returns-clause-after_reset c told cedt topo table tree read = (table, tree, read, refl, refl)

pub returns-clause-from_image : goal.returns-clause-from_image
returns-clause-from_image c told cedt topo image table tree blocks read = (table, tree, blocks, read, refl, refl)

pub returns-clause-generated : goal.returns-clause-generated
returns-clause-generated c told = (refl, refl)

pub returns-clause-not_other_frames : goal.returns-clause-not_other_frames
returns-clause-not_other_frames c told start = let wrong : 65535 ≡ 65536 = start.1 in omega (arith, wrong)

pub returns-clause-not_other_number : goal.returns-clause-not_other_number
returns-clause-not_other_number c told start =
    let wrong : 12 ≡ 6 = ap (λ (s : System). length s.nodes) start.0 in
    omega (arith, wrong)

pub returns-clause-not_absent : goal.returns-clause-not_absent
returns-clause-not_absent c cedt topo s frames start = start.2.of_table.told_so

pub returns-clause-not_absent_image : goal.returns-clause-not_absent_image
returns-clause-not_absent_image c cedt topo image s frames start = start.3.of_table.told_so

pub returns-clause-not_check : goal.returns-clause-not_check
returns-clause-not_check c told cedt topo image s frames start = start

pub returns-clause-not_help : goal.returns-clause-not_help
returns-clause-not_help c told s frames start = start
