use Rattle.std.proofs.Common.{subst}
use Rattle.cxl_inputs.specs.Host.{host_of}
use Rattle.cxl_inputs.specs.declared.status.Status.TheVariants.{Done, Refused, Memory}
use Rattle.cxl_commands.specs.Form.{Check}
use Rattle.cxl_commands.specs.Readings.{ByHost, AreKnown}
use Rattle.cxl_commands.specs.RunByFiles.{IsRunByFiles}
use Rattle.cxl_commands.proofs.laws.Check.{check_accepted, check_broken, accepted_comes, broken_comes, memory_in_check}
use Rattle.cxl_commands.proofs.Readings.{HaveOneReading, one_table, one_topology, one_image, answer_comes}
use Rattle.cxl_commands.proofs.Runs.{came_to, memory_left}
use Rattle.cxl_commands.proofs.commands.check.check_statuses.Goals as goal

have : (c : goal.After-accepted_or_breach) → HaveOneReading
have c = record {
  of_table = one_table c.one_reading.ensures.one_table c.one_reading.ensures.one_fault c.one_reading.ensures.not_both;
  of_tree = one_topology c.one_topology_reading.ensures.one_tree c.one_topology_reading.ensures.one_fault c.one_topology_reading.ensures.not_both;
  of_image = one_image c.one_image_reading.ensures.one_image c.one_image_reading.ensures.one_fault c.one_image_reading.ensures.not_both;
}

pub returns-clause-accepted : goal.returns-clause-accepted
returns-clause-accepted c = λ form old new status run cedt topo image is done.
    check_accepted old new cedt topo image (came_to old new (Check cedt topo image) status Done (subst (λ f. IsRunByFiles f old new status) is run) done)

pub returns-clause-broken : goal.returns-clause-broken
returns-clause-broken c = λ form old new status run cedt topo image is refused.
    check_broken old new cedt topo image (came_to old new (Check cedt topo image) status Refused (subst (λ f. IsRunByFiles f old new status) is run) refused)

pub returns-clause-only_accepted : goal.returns-clause-only_accepted
returns-clause-only_accepted c = λ form old new status run cedt topo image table tree blocks is known accepted.
    accepted_comes c.accepted_or_breach.ensures.not_both old new status (host_of table tree blocks) accepted
    (answer_comes old new status (have c) (Check cedt topo image) (subst (λ f. IsRunByFiles f old new status) is run) (ByHost table tree blocks) (subst (λ f. AreKnown f old.files.told (ByHost table tree blocks)) is known))

pub returns-clause-only_broken : goal.returns-clause-only_broken
returns-clause-only_broken c = λ form old new status run cedt topo image table tree blocks is known breach.
    broken_comes c.accepted_or_breach.ensures.not_both old new status (host_of table tree blocks) breach
    (answer_comes old new status (have c) (Check cedt topo image) (subst (λ f. IsRunByFiles f old new status) is run) (ByHost table tree blocks) (subst (λ f. AreKnown f old.files.told (ByHost table tree blocks)) is known))

pub returns-clause-memory : goal.returns-clause-memory
returns-clause-memory c = λ form old new status run cedt topo image is out.
    memory_in_check old new cedt topo image (memory_left old new (Check cedt topo image) (came_to old new (Check cedt topo image) status Memory (subst (λ f. IsRunByFiles f old new status) is run) out)).1
