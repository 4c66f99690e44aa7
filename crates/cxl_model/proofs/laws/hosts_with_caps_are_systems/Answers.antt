use Rattle.cxl_model.proofs.Hosting.{system, caps}
use Rattle.cxl_model.proofs.laws.hosts_with_caps_are_systems.Goals as goal

pub returns-clause-system : goal.returns-clause-system
returns-clause-system c = system

pub returns-clause-caps : goal.returns-clause-caps
returns-clause-caps c = caps
