use Rattle.cxl_model.proofs.Breaches.{accepted_or_breach}
use Rattle.cxl_model.proofs.laws.accepted_or_breach.Goals as goal

pub returns-clause-either : goal.returns-clause-either
returns-clause-either c = accepted_or_breach
