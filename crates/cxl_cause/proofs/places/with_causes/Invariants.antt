use Rattle.cxl_model.specs.Hosts.{as_system}
use Rattle.cxl_cause.proofs.BrokenPlaces.{AreTold}
use Rattle.cxl_cause.proofs.places.with_causes.Given as goal

abbrev pub invariant-loop-breach : goal.invariant-loop-breach
invariant-loop-breach l = AreTold (as_system l.host) l.found l.breach-index l.causes.items
