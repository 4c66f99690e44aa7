use Rattle.cxl_machine.specs.Machine.{Machine}
use Rattle.cxl_session.specs.Standing.{StandsFor}
use Rattle.cxl_machine.specs.Sound.{IsMachine}
use Rattle.cxl_session.proofs.Ups.{NoneBefore}
use Rattle.cxl_session.proofs.session.Session.told_host.Given as goal

abbrev pub invariant-loop-i : goal.invariant-loop-i
invariant-loop-i l = (m : Machine) → StandsFor l.self m → IsMachine m → NoneBefore m l.block.decoders l.endpoint l.dpa l.i
