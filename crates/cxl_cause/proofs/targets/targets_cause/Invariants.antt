use Rattle.std.proofs.Common.{◌≡◌, drop}
use Rattle.cxl_model.specs.Hosts.{as_system}
use Rattle.cxl_cause.specs.RangeCauses.{targets_cause}
use Rattle.cxl_cause.proofs.targets.targets_cause.Given as goal

abbrev pub invariant-loop-uid : goal.invariant-loop-uid
invariant-loop-uid l =
    targets_cause (as_system l.host) l.range l.w l.w.targets ≡ targets_cause (as_system l.host) l.range l.w (drop l.uid-index l.targets)
