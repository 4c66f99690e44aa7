use Rattle.std.proofs.Common.{◌≡◌, ℕ, ◌<◌, false}
use Rattle.cxl_model.specs.Hosts.{as_system}
use Rattle.cxl_model.specs.Accepted.{breaks_caps}
use Rattle.cxl_check.proofs.caps.caps_breach.Given as goal

abbrev pub invariant-loop-node : goal.invariant-loop-node
invariant-loop-node l = (n i : ℕ) → n < l.node → breaks_caps (as_system l.host) n i ≡ false
