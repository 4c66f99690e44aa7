use Rattle.std.proofs.Common.{◌≡◌, length, filter}
use Rattle.std.specs.List.{range_with_len}
use Rattle.cxl_model.specs.Hosts.{as_system}
use Rattle.cxl_reason.specs.Reasons.{leads_there}
use Rattle.cxl_reason.proofs.counting.count_there.Given as goal

abbrev pub invariant-loop-node : goal.invariant-loop-node
invariant-loop-node l = l.count ≡ length (filter (leads_there (as_system l.host) l.kind l.w) (range_with_len 0 l.node))
