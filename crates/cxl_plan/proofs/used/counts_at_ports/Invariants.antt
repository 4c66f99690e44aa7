use Rattle.std.proofs.Common.{◌≡◌, ℕ, ◌<◌, take, get_or}
use Rattle.cxl_plan.specs.inner.AtPorts.{entered_at}
use Rattle.cxl_plan.proofs.used.counts_at_ports.Given as goal

abbrev pub invariant-loop-place : goal.invariant-loop-place
invariant-loop-place l = (port : ℕ) → port < 256 → get_or l.at port 0 ≡ entered_at l.topo.nodes l.request (take l.place l.uses.nodes.items) l.node port
