use Rattle.cxl_model.specs.Hosts.{as_system}
use Rattle.cxl_model.specs.Accepted.{breaks_block}
use Rattle.cxl_check.specs.inner.Found.{IsFoundAmong}
use Rattle.cxl_check.proofs.blocks.blocks_breach.Given as goal

abbrev pub invariant-loop-node : goal.invariant-loop-node
invariant-loop-node l = IsFoundAmong (breaks_block (as_system l.host)) l.node l.first
