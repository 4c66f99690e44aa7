use Rattle.std.proofs.Common.{rules}
use Rattle.cxl_model.specs.Hosts.{as_system}
use Rattle.cxl_model.specs.System.{ram_at, pmem_at}
use Rattle.cxl_model.proofs.RangeRules.{block_keeps}
use Rattle.cxl_reason.proofs.nodes.is_open.Goals as goal

pub last_end-requires : goal.last_end-requires
last_end-requires c =
    let s = as_system c.args.host.now in
    let n = c.args.node in
    (ram_at s n, pmem_at s n, block_keeps s c.requires.ready.blocks n c.block-block.result.now c.block-block.ensures.value)

pub returns-then-not-is_full : goal.returns-then-not-is_full
returns-then-not-is_full c = search rules

pub returns-else-not-is_full : goal.returns-else-not-is_full
returns-else-not-is_full c = search rules
