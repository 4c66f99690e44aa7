use Rattle.std.proofs.Common.{rules}
use Rattle.cxl_regs.proofs.block.Block.broken_rule.Goals as goal

pub returns-then-breaks_rise : goal.returns-then-breaks_rise
returns-then-breaks_rise c = search rules

pub returns-then-not-codes_ok : goal.returns-then-not-codes_ok
returns-then-not-codes_ok c = search rules

pub returns-then-not-select_ok : goal.returns-then-not-select_ok
returns-then-not-select_ok c = search rules

pub returns : goal.returns
returns c = search rules
