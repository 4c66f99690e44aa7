use Rattle.std.proofs.lemmas.Result.{IfOk-from_err}
use Rattle.cxl_reads.proofs.of_topologies.put_block.Goals as goal

pub returns-in_err-put_bits : goal.returns-in_err-put_bits
returns-in_err-put_bits c = IfOk-from_err c.from_residual-in_err-put_bits.result _ c.from_residual-in_err-put_bits.ensures.0

pub returns-in_err-put_counts : goal.returns-in_err-put_counts
returns-in_err-put_counts c = IfOk-from_err c.from_residual.result _ c.from_residual.ensures.0
