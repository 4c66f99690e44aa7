use Rattle.std.proofs.Common.{◌+◌, ◌*◌, arith}
use Rattle.cxl_script.proofs.HexBytes.{digit_at, byte_step, byte_done}
use Rattle.cxl_script.proofs.digits.write_bytes.Goals as goal

pub pair_value-requires-clause-high : goal.pair_value-requires-clause-high
pair_value-requires-clause-high c = digit_at c.args.digits.now (2 * c.loop-i.i) c.requires.digits (omega arith)

pub pair_value-requires-clause-low : goal.pair_value-requires-clause-low
pair_value-requires-clause-low c = digit_at c.args.digits.now (2 * c.loop-i.i + 1) c.requires.digits (omega arith)

pub loop-i-preserved : goal.loop-i-preserved
loop-i-preserved c =
    byte_step c.args.digits.now c.loop-i.bytes c.loop-i.i _ (omega arith) (omega arith) c.pair_value.ensures c.loop-i.invariant

pub returns : goal.returns
returns c =
    byte_done c.args.digits.now c.loop-i.bytes c.loop-i.i (omega arith) (omega arith) c.loop-i.invariant
