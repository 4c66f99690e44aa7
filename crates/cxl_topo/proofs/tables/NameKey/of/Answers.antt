use Rattle.std.proofs.Common.{sym, ap, arith}
use Rattle.std.proofs.Math.Seq.{drop-length}
use Rattle.cxl_topo.specs.Keys.{name_number}
use Rattle.cxl_topo.proofs.NameKeys.{has_room}
use Rattle.cxl_topo.proofs.tables.NameKey.of.Goals as goal

pub overflow_mul-number : goal.overflow_mul-number
overflow_mul-number c = omega (arith, c.loop-left.invariant.number, has_room c.loop-left.left c.bytes-bytes.result.now c.bytes-bytes.ensures.name)

pub overflow_add-number : goal.overflow_add-number
overflow_add-number c =
    omega (arith, c.loop-left.invariant.number, has_room c.loop-left.left c.bytes-bytes.result.now c.bytes-bytes.ensures.name, c.from.ensures)

pub loop-left-init : goal.loop-left-init
loop-left-init c = record { within = omega arith; number = sym (ap name_number (drop-length c.bytes-bytes.result.now)) }
