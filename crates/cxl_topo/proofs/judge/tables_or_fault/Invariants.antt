use Rattle.std.proofs.Common.{◌+◌, ◌*◌, length, take}
use Rattle.cxl_topo.specs.Faults.{NoneBefore}
use Rattle.cxl_topo.specs.inner.AreTables.{AreTables}
use Rattle.cxl_topo.proofs.judge.tables_or_fault.Given as goal

abbrev pub invariant-loop-i : goal.invariant-loop-i
invariant-loop-i l = record {
  none : NoneBefore l.nodes (8 * l.i + 1);
  listed : AreTables (length l.nodes) (take l.i l.nodes) l.tables;
}
