use Rattle.std.proofs.Common.{◌≡◌, length, drop}
use Rattle.cxl_cedt.specs.inner.Mending.{mended, FitIn}
use Rattle.cxl_cedt.proofs.mending.mend_records.Given as goal

-- what is left to mend gives what all gives from the start
abbrev pub invariant-loop-i : goal.invariant-loop-i
invariant-loop-i l = record {
  left : mended l.bytes (drop l.i l.places) (drop l.i l.records) ≡ mended l.fn.bytes l.places l.records;
  fit : FitIn (length l.bytes) (drop l.i l.places) (drop l.i l.records);
  size : length l.bytes ≡ length l.fn.bytes;
}
