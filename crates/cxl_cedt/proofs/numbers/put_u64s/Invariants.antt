use Rattle.std.proofs.Common.{◌≡◌, ◌++◌, take}
use Rattle.cxl_cedt.specs.Spelling.{numbers_bytes}
use Rattle.cxl_cedt.proofs.numbers.put_u64s.Given as goal

-- the numbers so far are appended
abbrev pub invariant-loop-number : goal.invariant-loop-number
invariant-loop-number l = l.out.items ≡ l.fn.out.items ++ numbers_bytes 8 (take l.number-index l.numbers)
