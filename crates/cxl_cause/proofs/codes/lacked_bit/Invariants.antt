use Rattle.std.proofs.Common.{◌≡◌, ◌+◌, ◌-◌, not}
use Rattle.std.specs.Prelude.{find}
use Rattle.std.specs.List.{range_with_len}
use Rattle.cxl_regs.specs.Reading.{select_bits}
use Rattle.cxl_regs.specs.Rules.{selects}
use Rattle.cxl_cause.specs.BlockCauses.{lacked_bit}
use Rattle.cxl_cause.proofs.codes.lacked_bit.Given as goal

abbrev pub invariant-loop-k : goal.invariant-loop-k
invariant-loop-k l = lacked_bit l.cap l.d ≡ find (λ bit. not (selects l.cap bit)) (range_with_len (l.d.gran + 8 + l.k) (select_bits l.d.ways - l.k))
