use Rattle.std.proofs.Common.{◌≡◌, ◌+◌, ◌-◌, map}
use Rattle.std.specs.Prelude.{◌==◌}
use Rattle.std.specs.List.{list_any, range_with_len}
use Rattle.cxl_regs.specs.Reading.{decoder_ways, entry_at}
use Rattle.cxl_check.proofs.targets.stands_later.Given as goal

abbrev pub invariant-loop-j : goal.invariant-loop-j
invariant-loop-j l =
    list_any (λ port. port == entry_at l.d l.i) (map (entry_at l.d) (range_with_len (l.i + 1) (decoder_ways l.d - (l.i + 1))))
    ≡ list_any (λ port. port == entry_at l.d l.i) (map (entry_at l.d) (range_with_len l.j (decoder_ways l.d - l.j)))
