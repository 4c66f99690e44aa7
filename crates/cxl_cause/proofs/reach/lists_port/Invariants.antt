use Rattle.std.proofs.Common.{◌≡◌, ◌-◌, map}
use Rattle.std.specs.Prelude.{◌==◌}
use Rattle.std.specs.List.{list_any, range_with_len}
use Rattle.cxl_regs.specs.Reading.{decoder_ways, entry_at, entries_of}
use Rattle.cxl_cause.proofs.reach.lists_port.Given as goal

abbrev pub invariant-loop-i : goal.invariant-loop-i
invariant-loop-i l =
    list_any (λ port. port == l.port) (entries_of l.d) ≡ list_any (λ port. port == l.port) (map (entry_at l.d) (range_with_len l.i (decoder_ways l.d - l.i)))
