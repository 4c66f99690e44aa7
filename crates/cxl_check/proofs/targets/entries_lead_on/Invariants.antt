use Rattle.std.proofs.Common.{◌≡◌, ◌-◌, map}
use Rattle.std.specs.List.{list_all, range_with_len}
use Rattle.cxl_regs.specs.Reading.{decoder_ways, entry_at, entries_of}
use Rattle.cxl_model.specs.Hosts.{as_system}
use Rattle.cxl_model.specs.Rules.{leads_on}
use Rattle.cxl_check.proofs.targets.entries_lead_on.Given as goal

abbrev pub invariant-loop-i : goal.invariant-loop-i
invariant-loop-i l =
    list_all (leads_on (as_system l.host) l.range l.node) (entries_of l.d)
    ≡ list_all (leads_on (as_system l.host) l.range l.node) (map (entry_at l.d) (range_with_len l.i (decoder_ways l.d - l.i)))
