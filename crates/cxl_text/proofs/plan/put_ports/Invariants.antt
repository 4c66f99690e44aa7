use Rattle.std.proofs.Common.{◌≡◌, ◌++◌, map}
use Rattle.std.specs.List.{range_with_len}
use Rattle.cxl_regs.specs.Reading.{entry_at}
use Rattle.cxl_reply.specs.Plans.{ports_text}
use Rattle.cxl_text.proofs.plan.put_ports.Given as goal

-- the lines so far are appended
abbrev pub invariant-loop-entry : goal.invariant-loop-entry
invariant-loop-entry l = l.out.items ≡ l.fn.out.items ++ ports_text (map (entry_at l.decoder) (range_with_len 0 l.entry))
