use Rattle.std.proofs.Common.{◌≡◌, ◌++◌, take}
use Rattle.cxl_reply.specs.Plans.{more_ports_text}
use Rattle.cxl_text.proofs.targets.put_more_targets.Given as goal

-- the targets so far are appended
abbrev pub invariant-loop-uid : goal.invariant-loop-uid
invariant-loop-uid l = l.out.items ≡ l.fn.out.items ++ more_ports_text (take l.uid-index l.uids)
