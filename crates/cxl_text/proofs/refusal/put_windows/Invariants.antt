use Rattle.std.proofs.Common.{◌≡◌, ◌++◌, take}
use Rattle.std.specs.List.{flat_map, enumerate_from}
use Rattle.cxl_reply.specs.Refusals.{window_text}
use Rattle.cxl_text.proofs.refusal.put_windows.Given as goal

-- the lines so far are appended
abbrev pub invariant-loop-index : goal.invariant-loop-index
invariant-loop-index l = l.out.items ≡ l.fn.out.items ++ flat_map (window_text l.topo.nodes) (enumerate_from 0 (take l.index l.reasons))
