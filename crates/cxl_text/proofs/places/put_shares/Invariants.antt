use Rattle.std.proofs.Common.{◌≡◌, ◌++◌, take}
use Rattle.std.specs.List.{flat_map, enumerate_from, zip}
use Rattle.cxl_reply.specs.Texts.{share_text}
use Rattle.cxl_text.proofs.places.put_shares.Given as goal

-- the lines so far are appended
abbrev pub invariant-loop-slot : goal.invariant-loop-slot
invariant-loop-slot l = l.out.items ≡ l.fn.out.items ++ flat_map (share_text l.topo.nodes) (enumerate_from 0 (zip (take l.slot l.endpoints) (take l.slot l.bytes)))
