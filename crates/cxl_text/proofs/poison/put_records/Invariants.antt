use Rattle.std.proofs.Common.{◌≡◌, ◌++◌, take}
use Rattle.std.specs.List.{flat_map, zip}
use Rattle.cxl_reply.specs.Texts.{record_text}
use Rattle.cxl_text.proofs.poison.put_records.Given as goal

-- the lines so far are appended
abbrev pub invariant-loop-i : goal.invariant-loop-i
invariant-loop-i l = l.out.items ≡ l.fn.out.items ++ flat_map (record_text l.names) (zip (take l.i l.records) (take l.i l.pieces))
