use Rattle.std.proofs.Common.{◌≡◌, ◌++◌, take}
use Rattle.std.specs.List.{flat_map}
use Rattle.cxl_reply.specs.Texts.{part_text}
use Rattle.cxl_text.proofs.poison.put_parts.Given as goal

-- the lines so far are appended
abbrev pub invariant-loop-part : goal.invariant-loop-part
invariant-loop-part l = l.out.items ≡ l.fn.out.items ++ flat_map (part_text l.names) (take l.part-index l.parts)
