use Rattle.std.proofs.Common.{◌≡◌, ◌≤◌, ◌++◌, take, drop}
use Rattle.std.specs.Prelude.{codes}
use Rattle.std.specs.List.{flat_map, enumerate_from}
use Rattle.cxl_reply.specs.Words.{hex_text}
use Rattle.cxl_reply.specs.Texts.{slot_text}
use Rattle.cxl_text.proofs.slots.put_slots.Given as goal

-- the lines so far are appended, and the start of the last slot's span stands in the room
abbrev pub invariant-loop-slot : goal.invariant-loop-slot
invariant-loop-slot l = record {
  lines : l.out.items ≡ l.fn.out.items ++ flat_map (slot_text l.topo.nodes) (enumerate_from 0 (take l.slot l.places));
  at : 41 ≤ l.tail;
  within : l.tail ≤ 61;
  text : drop l.tail l.text ≡ codes " " ++ hex_text l.start ++ codes "\n";
}
