use Rattle.std.proofs.Common.{◌≡◌, take}
use Rattle.cxl_poison.specs.Pieces.{ArePartsInAll, unmapped_count}
use Rattle.cxl_poison.proofs.touching.pieces_in.Given as goal

-- the parts of the spans so far, and the bytes that lie in none of them
abbrev pub invariant-loop-span : goal.invariant-loop-span
invariant-loop-span l = record {
  parts : ArePartsInAll l.entry l.endpoint l.live l.windows (take l.span-index l.spans) l.parts.items;
  unmapped : l.unmapped ≡ unmapped_count l.entry (take l.span-index l.spans);
}
