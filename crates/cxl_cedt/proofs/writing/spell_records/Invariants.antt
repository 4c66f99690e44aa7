use Rattle.std.proofs.Common.{◌≡◌, ◌++◌, take}
use Rattle.std.specs.List.{flat_map}
use Rattle.cxl_cedt.specs.Table.{AreRecordTexts}
use Rattle.cxl_cedt.specs.Spelling.{record_spelling}
use Rattle.cxl_cedt.proofs.writing.spell_records.Given as goal

-- the records so far are appended
abbrev pub invariant-loop-item : goal.invariant-loop-item
invariant-loop-item l = record {
  spelled : l.out.items ≡ l.fn.out.items ++ flat_map record_spelling (take l.item-index l.records);
  texts : AreRecordTexts (flat_map record_spelling (take l.item-index l.records)) (take l.item-index l.records);
}
