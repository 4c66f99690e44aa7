use Rattle.std.proofs.Common.{◌≡◌, ◌≤◌, length, take}
use Rattle.std.specs.List.{AllZip}
use Rattle.std.specs.Vec.{vec_capacity}
use Rattle.cxl_poison.specs.Pieces.{ArePoisonedPieces}
use Rattle.cxl_session.proofs.reports.touched_by_records.Given as goal

-- what the first records touch, and room for that of all
abbrev pub invariant-loop-record : goal.invariant-loop-record
invariant-loop-record l = record {
  told : AllZip (λ entry poisoned. ArePoisonedPieces entry l.endpoint l.live l.windows poisoned) (take l.record-index l.records) l.all.items;
  count : length l.all.items ≡ l.record-index;
  room : length l.records ≤ vec_capacity l.all;
}
