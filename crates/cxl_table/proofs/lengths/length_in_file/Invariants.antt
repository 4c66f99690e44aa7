use Rattle.std.proofs.Common.{◌≡◌, ◌≤◌, take}
use Rattle.cxl_enc.specs.Limits.{file_limit}
use Rattle.cxl_table.specs.Records.{table_length}
use Rattle.cxl_table.proofs.lengths.length_in_file.Given as goal

-- the length of the table of the records so far, which fits
abbrev pub invariant-loop-item : goal.invariant-loop-item
invariant-loop-item l = record {
  so_far : l.size ≡ table_length (take l.item-index l.records);
  fits : l.size ≤ file_limit;
}
