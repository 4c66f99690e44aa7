use Rattle.std.proofs.Common.{◌≤◌, ◌*◌, take, sum_by}
use Rattle.cxl_table.specs.Records.{record_length}
use Rattle.cxl_hosts.proofs.hosts.are_short.Given as goal

abbrev pub invariant-loop-item : goal.invariant-loop-item
invariant-loop-item l = sum_by record_length (take l.item-index l.records) ≤ 2048 * l.item-index
