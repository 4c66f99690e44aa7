-- Where the partition of a kind ends.
use Rattle.std.proofs.Common.{ℕ, ◌+◌, ◌≤◌, arith}
use Rattle.cxl_enc.specs.declared.caps.MemKind.{MemKind}
use Rattle.cxl_enc.specs.declared.caps.MemKind.TheVariants.{Ram, Pmem}
use Rattle.cxl_span.specs.Partitions.{partition_end}

pub partition_ends : (kind : MemKind) (ram pmem : ℕ) → partition_end kind ram pmem ≤ ram + pmem
partition_ends Ram ram pmem = omega arith
partition_ends Pmem ram pmem = omega arith
