-- The two partitions of an endpoint's device: ram from 0 on, and pmem from where ram ends.
use Rattle.std.specs.Prelude.{ℕ, ◌+◌, nat_le, Bool, ◌&&◌}
use Rattle.cxl_enc.specs.declared.caps.MemKind.{MemKind}
use Rattle.cxl_enc.specs.declared.caps.MemKind.TheVariants.{Ram, Pmem}

-- where the partition of a kind of memory starts
abbrev pub partition_start : MemKind → ℕ → ℕ
partition_start Ram ram = 0
partition_start Pmem ram = ram

-- where it ends
abbrev pub partition_end : MemKind → ℕ → ℕ → ℕ
partition_end Ram ram pmem = ram
partition_end Pmem ram pmem = ram + pmem

-- so many bytes from the start on lie in the kind's partition
abbrev pub lies_in : MemKind → ℕ → ℕ → ℕ → ℕ → Bool
lies_in kind ram pmem start len =
    nat_le (partition_start kind ram) start && nat_le (start + len) (partition_end kind ram pmem)
