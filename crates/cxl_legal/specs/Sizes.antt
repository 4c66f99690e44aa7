-- The sizes that a region of so many ways can have (this project's rule).
use Rattle.std.specs.Prelude.{◌≡◌, ℕ, ◌*◌, ◌%◌, ◌<◌, ◌≤◌, ◌==◌, nat_le, nat_lt, ◌&&◌, Bool}
use Rattle.cxl_enc.specs.Limits.{unit, address_limit}

-- some bytes, a multiple of 256 MiB for each way, and no more than 2 ^ 52
pub record IsSizeFor (size ways : ℕ) : Type 0 where
  pub some : 0 < size
  pub even : size % (unit * ways) ≡ 0
  pub low : size ≤ address_limit

-- the same as a test
abbrev pub is_size_for : ℕ → ℕ → Bool
is_size_for size ways = nat_lt 0 size && (size % (unit * ways) == 0) && nat_le size address_limit
