-- The bits of the words of a decoder block and of a window's restrictions, each by its number.
use Rattle.std.specs.Prelude.{ℕ}

-- ---- capability (CXL HDM decoder capability)

-- the block can select on the address bits 11:8
abbrev pub cap_low : ℕ
cap_low = 8

-- the block can select on the address bits 14:12
abbrev pub cap_high : ℕ
cap_high = 9

-- the block can have the ways 3, 6 and 12
abbrev pub cap_ways3 : ℕ
cap_ways3 = 11

-- the block can have the ways 16
abbrev pub cap_ways16 : ℕ
cap_ways16 = 12

-- ---- global control (CXL HDM decoder global control)

-- the block decodes
abbrev pub global_enable : ℕ
global_enable = 1

-- ---- control (CXL HDM decoder control)

-- a committed decoder keeps its registers
abbrev pub control_lock : ℕ
control_lock = 8

-- the decoder is to commit
abbrev pub control_commit : ℕ
control_commit = 9

-- the decoder is committed
abbrev pub control_committed : ℕ
control_committed = 10

-- the decoder was to commit, and could not
abbrev pub control_error : ℕ
control_error = 11

-- the range is host-only coherent
abbrev pub control_host_only : ℕ
control_host_only = 12

-- ---- a window's restrictions (CEDT CFMWS window restrictions)

-- the window permits host-only coherent memory
abbrev pub window_host_only : ℕ
window_host_only = 1

-- the window permits volatile memory
abbrev pub window_ram : ℕ
window_ram = 2

-- the window permits persistent memory
abbrev pub window_pmem : ℕ
window_pmem = 3

-- the configuration of the window is fixed
abbrev pub window_fixed : ℕ
window_fixed = 4
