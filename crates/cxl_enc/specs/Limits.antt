-- The limits and the named numbers of which several layers speak (this project's rules, where no other source is named).
use Rattle.std.specs.Prelude.{ℕ, ◌^◌}

-- 256 MiB: bases, sizes and capacities are multiples of it (CXL HDM decoder base and size, bits 31:28)
abbrev pub unit : ℕ
unit = 2 ^ 28

-- host addresses are below it, and no device holds more bytes
abbrev pub address_limit : ℕ
address_limit = 2 ^ 52

-- the most bytes of a file
abbrev pub file_limit : ℕ
file_limit = 1048576

-- the most frames of 256 bytes that hold device memory
abbrev pub frame_limit : ℕ
frame_limit = 1048576

-- the most nodes of a topology
abbrev pub node_limit : ℕ
node_limit = 1024

-- the most host bridges of a topology
abbrev pub bridge_limit : ℕ
bridge_limit = 64

-- the capability word of the block that stands in the place of a node that forwards: one decoder, one target
abbrev pub placeholder_cap : ℕ
placeholder_cap = 0x10
