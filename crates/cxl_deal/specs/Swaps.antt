-- The way the code goes: raw bits and parities change places, and the address is then dealt with no maps.
use Rattle.std.specs.Prelude.{ℕ, if◌then◌else◌}
use Rattle.cxl_num.specs.Maps.{parities, with_raw_bits}
use Rattle.cxl_deal.specs.Weaves.{WeaveFields}

-- under XOR the address with its parities in place of its raw bits
abbrev pub swapped : WeaveFields → ℕ → ℕ
swapped w h = if w.xor then with_raw_bits w.gran w.root_bits h (parities w.root_bits w.maps h) else h
