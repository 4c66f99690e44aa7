use Rattle.std.proofs.Common.{◌≡◌, ℕ, ◌^◌, ◌<◌, get_or, take}
use Rattle.std.specs.Char.{digit_value}
use Rattle.std.specs.Str.Parse.{digits_value}
use Rattle.cxl_io.proofs.number.value_of.Given as goal

-- the value of the digits so far
abbrev pub invariant-loop-byte : goal.invariant-loop-byte
invariant-loop-byte l = record {
  so_far : l.value ≡ digits_value l.base (take l.byte-index l.digits);
  fits : l.value < 2 ^ 64;
  digits : (k : ℕ) → k < l.byte-index → digit_value (get_or l.digits k 0) < l.base;
}
