use Rattle.std.proofs.Common.{◌≡◌, ◌+◌, ◌^◌, ◌<◌, ◌≤◌, false, length, take, drop}
use Rattle.std.specs.Fmt.{digits_onto}
use Rattle.cxl_io.specs.Printed.{hex_of}
use Rattle.cxl_io.proofs.print.write_hex.Given as goal

-- the digits of what is left, and then those that are written, are the number's
abbrev pub invariant-loop-left : goal.invariant-loop-left
invariant-loop-left l = record {
  all : length l.text ≡ 16;
  room : 1 ≤ l.at;
  within : l.at ≤ 16;
  small : l.left < 16 ^ l.at;
  digits : digits_onto (48 + l.at) 16 false l.left (drop l.at l.text) ≡ hex_of l.n;
  before : take l.at l.text ≡ take l.at l.fn.text;
}

abbrev pub decreases-loop-left : goal.decreases-loop-left
decreases-loop-left l = l.left
