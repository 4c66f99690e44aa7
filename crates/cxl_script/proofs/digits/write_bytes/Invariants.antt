use Rattle.std.proofs.Common.{◌≡◌, ◌*◌, ◌++◌, take, drop}
use Rattle.cxl_script.specs.Reading.{hex_bytes}
use Rattle.cxl_script.proofs.digits.write_bytes.Given as goal

-- the bytes so far are written
abbrev pub invariant-loop-i : goal.invariant-loop-i
invariant-loop-i l = take l.i l.bytes ++ hex_bytes (drop (2 * l.i) l.digits) ≡ hex_bytes l.digits
