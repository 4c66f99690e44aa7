use Rattle.std.proofs.Common.{◌≡◌, ◌*◌, ◌++◌, take, drop}
use Rattle.cxl_reply.specs.Words.{bytes_text}
use Rattle.cxl_text.proofs.digits.write_digits.Given as goal

-- the digits so far are written
abbrev pub invariant-loop-i : goal.invariant-loop-i
invariant-loop-i l = take (2 * l.i) l.digits ++ bytes_text (drop l.i l.bytes) ≡ bytes_text l.bytes
