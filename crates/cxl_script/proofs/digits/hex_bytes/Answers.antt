use Rattle.std.proofs.lemmas.Result.{IfOk-from_err}
use Rattle.std.proofs.Common.{◌%◌, ◌==◌, length}
use Rattle.std.proofs.lemmas.Bool.{and_parts}
use Rattle.std.specs.List.{list_all}
use Rattle.std.specs.Char.{is_digit}
use Rattle.cxl_script.proofs.digits.hex_bytes.Goals as goal

pub returns-in_err-bytes : goal.returns-in_err-bytes
returns-in_err-bytes c = IfOk-from_err c.from_residual.result _ c.from_residual.ensures.0

pub write_bytes-requires-clause-digits : goal.write_bytes-requires-clause-digits
write_bytes-requires-clause-digits c =
    let digits = c.args.digits.now in
    (and_parts (list_all (λ b. is_digit b 16) digits) (length digits % 2 == 0) c.requires).0
