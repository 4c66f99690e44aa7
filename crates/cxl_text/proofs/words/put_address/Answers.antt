use Rattle.std.proofs.lemmas.Result.{IfOk-from_err}
use Rattle.std.proofs.Common.{◌≡◌, ◌-◌, ◌++◌, List, ℕ, take, drop, ap, ◌∙◌, arith}
use Rattle.std.specs.Prelude.{codes}
use Rattle.std.proofs.lemmas.Slice.{between_to_end}
use Rattle.cxl_enc.proofs.Lists.{appended}
use Rattle.cxl_io.specs.Printed.{hex_of}
use Rattle.cxl_text.proofs.words.put_address.Goals as goal

pub returns-in_err-extend_from_slice-2-clause-ok : goal.returns-in_err-extend_from_slice-2-clause-ok
returns-in_err-extend_from_slice-2-clause-ok c = IfOk-from_err c.from_residual-in_err-extend_from_slice-2.result _ c.from_residual-in_err-extend_from_slice-2.ensures.0

pub returns-in_err-extend_from_slice-clause-ok : goal.returns-in_err-extend_from_slice-clause-ok
returns-in_err-extend_from_slice-clause-ok c = IfOk-from_err c.from_residual-in_err-extend_from_slice.result _ c.from_residual-in_err-extend_from_slice.ensures.0

pub returns-in_err-reserve-clause-ok : goal.returns-in_err-reserve-clause-ok
returns-in_err-reserve-clause-ok c = IfOk-from_err c.from_residual.result _ c.from_residual.ensures.0

pub returns-clause-ok : goal.returns-clause-ok
returns-clause-ok c =
    let written = c.write_hex-start.new.text in
    let first = c.write_hex-start.result in
    let digits : take (16 - first) (drop first written) ≡ hex_of c.args.address =
    between_to_end written first 16 (omega (arith, c.write_hex-start.array_long)) ∙ c.write_hex-start.ensures.written in
    appended _ _ _ _ _
    (c.in_ok-extend_from_slice.ensures.items ∙ ap (λ (t : List ℕ). t ++ codes "0x") c.in_ok-reserve.ensures.items)
    (rw digits at c.in_ok-extend_from_slice-2.ensures.items)
