use Rattle.std.proofs.Common.{Some, pos, sym, ◌∙◌}
use Rattle.std.proofs.lemmas.Result.{err_from_is_err_and}
use Rattle.cxl_enc.specs.Caps.{is_decoder_count}
use Rattle.cxl_topofile.specs.declared.key.Key.TheVariants as keys
use Rattle.cxl_topofile.specs.inner.Fields.{members_of}
use Rattle.cxl_topofile.proofs.Steps.{number_fails, number_passes, number_refused}
use Rattle.cxl_topofile.proofs.value.decoders.Goals as goal

pub returns-in_err-n-clause-decoders : goal.returns-in_err-n-clause-decoders
returns-in_err-n-clause-decoders c =
    let p = err_from_is_err_and c.from_residual.result c.from_residual.ensures.1 in
    rw (p.1, p.2) (number_fails (members_of c.args.fields.now) keys.Decoders (Some (pos 4)) is_decoder_count c.in_err-n.field-0.0 c.in_err-n.ensures)

pub returns-then-not-is_decoder_count-clause-decoders : goal.returns-then-not-is_decoder_count-clause-decoders
returns-then-not-is_decoder_count-clause-decoders c =
    rw c.out_of_range.ensures (number_refused (members_of c.args.fields.now) keys.Decoders (Some (pos 4)) is_decoder_count c.in_ok-n.n c.in_ok-n.ensures (sym c.is_decoder_count.ensures.value ∙ c.if-not-is_decoder_count.true))

pub returns-clause-decoders : goal.returns-clause-decoders
returns-clause-decoders c = number_passes (members_of c.args.fields.now) keys.Decoders (Some (pos 4)) is_decoder_count c.in_ok-n.n c.in_ok-n.ensures (sym c.is_decoder_count.ensures.value ∙ c.if-not-is_decoder_count.false)
