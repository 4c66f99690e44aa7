use Rattle.std.proofs.Common.{length, ap, ◌∙◌, refl, arith}
use Rattle.cxl_topo.specs.Kinds.{is_endpoint}
use Rattle.cxl_image.proofs.Places.{few_decoders}
use Rattle.cxl_image.proofs.Ranges.{length-range}
use Rattle.cxl_image.proofs.reading.block_from.Goals as goal

pub with_decoders-requires : goal.with_decoders-requires
with_decoders-requires c = record {
  cap = rw c.is_endpoint-endpoint.ensures c.requires.legal;
  enabled = λ port. rw (c.decodes-enabled.ensures, port) refl;
  count = ap length c.decoders_from-decoders.ensures.value ∙ length-range _ 0 c.decoder_count-count.result ∙ c.decoder_count-count.ensures;
  each = c.decoders_from-decoders.ensures.each;
}

pub decoders_from-decoders-requires-clause-few : goal.decoders_from-decoders-requires-clause-few
decoders_from-decoders-requires-clause-few c =
    let few = few_decoders c.args.node.now.cap (is_endpoint c.args.node.now.kind) c.requires.legal in
    omega (arith, few, c.decoder_count-count.ensures)
