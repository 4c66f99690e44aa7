use Rattle.std.proofs.Common.{◌<◌, List, length, sym, ap, subst, ◌∙◌}
use Rattle.cxl_regs.specs.declared.decoder.Decoder.{Decoder}
use Rattle.cxl_regs.specs.Registers.{Registers, IsDecoder}
use Rattle.cxl_regs.specs.Writes.{with_decoder}
use Rattle.cxl_regs.proofs.Kept.{decoder_block}
use Rattle.cxl_regs.proofs.block.Block.put.Goals as goal

pub put-requires : goal.put-requires
put-requires c = subst (λ (block : Registers). c.args.index < length block.decoders) (sym c.self.view_is) c.requires.here

pub invariant_of-self : goal.invariant_of-self
invariant_of-self c =
    let block : Registers = record { cap = c.self.inside.cap; endpoint = c.self.inside.endpoint; enabled = c.self.inside.enabled; decoders = c.self.inside.decoders } in
    let decoder : IsDecoder block.endpoint c.args.d = subst (λ (block : Registers). IsDecoder block.endpoint c.args.d) (sym c.self.view_is) c.requires.decoder in
    decoder_block block c.args.index c.args.d c.put.new.self c.self.invariant decoder c.put.ensures

pub returns : goal.returns
returns c =
    let block : Registers = record { cap = c.self.inside.cap; endpoint = c.self.inside.endpoint; enabled = c.self.inside.enabled; decoders = c.self.inside.decoders } in
    ap (λ (ds : List Decoder). record block { decoders = ds }) c.put.ensures ∙ ap (λ (block : Registers). with_decoder block c.args.index c.args.d) c.self.view_is
