use Rattle.std.proofs.Common.{◌<◌, List, length, take, sym, ap, subst, ◌∙◌, arith}
use Rattle.std.proofs.lemmas.List.{length-take-le}
use Rattle.std.proofs.Math.Seq.{take-set-lt}
use Rattle.std.specs.Prelude.{slice_set}
use Rattle.cxl_regs.specs.declared.decoder.Decoder.{Decoder}
use Rattle.cxl_regs.proofs.decoders.Decoders.put.Goals as goal

-- the decoder is one of those that there are
pub returns : goal.returns
returns c =
    let within : c.args.index < length (take c.self.inside.count c.self.inside.all) =
    subst (λ (ds : List Decoder). c.args.index < length ds) (sym c.self.view_is) c.requires in
    let count = length-take-le c.self.inside.count c.self.inside.all (omega (arith, c.self.invariant.0, c.self.invariant.1)) in
    take-set-lt c.self.inside.count c.self.inside.all c.args.index c.args.d (omega (arith, within, count))
    ∙ ap (λ (ds : List Decoder). slice_set ds c.args.index c.args.d) c.self.view_is
