use Rattle.std.proofs.Common.{arith, rules}
use Rattle.cxl_regs.specs.declared.decoder.Decoder.{Decoder}
use Rattle.cxl_legal.proofs.Prefixes.{prefix_fits}
use Rattle.cxl_legal.proofs.blocks.last_end.Goals as goal

pub decoder-last-requires : goal.decoder-last-requires
decoder-last-requires c =
    let fits = prefix_fits (λ (d : Decoder). d.committed) c.args.block.now.decoders in
    omega (arith, fits, c.committed-committed.ensures)

pub returns-clause-value : goal.returns-clause-value
returns-clause-value c = search rules
