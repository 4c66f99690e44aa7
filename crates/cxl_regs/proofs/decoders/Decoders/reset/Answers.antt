use Rattle.std.proofs.lemmas.List.{take-replicate}
use Rattle.cxl_regs.specs.Registers.{reset_decoder}
use Rattle.cxl_regs.proofs.decoders.Decoders.reset.Goals as goal

pub returns : goal.returns
returns c = take-replicate c.args.count 10 reset_decoder c.requires
