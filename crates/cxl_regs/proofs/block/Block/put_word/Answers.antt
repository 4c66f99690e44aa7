use Rattle.std.proofs.Common.{◌<◌, length, sym, subst, arith}
use Rattle.cxl_regs.specs.Registers.{Registers}
use Rattle.cxl_regs.proofs.Kept.{word_block}
use Rattle.cxl_regs.proofs.block.Block.put_word.Goals as goal

pub invariant_of-self : goal.invariant_of-self
invariant_of-self c =
    let block : Registers = record { cap = c.self.inside.cap; endpoint = c.self.inside.endpoint; enabled = c.self.inside.enabled; decoders = c.self.inside.decoders } in
    let within = subst (λ (block : Registers). c.args.index < length block.decoders) (sym c.self.view_is) c.requires.here in
    word_block block c.args.index c.args.place c.args.value c.put_word.new.self c.self.invariant (omega arith) within c.put_word.ensures
