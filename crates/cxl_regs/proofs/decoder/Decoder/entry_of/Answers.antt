use Rattle.std.proofs.Common.{◌^◌}
use Rattle.std.proofs.lemmas.Nat.{pow-add}
use Rattle.std.proofs.Math.Nat.{mul_comm}
use Rattle.cxl_regs.proofs.decoder.Decoder.entry_of.Goals as goal

pub returns-clause-value : goal.returns-clause-value
returns-clause-value c =
    let gran = c.args.self.now.gran in
    rw (c.from.ensures, c.interleave_ways.ensures.value, c.saturating_sub.ensures, pow-add 2 gran 8, mul_comm (2 ^ gran) 256)
