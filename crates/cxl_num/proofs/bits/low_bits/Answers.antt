use Rattle.std.proofs.lemmas.Nat.{one_shl, and_mask}
use Rattle.cxl_num.proofs.bits.low_bits.Goals as goal

pub returns : goal.returns
returns c =
    let power = one_shl c.args.k 64 c.requires in
    rw power (and_mask c.args.word c.args.k)
