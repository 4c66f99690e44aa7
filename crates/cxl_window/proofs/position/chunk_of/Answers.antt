use Rattle.std.proofs.Common.{◌^◌}
use Rattle.std.proofs.lemmas.Nat.{pow-add}
use Rattle.std.proofs.Math.Nat.{mul_comm}
use Rattle.cxl_window.proofs.position.chunk_of.Goals as goal

pub returns : goal.returns
returns c =
    let gran = c.args.window.now.gran in
    rw (c.base.ensures, c.gran.ensures.value, pow-add 2 gran 8, mul_comm (2 ^ gran) 256)
