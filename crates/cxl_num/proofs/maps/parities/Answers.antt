use Rattle.std.proofs.Common.{◌≡◌, ℕ, suc, ◌-◌, arith}
use Rattle.cxl_num.proofs.ParitySums.{IsSumFrom-front}
use Rattle.cxl_num.proofs.maps.parities.Goals as goal

pub loop-i-preserved : goal.loop-i-preserved
loop-i-preserved c =
    let i : ℕ = c.loop-i.i - 1 in
    let next : suc i ≡ c.loop-i.i = omega arith in
    IsSumFrom-front c.args.maps.now c.args.h c.args.bits i c.loop-i.sum c.parity_under.result (omega arith) c.requires.maps c.parity_under.ensures.value c.parity_under.ensures.bit (rw next c.loop-i.invariant)
