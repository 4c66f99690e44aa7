use Rattle.std.proofs.Common.{◌≡◌, length, ap, arith, rules}
use Rattle.cxl_held.specs.Trails.{Trailed}
use Rattle.cxl_held.proofs.TrailRoom.{fails_full}
use Rattle.cxl_held.proofs.trail_bus.TrailBusRegs.write32.Goals as goal

pub returns-then-len-ge-ROOM-clause-failed : goal.returns-then-len-ge-ROOM-clause-failed
returns-then-len-ge-ROOM-clause-failed c =
    let words : length c.self.inside.trail.items ≡ length c.args.self.now.trail = ap (λ (bus : Trailed). length bus.trail) c.self.view_is in
    let places : c.self.inside.overruns ≡ c.args.self.now.overruns = ap (λ (bus : Trailed). bus.overruns) c.self.view_is in
    let few = c.self.invariant.1 in
    let counted = c.self.invariant.2 in
    fails_full c.args.self.now c.overrun.new.self (omega (arith, words, few)) (omega (arith, places, counted)) c.overrun.ensures

pub returns-clause-after : goal.returns-clause-after
returns-clause-after c = search rules
