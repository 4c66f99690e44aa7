use Rattle.std.proofs.Common.{◌/◌, ◌^◌, ◌<◌, arith}
use Rattle.cxl_media.specs.Sim.{shipped_blocks}
use Rattle.cxl_media.proofs.Scrubs.{between_numbers}
use Rattle.cxl_media.proofs.Walks.{scrubbed_is}
use Rattle.cxl_media.proofs.sim_media.SimMedia.scrub_zones.Goals as goal

pub returns-clause-blocks : goal.returns-clause-blocks
returns-clause-blocks c =
    scrubbed_is (shipped_blocks c.args.self.now) (shipped_blocks c.loop-zone.self) c.args.ep c.args.from c.args.to c.loop-zone.invariant.kept (λ q passed.
    let its = between_numbers c.args.ep c.args.from c.args.to q c.requires.to passed in
    let below : q.1 / 2 ^ 20 < c.loop-zone.zone = omega (arith, its.high, c.loop-zone-test.false) in
    c.loop-zone.invariant.gone q passed below)
