use Rattle.std.proofs.Common.{[], arith}
use Rattle.cxl_session.proofs.Served.{decoders_there, no_decoders}
use Rattle.cxl_session.proofs.Ups.{none_more, none_there}
use Rattle.cxl_session.proofs.session.Session.told_host.Goals as goal

pub returns-then-endpoint-count : goal.returns-then-endpoint-count
returns-then-endpoint-count c = λ m stands is.
    none_there c.args.self.now m stands c.args.endpoint c.args.dpa c.live_regions_stay.ensures.system c.live_regions_stay.ensures.region c.slots_are_endpoints.ensures.start c.slots_are_endpoints.ensures.endpoint is []
    (no_decoders c.args.self.now c.self.inside c.self.view_is c.args.endpoint (omega (arith, c.if-endpoint-count.true, c.count.ensures.count))) 0 (omega arith) (λ k d low. absurd (omega (arith, low)))

pub loop-i-preserved : goal.loop-i-preserved
loop-i-preserved c = λ m stands is.
    none_more c.args.self.now m stands c.args.endpoint c.args.dpa c.block-block.result.now.decoders c.loop-i.i c.decoder.result c.decoder.ensures.value (c.in_default.ensures.none m stands is)
    (c.loop-i.invariant m stands is)

pub returns : goal.returns
returns c = λ m stands is.
    none_there c.args.self.now m stands c.args.endpoint c.args.dpa c.live_regions_stay.ensures.system c.live_regions_stay.ensures.region c.slots_are_endpoints.ensures.start c.slots_are_endpoints.ensures.endpoint is c.block-block.result.now.decoders
    (decoders_there c.args.self.now c.self.inside c.self.view_is c.args.endpoint c.block-block.result.now c.block-block.ensures.value) c.loop-i.i (omega (arith, c.loop-i-test.false, c.count-i-end.ensures.value))
    (c.loop-i.invariant m stands is)
