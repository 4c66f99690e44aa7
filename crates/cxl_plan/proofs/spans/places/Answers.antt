use Rattle.std.proofs.Common.{length, ap, arith}
use Rattle.cxl_model.specs.Hosts.{as_system}
use Rattle.cxl_legal.specs.Used.{request_ways}
use Rattle.cxl_plan.proofs.PlannedWays.{few_ways}
use Rattle.cxl_plan.proofs.StatedSpans.{no_places, one_place_more}
use Rattle.cxl_plan.proofs.spans.places.Goals as goal

pub overflow_cast-ways : goal.overflow_cast-ways
overflow_cast-ways c =
    let few = few_ways (request_ways c.args.request.now) c.requires.endpoints.ways in
    let count = ap length c.items.ensures in
    omega (arith, few, count)

pub place_of-requires : goal.place_of-requires
place_of-requires c = record {
  settled = c.requires;
  slot =
      let few = few_ways (request_ways c.args.request.now) c.requires.endpoints.ways in
      let count = ap length c.items.ensures in
      omega (arith, few, count, c.loop-slot-test.true);
}

pub loop-slot-init : goal.loop-slot-init
loop-slot-init c = no_places (as_system c.args.host.now) c.args.request.now c.args.w.now c.in_ok-places.places.items c.in_ok-places.ensures.items

pub loop-slot-preserved : goal.loop-slot-preserved
loop-slot-preserved c =
    one_place_more (as_system c.args.host.now) c.args.request.now c.args.w.now c.loop-slot.slot c.loop-slot.places.items c.push.new.self.items c.place_of.result c.loop-slot.invariant c.in_ok-push.ensures.items c.place_of.ensures

pub returns : goal.returns
returns c = record {
  slots =
      let known = c.loop-slot.invariant.count in
      let count = ap length c.items.ensures in
      omega (arith, known, count, c.loop-slot.auto.slot-end, c.loop-slot-test.false);
  places = c.loop-slot.invariant.each;
}
