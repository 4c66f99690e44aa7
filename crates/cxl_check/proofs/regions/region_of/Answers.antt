use Rattle.std.proofs.Common.{arith}
use Rattle.cxl_model.specs.Hosts.{as_system}
use Rattle.cxl_check.proofs.WaysUp.{range_ways_few}
use Rattle.cxl_check.proofs.Wholes.{some_window, gives_here}
use Rattle.cxl_check.proofs.regions.region_of.Goals as goal

pub unwrap-w-requires : goal.unwrap-w-requires
unwrap-w-requires c =
    some_window c.whole_ranges_have_one_region.ensures.some (as_system c.args.host.now) c.args.range.now c.requires.ready.system c.requires.committed c.requires.whole
    c.window_of.result c.window_of.ensures

pub spans_of-requires-clause-few : goal.spans_of-requires-clause-few
spans_of-requires-clause-few c =
    let few = range_ways_few (as_system c.args.host.now) c.args.range.now in
    omega (arith, few, c.requires.known.facts.ways)

pub spans_of-requires-clause-some : goal.spans_of-requires-clause-some
spans_of-requires-clause-some c = λ slot below.
    let s = as_system c.args.host.now in
    let region = gives_here c.whole_ranges_have_one_region.ensures.some s c.args.range.now c.requires.ready.system c.requires.committed c.requires.whole c.window_of.result c.unwrap-w.result c.window_of.ensures c.unwrap-w.ensures in
    region.spans slot (omega (arith, below, c.requires.known.facts.ways))

pub returns-clause-region : goal.returns-clause-region
returns-clause-region c =
    let s = as_system c.args.host.now in
    let region = gives_here c.whole_ranges_have_one_region.ensures.some s c.args.range.now c.requires.ready.system c.requires.committed c.requires.whole c.window_of.result c.unwrap-w.result c.window_of.ensures c.unwrap-w.ensures in (
      c.unwrap-w.result.now,
      record {
        committed = c.requires.committed;
        whole = c.requires.whole;
        window = region.window;
        index = c.index.ensures.value;
        ways = c.requires.known.facts.ways;
        code = c.region_code.ensures s c.args.range.now c.requires.known.facts;
        kind = c.requires.known.facts.kind;
        slots = rw c.new.ensures c.in_ok-spans.ensures.count;
        spans = λ slot place is. c.in_ok-spans.ensures.each slot place (rw c.new.ensures at is);
      },
    )
