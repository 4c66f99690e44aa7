use Rattle.std.proofs.Common.{◌<◌, ◌-◌, refl, arith}
use Rattle.std.proofs.lemmas.Option.{slice_get_within}
use Rattle.std.proofs.lemmas.Result.{IfOk-weaker}
use Rattle.cxl_regs.proofs.DecoderRanges.{holds_parts}
use Rattle.cxl_model.specs.Hosts.{as_system}
use Rattle.cxl_model.specs.Chain.{Routed}
use Rattle.cxl_walk.specs.Routes.{routing_of}
use Rattle.cxl_walk.proofs.Comings.{same_byte, keeps, endpoint_block}
use Rattle.cxl_trace.proofs.SameBytes.{is_routed, ends_by, all_hosts, no_hosts}
use Rattle.cxl_trace.proofs.hosts.listed.Goals as goal

pub returns-in_default : goal.returns-in_default
returns-in_default c = rw c.new.ensures.items (no_hosts (as_system c.args.host.now) c.args.ep c.args.dpa c.in_default.ensures.none)

pub unwrap-route-requires : goal.unwrap-route-requires
unwrap-route-requires c =
    let least = c.in-Some.ensures.some in
    is_routed (as_system c.args.host.now) c.args.ep c.args.dpa c.in-Some.least.base c.in-Some.least.h c.down.result least.comes c.down.ensures.only

pub decoder-decoder-requires : goal.decoder-decoder-requires
decoder-decoder-requires c =
    let s = as_system c.args.host.now in
    let least = c.in-Some.ensures.some in
    let route = routing_of c.unwrap-route.result in
    let chain = rw c.unwrap-route.ensures at c.down.ensures.chain in
    let only = rw c.unwrap-route.ensures at c.down.ensures.only in
    let same = same_byte s c.args.ep c.args.dpa c.in-Some.least.base c.in-Some.least.h route least.comes (only (Routed least.comes.routing) least.comes.chain) in
    let own = ends_by s c.args.ep c.in-Some.least.h c.block.result.now c.block.ensures.value route chain same.0 in
    slice_get_within c.block.result.now.decoders c.unwrap-route.result.decoder own.d own.there

pub those_reached-requires-clause-first : goal.those_reached-requires-clause-first
those_reached-requires-clause-first c =
    let s = as_system c.args.host.now in
    let least = c.in-Some.ensures.some in
    let block = c.block.result.now in
    let route = routing_of c.unwrap-route.result in
    let chain = rw c.unwrap-route.ensures at c.down.ensures.chain in
    let only = rw c.unwrap-route.ensures at c.down.ensures.only in
    let same = same_byte s c.args.ep c.args.dpa c.in-Some.least.base c.in-Some.least.h route least.comes (only (Routed least.comes.routing) least.comes.chain) in
    let own = ends_by s c.args.ep c.in-Some.least.h block c.block.ensures.value route chain same.0 in
    let kept = keeps s c.args.ep c.args.dpa c.in-Some.least.base c.in-Some.least.h block c.block.ensures.value least.comes in
    let parts = holds_parts own.d c.in-Some.least.h own.holds in
    let below = parts.below in
    let ends = c.ranges_rise.ensures.ends block _ _ c.unwrap-route.result.decoder own.d kept own.there parts.committed in
    omega (arith, below, ends)

pub returns : goal.returns
returns c =
    let s = as_system c.args.host.now in
    let least = c.in-Some.ensures.some in
    let block = c.block.result.now in
    let route = routing_of c.unwrap-route.result in
    let chain = rw c.unwrap-route.ensures at c.down.ensures.chain in
    let only = rw c.unwrap-route.ensures at c.down.ensures.only in
    let same = same_byte s c.args.ep c.args.dpa c.in-Some.least.base c.in-Some.least.h route least.comes (only (Routed least.comes.routing) least.comes.chain) in
    let endpoint = endpoint_block c.args.host.now.topo.now.nodes c.args.host.now.image.now c.args.ep block c.requires.caps c.requires.endpoint c.block.ensures.value in
    let some : 0 < c.interleave_ways.result = c.interleave_ways.ensures.some in
    let d = c.decoder-decoder.result in
    IfOk-weaker c.those_reached.result _ _
    (λ hosts are.
    all_hosts s c.args.ep c.args.dpa block c.block.ensures.value c.block.ensures.block endpoint c.spans_follow.ensures c.addresses_go_into_spans.ensures.below c.addresses_go_into_spans.ensures.from
    route c.in-Some.least.h chain same.0 same.1 d c.decoder-decoder.ensures.value (omega (arith, some, c.interleave_ways.ensures.value)) least.least
    c.interleave_granularity-apart.result (c.interleave_ways.result - c.entry_of.result) c.interleave_granularity-apart.ensures (rw (c.interleave_ways.ensures.value, c.entry_of.ensures.value) refl) hosts.items are)
    c.those_reached.ensures
