use Rattle.cxl_model.proofs.Spans.{slots_differ, slot_for, slot_place}
use Rattle.cxl_model.proofs.SpansKinds.{slot_inside}
use Rattle.cxl_model.proofs.SpansLow.{span_ends_low}
use Rattle.cxl_model.specs.Bytes.{slot_length}
use Rattle.cxl_model.proofs.regions.slots_are_endpoints.Goals as goal

pub returns-clause-apart : goal.returns-clause-apart
returns-clause-apart c = λ s w found a b p q system is a_at b_at endpoint.
    slots_differ s w found system (record { tree = system.tree; laws = c.tree_laws.ensures.laws s.nodes system.tree }) is a b p q a_at b_at endpoint

pub returns-clause-each : goal.returns-clause-each
returns-clause-each c = λ s w found m system is end.
    slot_for (record { apart = c.ranges_rise.ensures.apart; some = c.ranges_rise.ensures.some }) s w found system
    (record { tree = system.tree; laws = c.tree_laws.ensures.laws s.nodes system.tree }) is m end

pub returns-clause-endpoint : goal.returns-clause-endpoint
returns-clause-endpoint c = λ s w found slot place system is at. (slot_place s w found is slot place at).endpoint

pub returns-clause-start : goal.returns-clause-start
returns-clause-start c = λ s w found slot place system is at.
    let own = slot_place s w found is slot place at in
    (own.i, own.number, own.start)

pub returns-clause-inside : goal.returns-clause-inside
returns-clause-inside c = λ s w found slot place system is at. slot_inside c.spans_lie_in_partitions.ensures.some s w found system is slot place at

pub returns-clause-low : goal.returns-clause-low
returns-clause-low c = λ s w found slot place system is at.
    span_ends_low s found.kind place.endpoint place.start (slot_length found) system.tree (slot_inside c.spans_lie_in_partitions.ensures.some s w found system is slot place at)
