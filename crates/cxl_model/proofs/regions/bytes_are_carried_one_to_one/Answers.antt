use Rattle.cxl_model.proofs.Carrying.{carried_apart, each_carried, carried_inside, each_reached}
use Rattle.cxl_model.proofs.regions.bytes_are_carried_one_to_one.Goals as goal

pub returns-clause-apart : goal.returns-clause-apart
returns-clause-apart c = λ s w found h other endpoint dpa system is one also.
    carried_apart
    (record {
      tells = c.place_tells_address.ensures;
      slot = c.region_fills_slots.ensures.slot;
      lands = c.region_fills_slots.ensures.lands;
      hit = c.region_fills_slots.ensures.hit;
    }) s w found h other endpoint dpa system (record { tree = system.tree; laws = c.tree_laws.ensures.laws s.nodes system.tree }) is one also

pub returns-clause-each : goal.returns-clause-each
returns-clause-each c = λ s w found h system is from below.
    each_carried
    (record {
      tells = c.place_tells_address.ensures;
      slot = c.region_fills_slots.ensures.slot;
      lands = c.region_fills_slots.ensures.lands;
      hit = c.region_fills_slots.ensures.hit;
    }) s w found h system (record { tree = system.tree; laws = c.tree_laws.ensures.laws s.nodes system.tree }) is from below

pub returns-clause-inside : goal.returns-clause-inside
returns-clause-inside c = λ s w found h endpoint dpa system is carries.
    carried_inside
    (record {
      tells = c.place_tells_address.ensures;
      slot = c.region_fills_slots.ensures.slot;
      lands = c.region_fills_slots.ensures.lands;
      hit = c.region_fills_slots.ensures.hit;
    }) (record { shares = c.spans_are_whole.ensures.shares; length_aligned = c.spans_are_whole.ensures.length_aligned }) s w found h endpoint dpa system
    (record { tree = system.tree; laws = c.tree_laws.ensures.laws s.nodes system.tree }) is carries

pub returns-clause-onto : goal.returns-clause-onto
returns-clause-onto c = λ s w found endpoint dpa system is lies.
    each_reached
    (record {
      tells = c.place_tells_address.ensures;
      slot = c.region_fills_slots.ensures.slot;
      lands = c.region_fills_slots.ensures.lands;
      hit = c.region_fills_slots.ensures.hit;
    }) (record { shares = c.spans_are_whole.ensures.shares; length_aligned = c.spans_are_whole.ensures.length_aligned }) s w found endpoint dpa system
    (record { tree = system.tree; laws = c.tree_laws.ensures.laws s.nodes system.tree }) is lies
