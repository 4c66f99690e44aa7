use Rattle.std.proofs.Common.{◌∙◌}
use Rattle.std.specs.List.{flat_map, enumerate_from}
use Rattle.cxl_reply.specs.Texts.{slot_text}
use Rattle.cxl_text.proofs.Lines.{line_step, all_items}
use Rattle.cxl_text.proofs.slots.put_slots.Goals as goal

pub loop-slot-preserved : goal.loop-slot-preserved
loop-slot-preserved c = record {
  lines = line_step (slot_text c.args.topo.now.nodes) c.args.places.now c.loop-slot.slot _ _ _ _ c.loop-slot-test.true c.loop-slot.invariant.lines c.in_ok-put_slot.ensures.line;
  at = c.put_other_start-tail.ensures.at;
  within = c.put_other_start-tail.ensures.within;
  text = c.put_slot.ensures.text ∙ c.put_other_start-tail.ensures.text;
}

pub returns : goal.returns
returns c =
    all_items (λ places. flat_map (slot_text c.args.topo.now.nodes) (enumerate_from 0 places)) c.args.places.now c.loop-slot.slot _ _ c.loop-slot-test.false c.loop-slot.invariant.lines
