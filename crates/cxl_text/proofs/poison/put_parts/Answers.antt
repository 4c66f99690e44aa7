use Rattle.std.specs.List.{flat_map}
use Rattle.cxl_reply.specs.Texts.{part_text}
use Rattle.cxl_text.proofs.Lines.{item_step, all_items}
use Rattle.cxl_text.proofs.poison.put_parts.Goals as goal

pub loop-part-preserved : goal.loop-part-preserved
loop-part-preserved c =
    item_step (part_text c.args.names.now) c.args.parts.now c.loop-part.part-index _ _ _ _ c.loop-part-test.true c.loop-part.invariant c.in_ok-put_part.ensures

pub returns : goal.returns
returns c =
    all_items (flat_map (part_text c.args.names.now)) c.args.parts.now c.loop-part.part-index _ _ c.loop-part-test.false c.loop-part.invariant
