use Rattle.std.specs.List.{flat_map}
use Rattle.cxl_reply.specs.Plans.{planned_text}
use Rattle.cxl_text.proofs.Lines.{item_step, all_items}
use Rattle.cxl_text.proofs.plan.put_plan_rows.Goals as goal

pub loop-row-preserved : goal.loop-row-preserved
loop-row-preserved c =
    item_step (planned_text c.args.topo.now.nodes) c.args.rows.now c.loop-row.row-index _ _ _ _ c.loop-row-test.true c.loop-row.invariant c.in_ok-put_planned.ensures

pub returns : goal.returns
returns c =
    all_items (flat_map (planned_text c.args.topo.now.nodes)) c.args.rows.now c.loop-row.row-index _ _ c.loop-row-test.false c.loop-row.invariant
