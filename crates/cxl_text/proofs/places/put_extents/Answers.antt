use Rattle.std.proofs.lemmas.Result.{IfOk-from_err}
use Rattle.std.specs.List.{flat_map}
use Rattle.cxl_reply.specs.Texts.{extent_text}
use Rattle.cxl_text.proofs.Lines.{item_step, all_items}
use Rattle.cxl_text.proofs.places.put_extents.Goals as goal

pub returns-in_err-put_extent : goal.returns-in_err-put_extent
returns-in_err-put_extent c = IfOk-from_err c.from_residual.result _ c.from_residual.ensures.0

pub loop-extent-preserved : goal.loop-extent-preserved
loop-extent-preserved c =
    item_step (extent_text c.args.topo.now.nodes c.items-endpoints.result.now) c.items-extent-items.result.now c.loop-extent.extent-index _ _ _ _ c.loop-extent-test.true c.loop-extent.invariant c.in_ok-put_extent.ensures

pub returns : goal.returns
returns c =
    rw (c.items-endpoints.ensures, c.items-extent-items.ensures) at (all_items (flat_map (extent_text c.args.topo.now.nodes c.items-endpoints.result.now)) c.items-extent-items.result.now c.loop-extent.extent-index _ _ c.loop-extent-test.false c.loop-extent.invariant)
