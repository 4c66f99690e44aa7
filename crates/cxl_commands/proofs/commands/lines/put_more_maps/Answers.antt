use Rattle.std.proofs.Common.{◌++◌}
use Rattle.std.specs.Prelude.{codes}
use Rattle.cxl_enc.proofs.Lists.{appended}
use Rattle.cxl_reply.specs.Words.{hex_text}
use Rattle.cxl_text.proofs.Lines.{item_step, all_items}
use Rattle.cxl_commands.specs.commands.Lines.{more_maps_text}
use Rattle.cxl_commands.proofs.commands.lines.put_more_maps.Goals as goal

pub loop-map-preserved : goal.loop-map-preserved
loop-map-preserved c =
    item_step (λ map. codes "," ++ hex_text map) c.args.maps.now c.loop-map.map-index _ _ _ _ c.loop-map-test.true c.loop-map.invariant (appended _ _ _ _ _ c.in_ok-push.ensures.items c.in_ok-put_address.ensures.ok)

pub returns : goal.returns
returns c =
    all_items more_maps_text c.args.maps.now c.loop-map.map-index _ _ c.loop-map-test.false c.loop-map.invariant
