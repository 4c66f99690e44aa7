use Rattle.std.proofs.Common.{◌<◌, length, sym, ◌∙◌, arith}
use Rattle.cxl_commands.proofs.Holders.{selection_at, nowhere-more, position-from_slot, bridge_at}
use Rattle.cxl_commands.proofs.commands.selection.select.Goals as goal

pub returns-in-Some : goal.returns-in-Some
returns-in-Some c =
    let slot = sym c.slot_of.ensures ∙ c.in-Some.is in
    let below = c.positions.ensures.found c.window-item.result c.args.h c.in-Some.position c.index.ensures.window slot in
    let bound : c.in-Some.position < length c.window-item.result.targets = omega (arith, below, c.targets.ensures.each_way) in
    let bridge = bridge_at c.window-item.result.targets c.targets.result.now c.in-Some.position _ c.targets.ensures.value (position-from_slot c.window-item.result c.args.h c.in-Some.position slot) bound in
    selection_at c.args.windows.now c.args.h c.loop-window.window-index c.in-Some.position c.window-item.result c.index.result _ c.loop-window-test.true c.window-item.is c.loop-window.invariant slot c.index.ensures.value bridge

pub loop-window-preserved : goal.loop-window-preserved
loop-window-preserved c =
    nowhere-more c.args.windows.now c.args.h c.loop-window.window-index c.window-item.result c.loop-window-test.true c.window-item.is c.loop-window.invariant (sym c.slot_of.ensures ∙ c.in_default.is)
