use Rattle.std.proofs.Common.{◌<◌, List, ℕ, length, ap, ◌∙◌, arith}
use Rattle.std.proofs.lemmas.List.{take_all}
use Rattle.cxl_bus.specs.Trail.{blocks_sent}
use Rattle.cxl_opening.specs.Opening.{enabling}
use Rattle.cxl_opening.proofs.Enabling.{decoding_more}
use Rattle.cxl_opening.proofs.endpoints.enabled.Goals as goal

pub write32-requires : goal.write32-requires
write32-requires c =
    let low : c.loop-node.node-index < length c.args.endpoints.now = omega arith in
    let own = c.requires c.loop-node.node-index 0 low in
    let count = c.loop-node.invariant.count in
    omega (arith, own, count)

pub loop-node-preserved : goal.loop-node-preserved
loop-node-preserved c =
    let low : c.loop-node.node-index < length c.args.endpoints.now = omega arith in
    decoding_more c.args.endpoints.now c.loop-node.node-index _ _ _ low c.loop-node.invariant c.write32.ensures.left

pub returns : goal.returns
returns c =
    c.loop-node.invariant.sent
    ∙ ap (λ (nodes : List ℕ). blocks_sent c.args.image (enabling nodes)) (take_all c.loop-node.node-index c.args.endpoints.now (omega arith))
