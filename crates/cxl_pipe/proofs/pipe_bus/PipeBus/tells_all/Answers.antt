use Rattle.std.proofs.Common.{◌≡◌, ◌<◌, length, refl, arith, rules, inl}
use Rattle.cxl_pipe.proofs.Asking.{leads_from_start, block_told, block_untold, no_node_left, all_told}
use Rattle.cxl_pipe.proofs.pipe_bus.PipeBus.tells_all.Goals as goal

pub loop-node-init : goal.loop-node-init
loop-node-init g c = leads_from_start _ _ _ refl

pub loop-node-preserved : goal.loop-node-preserved
loop-node-preserved g c =
    let count : c.in-Ok.count ≡ length c.args.blocks.now = search rules in
    let within : c.loop-node.node < length c.args.blocks.now = omega (arith, count, c.loop-node-test.true) in
    block_told c.args.blocks.now c.loop-node.node c.index-blocks-node.result within c.index-blocks-node.is _ _ c.loop-node.self c.tells_block.new.self c.loop-node.invariant c.if-not-tells_block.ensures.yes c.if-not-tells_block.ensures.kept

pub returns-then-not-tells_block-clause-no : goal.returns-then-not-tells_block-clause-no
returns-then-not-tells_block-clause-no g c =
    let count : c.in-Ok.count ≡ length c.args.blocks.now = search rules in
    let within : c.loop-node.node < length c.args.blocks.now = omega (arith, count, c.loop-node-test.true) in
    inl (block_untold c.args.blocks.now c.loop-node.node c.index-blocks-node.result within c.index-blocks-node.is _ _ c.loop-node.self c.tells_block.new.self c.loop-node.invariant c.if-not-tells_block.ensures.no)

pub returns-clause-yes : goal.returns-clause-yes
returns-clause-yes g c =
    let count : c.in-Ok.count ≡ length c.args.blocks.now = search rules in
    all_told _ _ _ _ (no_node_left c.args.blocks.now c.loop-node.node (omega (arith, count, c.loop-node-test.false))) c.loop-node.invariant
