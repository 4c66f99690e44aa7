use Rattle.std.proofs.Common.{◌≤◌, List, [], length, Option, ap, ◌∙◌, arith}
use Rattle.std.specs.Prelude.{slice_get}
use Rattle.std.specs.Option.{option_map_or}
use Rattle.std.proofs.lemmas.Option.{slice_get_past}
use Rattle.cxl_regs.specs.Registers.{Registers}
use Rattle.cxl_walk.proofs.RegionLists.{all_met, no_block, node_done}
use Rattle.cxl_walk.proofs.gathering.gather_node.Goals as goal

pub returns-then-node-count : goal.returns-then-node-count
returns-then-node-count c =
    let blocks : List Registers = c.args.image.now in
    let past : length blocks ≤ c.args.node = omega (arith, c.if-node-count.true, c.count.ensures.count) in
    node_done blocks c.args.founds.now c.args.node 0 c.args.owns.now.items
    (λ r own are. no_block blocks r c.args.node own (slice_get_past blocks c.args.node past) are)
    c.requires.before

pub gather_decoder-requires-clause-there : goal.gather_decoder-requires-clause-there
gather_decoder-requires-clause-there c =
    ap (λ (o : Option Registers). slice_get (option_map_or (λ block. block.decoders) o []) c.loop-index.index) c.block-block.ensures.value ∙ c.decoder.ensures.value

pub returns : goal.returns
returns c =
    let blocks : List Registers = c.args.image.now in
    let block : Registers = c.block-block.result.now in
    let all : length block.decoders ≤ c.loop-index.index = omega (arith, c.count-index-end.ensures.value) in
    node_done blocks c.args.founds.now c.args.node c.loop-index.index c.loop-index.owns.items
    (λ r own are. all_met blocks r c.args.node block c.loop-index.index own c.block-block.ensures.value all are)
    c.loop-index.invariant

pub gather_decoder-requires-clause-rising : goal.gather_decoder-requires-clause-rising
gather_decoder-requires-clause-rising c = c.requires.rising
