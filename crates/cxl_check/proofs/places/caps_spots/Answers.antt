use Rattle.std.proofs.Common.{◌≡◌, length, arith, sym, ◌∙◌}
use Rattle.cxl_model.specs.Hosts.{as_system}
use Rattle.cxl_model.specs.Accepted.{breaks_caps}
use Rattle.cxl_model.proofs.Breaches.{caps_past_decoder}
use Rattle.cxl_check.proofs.CapWords.{as_caps, past, word_is, first_node, first_of_all}
use Rattle.cxl_check.proofs.Spots.{no_spots, next_node, all_spots}
use Rattle.cxl_check.proofs.places.caps_spots.Goals as goal

pub returns-then-count : goal.returns-then-count
returns-then-count c =
    let s = as_system c.args.host.now in
    let differ = λ (same : length c.args.host.now.image.now ≡ length c.args.host.now.topo.now.nodes). c.if-count.true (c.count.ensures.count ∙ same ∙ sym c.count-2.ensures.count) in
    let one = c.in_ok-add_spot.ensures (breaks_caps s) (first_of_all s differ) (rw c.new-spots.ensures.items (no_spots (breaks_caps s) 1)) in
    all_spots (breaks_caps s) 1 s 1 _ (as_caps s) (first_node s differ) (next_node (breaks_caps s) 1 0 1 _ (caps_past_decoder s 0) one)

pub loop-node-init : goal.loop-node-init
loop-node-init c = rw c.new-spots.ensures.items (no_spots (breaks_caps (as_system c.args.host.now)) 1)

pub block-requires : goal.block-requires
block-requires c = omega (arith, c.loop-node-test.true, c.count.ensures.count, c.count-2.ensures.count, c.if-count.false, c.count-node-end.ensures.count)

pub loop-node-preserved : goal.loop-node-preserved
loop-node-preserved c =
    let s = as_system c.args.host.now in
    let count : length c.args.host.now.image.now ≡ length c.args.host.now.topo.now.nodes = omega (arith, c.if-count.false, c.count.ensures.count, c.count-2.ensures.count) in
    next_node (breaks_caps s) 1 c.loop-node.node 1 _ (caps_past_decoder s c.loop-node.node)
    (c.in_ok-add_spot-2.ensures (breaks_caps s) (rw c.cap.ensures.value (word_is s count c.loop-node.node c.block.result.now c.node.result.now c.block.ensures.value c.node.ensures)) c.loop-node.invariant)

pub returns : goal.returns
returns c =
    let s = as_system c.args.host.now in
    let count : length c.args.host.now.image.now ≡ length c.args.host.now.topo.now.nodes = omega (arith, c.if-count.false, c.count.ensures.count, c.count-2.ensures.count) in
    all_spots (breaks_caps s) 1 s c.loop-node.node _ (as_caps s) (λ m i from. past s count m i (omega (arith, from))) c.loop-node.invariant
