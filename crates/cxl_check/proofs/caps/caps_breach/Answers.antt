use Rattle.std.proofs.Common.{◌≡◌, ◌≤◌, ℕ, false, length, sym, ◌∙◌, arith, below_more}
use Rattle.cxl_model.specs.Hosts.{as_system}
use Rattle.cxl_model.specs.Accepted.{breaks_caps}
use Rattle.cxl_check.proofs.CapWords.{first_of_count, word_kept, all_kept, first_of_words}
use Rattle.cxl_check.proofs.caps.caps_breach.Goals as goal

pub returns-then-count-clause-first : goal.returns-then-count-clause-first
returns-then-count-clause-first c =
    first_of_count (as_system c.args.host.now) (λ same. c.if-count.true (c.count.ensures.count ∙ same ∙ sym c.count-2.ensures.count))

pub loop-node-init : goal.loop-node-init
loop-node-init c = λ n i less. absurd (omega (arith, less))

pub block-requires : goal.block-requires
block-requires c = omega (arith, c.loop-node-test.true, c.count.ensures.count, c.count-2.ensures.count, c.if-count.false, c.count-node-end.ensures.count)

pub node-requires : goal.node-requires
node-requires c = omega (arith, c.loop-node-test.true, c.count-node-end.ensures.count)

pub loop-node-preserved : goal.loop-node-preserved
loop-node-preserved c =
    let s = as_system c.args.host.now in
    let count : length c.args.host.now.image.now ≡ length c.args.host.now.topo.now.nodes = omega (arith, c.if-count.false, c.count.ensures.count, c.count-2.ensures.count) in
    λ n i. below_more (λ (m : ℕ). breaks_caps s m i ≡ false) c.loop-node.node (λ m less. c.loop-node.invariant m i less)
    (word_kept s count c.loop-node.node i c.block.result.now c.node.result.now c.block.ensures.value c.node.ensures (sym c.cap.ensures.value ∙ c.if-cap-node.false)) n

pub returns-then-cap-node-clause-first : goal.returns-then-cap-node-clause-first
returns-then-cap-node-clause-first c =
    let count : length c.args.host.now.image.now ≡ length c.args.host.now.topo.now.nodes = omega (arith, c.count.ensures.count, c.count-2.ensures.count) in
    first_of_words (as_system c.args.host.now) count c.loop-node.node c.block.result.now c.node.result.now c.block.ensures.value c.node.ensures
    (λ same. c.if-cap-node.true (c.cap.ensures.value ∙ same)) c.loop-node.invariant

pub returns-clause-none : goal.returns-clause-none
returns-clause-none c =
    let count : length c.args.host.now.image.now ≡ length c.args.host.now.topo.now.nodes = omega (arith, c.count.ensures.count, c.count-2.ensures.count) in
    let past : length c.args.host.now.topo.now.nodes ≤ c.loop-node.node = omega arith in
    all_kept (as_system c.args.host.now) count (λ n i below. c.loop-node.invariant n i (omega arith))
