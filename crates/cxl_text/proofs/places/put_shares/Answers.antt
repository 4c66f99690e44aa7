use Rattle.std.proofs.Common.{◌++◌, List, ℕ, ap, ◌∙◌, arith}
use Rattle.cxl_reply.specs.Texts.{share_text}
use Rattle.cxl_text.proofs.Lines.{share_step, all_shares}
use Rattle.cxl_text.proofs.places.put_shares.Goals as goal

pub loop-slot-preserved : goal.loop-slot-preserved
loop-slot-preserved c =
    share_step (share_text c.args.topo.now.nodes) c.args.endpoints.now c.args.bytes.now c.loop-slot.slot _ _ _ c.loop-slot-test.true
    (omega (arith, c.loop-slot-test.true, c.requires.few)) c.loop-slot.invariant c.in_ok-put_share.ensures

pub returns : goal.returns
returns c =
    c.loop-slot.invariant
    ∙ ap (λ (t : List ℕ). c.args.out.now.items ++ t) (all_shares (share_text c.args.topo.now.nodes) c.args.endpoints.now c.args.bytes.now c.loop-slot.slot c.loop-slot-test.false (omega (arith, c.loop-slot.auto.slot-end)))
