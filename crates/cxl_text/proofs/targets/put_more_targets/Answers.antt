use Rattle.std.proofs.Common.{◌++◌}
use Rattle.std.specs.Prelude.{codes, decimal}
use Rattle.cxl_enc.proofs.Lists.{appended}
use Rattle.cxl_reply.specs.Plans.{more_ports_text}
use Rattle.cxl_text.proofs.Lines.{item_step, all_items}
use Rattle.cxl_text.proofs.targets.put_more_targets.Goals as goal

pub loop-uid-preserved : goal.loop-uid-preserved
loop-uid-preserved c =
    item_step (λ uid. codes "," ++ decimal uid) c.args.uids.now c.loop-uid.uid-index _ _ _ _ c.loop-uid-test.true c.loop-uid.invariant (appended _ _ _ _ _ c.in_ok-push.ensures.items (rw c.from.ensures at c.in_ok-put_number.ensures.ok))

pub returns : goal.returns
returns c =
    all_items more_ports_text c.args.uids.now c.loop-uid.uid-index _ _ c.loop-uid-test.false c.loop-uid.invariant
