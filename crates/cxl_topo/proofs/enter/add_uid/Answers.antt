use Rattle.std.proofs.Common.{◌≡◌, None, take, append-nil, ◌∙◌, sym, ap, inl, inr}
use Rattle.cxl_topo.specs.Kinds.{uid_of}
use Rattle.cxl_topo.specs.Tree.{bridge_uids}
use Rattle.cxl_topo.proofs.Entering.{bridge_uids-more}
use Rattle.cxl_topo.proofs.enter.add_uid.Goals as goal

pub returns-in_ok-push-in-Bridge : goal.returns-in_ok-push-in-Bridge
returns-in_ok-push-in-Bridge c =
    let node = c.index-nodes-i in
    let more = bridge_uids-more c.args.nodes.now c.args.i node.result c.requires.below node.is in
    c.in_ok-push-in-Bridge.ensures.items ∙ rw c.requires.listed (sym (rw c.in-Bridge.is at more))

pub returns-in-Switch : goal.returns-in-Switch
returns-in-Switch c =
    let node = c.index-nodes-i in
    let more = bridge_uids-more c.args.nodes.now c.args.i node.result c.requires.below node.is in
    let none : uid_of node.result.kind ≡ None = elim c.in-Switch.is [ inl e ↦ ap uid_of e | inr p ↦ ap uid_of p.1 ] in
    c.requires.listed ∙ sym (rw none at more ∙ append-nil (bridge_uids (take c.args.i c.args.nodes.now)))
