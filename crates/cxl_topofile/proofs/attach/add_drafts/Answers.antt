use Rattle.std.proofs.Common.{◌≡◌, ◌++◌, [], ◌∷◌, length, sym, ap, ◌∙◌, arith}
use Rattle.std.proofs.lemmas.List.{length_push}
use Rattle.cxl_topofile.specs.File.{node_under}
use Rattle.cxl_topofile.proofs.Attaching.{attached_more, attached_all}
use Rattle.cxl_topofile.proofs.attach.add_drafts.Goals as goal

pub loop-draft-preserved : goal.loop-draft-preserved
loop-draft-preserved c =
    let before = c.loop-draft.nodes.items in
    let node = node_under before c.draft-item.result in
    let is = c.node_under-node.ensures before c.loop-draft.invariant.listed in
    let more : c.add_node.new.nodes.items ≡ before ++ node ∷ [] = c.in_ok-add_node.ensures.added ∙ ap (λ node. before ++ node ∷ []) is in
    record {
      same = rw more (sym (attached_more before c.args.drafts.now c.loop-draft.draft-index c.draft-item.result (omega arith) c.draft-item.is) ∙ c.loop-draft.invariant.same);
      len = omega (arith, ap length more, length_push before node, c.loop-draft.invariant.len);
      listed = c.in_ok-add_node.ensures.listed;
    }

pub returns : goal.returns
returns c = sym (attached_all c.loop-draft.nodes.items c.args.drafts.now c.loop-draft.draft-index (omega arith)) ∙ c.loop-draft.invariant.same
