use Rattle.std.proofs.Common.{◌++◌, [], ◌∷◌, take, sym, ap, ◌∙◌, arith}
use Rattle.std.proofs.lemmas.List.{take_more}
use Rattle.cxl_topo.specs.declared.node.Node.{Node}
use Rattle.cxl_topofile.proofs.attach.add_bridge_nodes.Goals as goal

pub loop-bridge-preserved : goal.loop-bridge-preserved
loop-bridge-preserved c =
    let taken = take c.loop-bridge.bridge-index c.args.bridges.now in
    let node = c.bridge-item.result in
    record {
      same = c.in_ok-add_node.ensures.added ∙ ap (λ nodes. nodes ++ node ∷ []) c.loop-bridge.invariant.same ∙ ap (λ (n : Node). taken ++ n ∷ []) c.bridge-item.is
          ∙ sym (take_more c.args.bridges.now c.loop-bridge.bridge-index node (omega arith));
      listed = c.in_ok-add_node.ensures.listed;
    }
