use Rattle.std.proofs.Common.{◌≡◌, ℕ, List, Vec, Global, length, get_or, ap, subst, ◌∙◌, arith}
use Rattle.cxl_plan.specs.inner.Uses.{ports_at}
use Rattle.cxl_plan.specs.inner.AtPorts.{ArePortsOf}
use Rattle.cxl_plan.proofs.Tables.{each_more, length_end, ports_listed}
use Rattle.cxl_plan.proofs.used.used_ports.Goals as goal

pub ports_under-requires-clause-here : goal.ports_under-requires-clause-here
ports_under-requires-clause-here c = c.requires c.loop-node.node-index 0 (omega arith)

pub loop-node-preserved : goal.loop-node-preserved
loop-node-preserved c =
    let nodes = c.args.topo.now.nodes in
    let own : Vec ℕ Global = c.in_ok-ports_under.field-0 in
    let i : ℕ = c.loop-node.node-index in
    let longer = ap length c.in_ok-push.ensures.items ∙ length_end c.loop-node.ports.items own in
    let before = c.loop-node.invariant.0 in
    let laws = c.tree_laws.ensures.laws nodes c.count-count.ensures.tree in (
      omega (arith, longer, before),
      λ request listed. each_more (λ k (it : Vec ℕ Global). it.items ≡ ports_at nodes request (get_or c.args.nodes.now k 0)) c.loop-node.ports.items c.push.new.self.items i own before (c.loop-node.invariant.1 request listed) c.in_ok-push.ensures.items
          (ports_listed nodes laws request (get_or c.args.nodes.now i 0) own.items (subst (λ (xs : List ℕ). ArePortsOf nodes xs (get_or c.args.nodes.now i 0) own.items) listed c.in_ok-ports_under.ensures)),
    )

pub returns : goal.returns
returns c request listed = let before = c.loop-node.invariant.0 in
    record { count = omega (arith, before); each = c.loop-node.invariant.1 request listed }
