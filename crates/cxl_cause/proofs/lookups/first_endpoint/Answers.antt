use Rattle.std.proofs.Common.{◌≡◌, ℕ, ◌&&◌, Bool, length, sym, ◌∙◌, arith}
use Rattle.cxl_topo.specs.Tree.{is_endpoint_at}
use Rattle.cxl_model.specs.Hosts.{as_system}
use Rattle.cxl_model.specs.Ranges.{serves}
use Rattle.cxl_cause.proofs.Searches.{found_first, none_more}
use Rattle.cxl_cause.proofs.lookups.first_endpoint.Goals as goal

pub returns-then-is_served : goal.returns-then-is_served
returns-then-is_served c =
    let s = as_system c.args.host.now in
    let test : ℕ → Bool = λ (n : ℕ). is_endpoint_at s.nodes n && serves s c.args.range.now n in
    sym (found_first test c.loop-node.node (length s.nodes) (omega (arith, c.loop-node-test.true, c.count-node-end.ensures.count)) c.loop-node.invariant (sym c.is_served.ensures ∙ c.if-is_served.true))

pub loop-node-preserved : goal.loop-node-preserved
loop-node-preserved c =
    let s = as_system c.args.host.now in
    none_more (λ (n : ℕ). is_endpoint_at s.nodes n && serves s c.args.range.now n) c.loop-node.node c.loop-node.invariant (sym c.is_served.ensures ∙ c.if-is_served.false)

pub returns : goal.returns
returns c =
    let whole : c.loop-node.node ≡ length c.args.host.now.topo.now.nodes = omega (arith, c.loop-node-test.false, c.count-node-end.ensures.count) in
    sym (rw whole at c.loop-node.invariant)
