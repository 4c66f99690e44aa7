use Rattle.std.proofs.Common.{ℕ, ◌+◌, ◌≤◌, List, length, take, sym, subst, ◌∙◌, arith}
use Rattle.std.proofs.lemmas.List.{take_all}
use Rattle.cxl_topo.proofs.Trees.{KnownTree}
use Rattle.cxl_plan.specs.inner.AtPorts.{is_entered, ArePortsOf}
use Rattle.cxl_plan.proofs.Tables.{no_ports, port_more, filter_alike, none_alike, no_port_entered}
use Rattle.cxl_plan.proofs.used.ports_under.Goals as goal

pub returns-then-is_endpoint : goal.returns-then-is_endpoint
returns-then-is_endpoint c =
    let nodes = c.args.topo.now.nodes in
    let tree : KnownTree nodes = record { tree = c.count-count.ensures.tree; laws = c.tree_laws.ensures.laws nodes c.count-count.ensures.tree } in
    no_ports nodes tree c.args.node (sym c.is_endpoint.ensures ∙ c.if-is_endpoint.true) c.args.nodes.now _ c.new-ports.ensures.items

pub enter_port-requires : goal.enter_port-requires
enter_port-requires c = c.requires.inside c.loop-child.child-index 0 (omega arith)

pub loop-child-init : goal.loop-child-init
loop-child-init c limit is = c.new-ports.ensures.items ∙ sym (none_alike (is_entered c.args.topo.now.nodes (take 0 c.args.nodes.now) c.args.node) (no_port_entered c.args.topo.now.nodes c.args.node) limit)

pub loop-child-preserved : goal.loop-child-preserved
loop-child-preserved c limit is =
    let nodes = c.args.topo.now.nodes in
    let entered : List ℕ = c.args.nodes.now in
    let i : ℕ = c.loop-child.child-index in
    let laws = c.tree_laws.ensures.laws nodes c.count-count.ensures.tree in
    c.in_ok-enter_port.ensures (is_entered nodes (take i entered) c.args.node) limit (omega (arith, is)) (c.loop-child.invariant limit is)
    ∙ filter_alike _ (is_entered nodes (take (i + 1) entered) c.args.node) (λ port. port_more nodes laws entered i c.args.node port (omega arith)) limit

pub returns : goal.returns
returns c =
    let past : length c.args.nodes.now ≤ c.loop-child.child-index = omega arith in
    subst (λ (xs : List ℕ). ArePortsOf c.args.topo.now.nodes xs c.args.node c.loop-child.ports.items) (take_all c.loop-child.child-index c.args.nodes.now past) c.loop-child.invariant
