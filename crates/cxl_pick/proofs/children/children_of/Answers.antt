use Rattle.std.proofs.Common.{◌≡◌, ℕ, ◌+◌, ◌-◌, ◌≤◌, List, Option, Some, None, Vec, Global, refl, sym, ap, subst, arith, ◌∙◌}
use Rattle.std.specs.List.{filter_map, range_with_len}
use Rattle.cxl_topo.specs.declared.node.Node.{Node}
use Rattle.cxl_topo.specs.declared.node.Parent.{Parent}
use Rattle.cxl_topo.specs.Tree.{parent_of, child_of}
use Rattle.cxl_topo.specs.Laws.{AreTreeLaws}
use Rattle.cxl_pick.proofs.Walking.{some_port, no_port, no_more_ports}
use Rattle.cxl_pick.proofs.children.children_of.Goals as goal
use Rattle.cxl_pick.proofs.children.children_of.Goals.{in-Some+in_ok-push, in_default}

pub loop-port-preserved : goal.loop-port-preserved
loop-port-preserved c =
    elim c.match-child.branch [
      | in-Some+in_ok-push w ↦
          ap (λ (v : Vec ℕ Global). v.items) w.own-is ∙ w.in_ok-push.ensures.items
          ∙ some_port (child_of c.args.topo.now.nodes c.args.node) c.loop-port.port w.in-Some.child c.loop-port.own.items c.loop-port.invariant (sym w.in-Some.ensures.child)
      | in_default w ↦
          ap (λ (v : Vec ℕ Global). v.items) w.own-is
          ∙ no_port (child_of c.args.topo.now.nodes c.args.node) c.loop-port.port c.loop-port.own.items c.loop-port.invariant (sym w.in_default.ensures.child)
    ]

-- no child stands above the highest port
no_child : (nodes : List Node) → AreTreeLaws nodes → (n highest : ℕ) → ((c : ℕ) (parent : Parent) → parent_of nodes c ≡ Some parent → parent.node ≡ n → parent.port ≤ highest)
    → (port : ℕ) → highest + 1 ≤ port → child_of nodes n port ≡ None
no_child nodes laws n highest below port above = go (child_of nodes n port) refl
  where
    go : (o : Option ℕ) → child_of nodes n port ≡ o → o ≡ None
    go None at = refl
    go (Some c) at =
        let low = below c (record { node = n; port = port }) ((laws.children n port c).0 at) refl in
        absurd (omega (arith, low, above))

pub returns : goal.returns
returns c =
    let nodes : List Node = c.args.topo.now.nodes in
    let laws = c.tree_laws.ensures.laws nodes c.count-count.ensures.tree in
    let highest : ℕ = c.args.highest in
    let most = c.loop-port.auto.port-end in
    let least = c.loop-port-test.false in
    let from = c.from-port-end.ensures in
    let few = c.ranges.highest in
    let end : c.loop-port.port ≡ highest + 1 = omega (arith, most, least, from) in
    let all : highest + 1 + (255 - highest) ≡ 256 = omega (arith, few) in
    let is = subst (λ (n : ℕ). c.loop-port.own.items ≡ filter_map (child_of nodes c.args.node) (range_with_len 0 n)) end c.loop-port.invariant in
    record {
      is = subst (λ (n : ℕ). c.loop-port.own.items ≡ filter_map (child_of nodes c.args.node) (range_with_len 0 n)) all
          (no_more_ports (child_of nodes c.args.node) (highest + 1) (255 - highest) c.loop-port.own.items (no_child nodes laws c.args.node highest c.requires.highest) is);
    }
