use Rattle.std.proofs.Common.{◌≡◌, ℕ, ◌+◌, ◌-◌, ◌≤◌, List, length, Option, Some, None, refl, sym, ap, subst, ◌∙◌, arith}
use Rattle.std.specs.List.{filter_map, range_with_len}
use Rattle.cxl_topo.specs.declared.node.Node.{Node}
use Rattle.cxl_topo.specs.declared.node.Parent.{Parent}
use Rattle.cxl_topo.specs.Tree.{child_of, parent_of}
use Rattle.cxl_topo.specs.Laws.{AreTreeLaws}
use Rattle.cxl_topo.proofs.Trees.{KnownTree, parent_within, parent_is_port}
use Rattle.cxl_model.specs.Hosts.{as_system}
use Rattle.cxl_model.specs.System.{System}
use Rattle.cxl_pick.specs.Picking.{gives}
use Rattle.cxl_reason.specs.declared.gifts.Counts.{Counts}
use Rattle.cxl_reason.specs.inner.Gifts.{AreCounts}
use Rattle.cxl_reason.proofs.Levels.{port_one, endpoint_one}
use Rattle.cxl_reason.proofs.Offers.{counts_same, few_offers, no_child, one_child, no_more_children}
use Rattle.cxl_reason.proofs.serving.+counts_of.Goals as goal
use Rattle.cxl_reason.proofs.serving.+counts_of.Goals.{in-Some, in_default}

pub returns-then-is_endpoint : goal.returns-then-is_endpoint
returns-then-is_endpoint t c =
    let s : System = as_system c.args.host.now in
    let known : KnownTree s.nodes = record { tree = c.requires.ready.system.tree; laws = c.tree_laws.ensures.laws s.nodes c.requires.ready.system.tree } in
    counts_same c.endpoint_counts.result _ _ (λ m. endpoint_one s known c.args.want.now c.args.w.now c.args.start c.args.node m c.requires.here (sym c.is_endpoint.ensures ∙ c.if-is_endpoint.true)) c.endpoint_counts.ensures

pub counts_of-own-requires : goal.counts_of-own-requires
counts_of-own-requires t c =
    let s : System = as_system c.args.host.now in
    let known : KnownTree s.nodes = record { tree = c.requires.ready.system.tree; laws = c.tree_laws.ensures.laws s.nodes c.requires.ready.system.tree } in
    let place : Parent = record { node = c.args.node; port = c.loop-port.port } in
    let parent : parent_of s.nodes c.in-Some.child ≡ Some place = (c.in-Some.ensures.stands c.in-Some.child).0 refl in
    let later = (parent_is_port known c.in-Some.child place parent).0 in
    let within = parent_within s.nodes c.in-Some.child place parent in
    (omega (arith, later, within, c.decreases), (c.requires.ready, (c.requires.sound, (c.requires.highest, within))))

pub plus-counts-requires-clause-many : goal.plus-counts-requires-clause-many
plus-counts-requires-clause-many t c =
    let s : System = as_system c.args.host.now in
    let test = c.loop-port-test.true in
    let end = c.from-port-end.ensures in
    let high = c.ranges.highest in (
      _,
      c.loop-port.invariant,
      λ v.
          let few = few_offers (λ k. gives s c.args.want.now c.args.w.now c.args.start k v) (child_of s.nodes c.args.node) c.loop-port.port in
          omega (arith, few, test, end, high),
    )

pub loop-port-preserved : goal.loop-port-preserved
loop-port-preserved t c =
    let s : System = as_system c.args.host.now in
    let have : ℕ → ℕ → ℕ = λ port v. length (filter_map (λ k. gives s c.args.want.now c.args.w.now c.args.start k v) (filter_map (child_of s.nodes c.args.node) (range_with_len 0 port))) in
    elim c.match-child.branch [
      | in-Some w ↦
          subst (λ (counts : Counts). AreCounts counts (have (c.loop-port.port + 1))) (sym w.counts-is)
          (counts_same w.plus-counts.result _ (have (c.loop-port.port + 1)) (λ v. one_child (λ k. gives s c.args.want.now c.args.w.now c.args.start k v) (child_of s.nodes c.args.node) c.loop-port.port w.in-Some.child (sym w.in-Some.ensures.child))
          (w.plus-counts.ensures (have c.loop-port.port) _ c.loop-port.invariant w.counts_of-own.ensures))
      | in_default w ↦
          subst (λ (counts : Counts). AreCounts counts (have (c.loop-port.port + 1))) (sym w.counts-is)
          (counts_same c.loop-port.counts (have c.loop-port.port) (have (c.loop-port.port + 1)) (λ v. no_child (λ k. gives s c.args.want.now c.args.w.now c.args.start k v) (child_of s.nodes c.args.node) c.loop-port.port (sym w.in_default.ensures.child)) c.loop-port.invariant)
    ]

-- no child stands above the highest port
none_above : (nodes : List Node) → AreTreeLaws nodes → (n highest : ℕ) → ((c : ℕ) (parent : Parent) → parent_of nodes c ≡ Some parent → parent.port ≤ highest)
    → (port : ℕ) → highest + 1 ≤ port → child_of nodes n port ≡ None
none_above nodes laws n highest below port above = go (child_of nodes n port) refl
  where
    go : (o : Option ℕ) → child_of nodes n port ≡ o → o ≡ None
    go None at = refl
    go (Some c) at =
        let low = below c (record { node = n; port = port }) ((laws.children n port c).0 at) in
        absurd (omega (arith, low, above))

pub port_counts-requires-clause-offers : goal.port_counts-requires-clause-offers
port_counts-requires-clause-offers t c =
    let s : System = as_system c.args.host.now in
    let laws = c.tree_laws.ensures.laws s.nodes c.requires.ready.system.tree in
    let highest : ℕ = c.args.highest in
    let most = c.loop-port.auto.port-end in
    let least = c.loop-port-test.false in
    let from = c.from-port-end.ensures in
    let few = c.ranges.highest in
    let end : c.loop-port.port ≡ highest + 1 = omega (arith, most, least, from) in
    let all : highest + 1 + (255 - highest) ≡ 256 = omega (arith, few) in
    let children : filter_map (child_of s.nodes c.args.node) (range_with_len 0 c.loop-port.port) ≡ filter_map (child_of s.nodes c.args.node) (range_with_len 0 256) =
    ap (λ (n : ℕ). filter_map (child_of s.nodes c.args.node) (range_with_len 0 n)) end
    ∙ no_more_children (child_of s.nodes c.args.node) (highest + 1) (255 - highest) (none_above s.nodes laws c.args.node highest c.requires.highest)
    ∙ ap (λ (n : ℕ). filter_map (child_of s.nodes c.args.node) (range_with_len 0 n)) all in
    counts_same c.loop-port.counts _ _ (λ v. ap (λ (cs : List ℕ). length (filter_map (λ k. gives s c.args.want.now c.args.w.now c.args.start k v) cs)) children) c.loop-port.invariant

pub returns : goal.returns
returns t c =
    let s : System = as_system c.args.host.now in
    let known : KnownTree s.nodes = record { tree = c.requires.ready.system.tree; laws = c.tree_laws.ensures.laws s.nodes c.requires.ready.system.tree } in
    counts_same c.port_counts.result _ _ (λ m. port_one s known c.args.want.now c.args.w.now c.args.start c.args.node m c.requires.here (sym c.is_endpoint.ensures ∙ c.if-is_endpoint.false)) c.port_counts.ensures
