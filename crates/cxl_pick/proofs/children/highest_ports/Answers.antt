use Rattle.std.proofs.Common.{◌<◌, List, length, sym, ap, ◌∙◌, inl, inr, arith}
use Rattle.std.proofs.lemmas.Bool.{cases_eq}
use Rattle.cxl_topo.specs.declared.node.Node.{Node}
use Rattle.cxl_topo.specs.Tree.{parent_of}
use Rattle.cxl_topo.proofs.Trees.{KnownTree, parent_within, parent_is_port}
use Rattle.cxl_pick.proofs.children.highest_ports.Goals as goal

pub loop-node-preserved : goal.loop-node-preserved
loop-node-preserved c =
    let nodes : List Node = c.args.topo.now.nodes in
    let tree = c.count.ensures.tree in
    let known : KnownTree nodes = record { tree = tree; laws = c.tree_laws.ensures.laws nodes tree } in
    let long = c.loop-node.invariant.0 in (
      c.raise_parent.ensures.count ∙ long,
      λ k parent less is.
          let lower = (parent_is_port known k parent is).0 in
          let within = parent_within nodes k parent is in
          let here : parent.node < length c.loop-node.highest.items = omega (arith, long, lower, within) in
          elim (cases_eq k c.loop-node.node) [
            | inl same ↦ c.raise_parent.ensures.raised parent (ap (parent_of nodes) (sym same) ∙ is) here
            | inr other ↦
                let before = c.loop-node.invariant.1 k parent (omega (arith, less, other)) is in
                let kept = c.raise_parent.ensures.kept parent.node here in
                omega (arith, before, kept)
          ],
    )

pub returns-clause-highest : goal.returns-clause-highest
returns-clause-highest c = λ k parent is.
    let within = parent_within c.args.topo.now.nodes k parent is in
    c.loop-node.invariant.1 k parent (omega (arith, within, c.count-node-end.ensures.count, c.loop-node.auto.node-end, c.loop-node-test.false)) is
