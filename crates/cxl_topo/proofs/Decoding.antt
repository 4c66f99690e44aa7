-- The way from a node up to its decoding parent.
use Rattle.std.proofs.Common.{◌≡◌, ℕ, suc, ◌<◌, ◌≤◌, Bool, true, false, not, List, length, get_or, Option, Some, sym, ap, subst, ◌∙◌, arith}
use Rattle.std.specs.Prelude.{find}
use Rattle.cxl_topo.specs.declared.node.Node.{Node}
use Rattle.cxl_topo.specs.declared.node.Parent.{Parent}
use Rattle.cxl_topo.specs.Tree.{forwards_at, parent_of, decoding_port_of}
use Rattle.cxl_topo.specs.Faults.{IsTree}
use Rattle.cxl_topo.proofs.PathsUp.{ports_from, height_of, height_falls, ports_above-more}
use Rattle.cxl_topo.proofs.PathsDown.{forwards_is}
use Rattle.cxl_topo.proofs.PathSteps.{parent_at}
use Rattle.cxl_topo.proofs.Leading.{sound}

abbrev pub decodes : List Node → Parent → Bool
decodes nodes parent = not (forwards_at nodes parent.node)

-- the decoding port of node i is found from this port up
pub record IsAbove (nodes : List Node) (i : ℕ) (at : Option Parent) : Type 0 where
  pub low : height_of at ≤ i
  pub same : find (decodes nodes) (ports_from nodes at) ≡ decoding_port_of nodes i

module _ (nodes : List Node) (tree : IsTree nodes) (i : ℕ) where
  pub above : (d : Node) → i < length nodes → IsAbove nodes i (get_or nodes i d).parent
  above d lt = subst (IsAbove nodes i) (parent_at nodes i d lt) (record {
    low = height_falls nodes i (λ k le. sound nodes tree k) i (omega arith);
    same = ap (find (decodes nodes)) (sym (ports_above-more nodes i (λ k le. sound nodes tree k) i (omega arith)));
  })

  module _ (parent : Parent) (node : Node) (is : node ≡ get_or nodes parent.node node) (lt : parent.node < length nodes) (at : IsAbove nodes i (Some parent)) where
    next : node.parent ≡ parent_of nodes parent.node
    next = sym (parent_at nodes parent.node node lt ∙ ap (λ (own : Node). own.parent) (sym is))

    forwards_there : forwards_at nodes parent.node ≡ node.forwards
    forwards_there = forwards_is nodes tree parent.node node lt ∙ ap (λ (own : Node). own.forwards) (sym is)

    falls : height_of (parent_of nodes parent.node) ≤ parent.node
    falls = height_falls nodes parent.node (λ k le. sound nodes tree k) parent.node (omega arith)

    pub passes_on : node.forwards ≡ true → IsAbove nodes i node.parent
    passes_on forward = subst (IsAbove nodes i) (sym next) (record {
      low = let low = at.low in let less = falls in omega arith;
      same =
          let here = forwards_there ∙ forward in
          ap (find (decodes nodes)) (sym (ports_above-more nodes parent.node (λ k le. sound nodes tree k) parent.node (omega arith))) ∙ rw here at at.same;
    })

    pub lower : suc (height_of node.parent) ≤ suc parent.node
    lower = let less = subst (λ (o : Option Parent). height_of o ≤ parent.node) (sym next) falls in omega arith

    pub decodes_there : node.forwards ≡ false → forwards_at nodes parent.node ≡ false
    decodes_there stays = forwards_there ∙ stays

    pub decodes_here : node.forwards ≡ false → Some parent ≡ decoding_port_of nodes i
    decodes_here stays =
        let here = forwards_there ∙ stays in
        rw here at at.same
