-- The children of a node, and what stands under each of them.
use Rattle.std.proofs.Common.{◌≡◌, ℕ, ◌⊎◌, true, List, Some, sym, ap, ◌∙◌, inl, inr, arith}
use Rattle.std.specs.Prelude.{◌==◌}
use Rattle.std.proofs.lemmas.Bool.{or_cases, or_right, eqb-true}
use Rattle.std.proofs.lemmas.Option.{none-some, same_Some}
use Rattle.cxl_topo.specs.declared.node.Node.{Node}
use Rattle.cxl_topo.specs.declared.node.Parent.{Parent}
use Rattle.cxl_topo.specs.Tree.{parent_of}
use Rattle.cxl_topo.proofs.Trees.{KnownTree, up_tree, parent_is_port}
use Rattle.cxl_model.specs.Counts.{is_under}
use Rattle.cxl_model.proofs.Under.{under_root, under_step, under_self, under_later}

-- the child of a node at a port, under which node i stands
pub record WayDown (nodes : List Node) (n i : ℕ) : Type 0 where
  pub port : ℕ
  pub child : ℕ
  pub parent : parent_of nodes child ≡ Some (record { node = n; port = port })
  pub under : is_under nodes child i ≡ true

pub way_down : {nodes : List Node} → KnownTree nodes → (n i : ℕ) → is_under nodes n i ≡ true → (i ≡ n) ⊎ WayDown nodes n i
way_down {nodes} known n =
    up_tree known (λ i. is_under nodes n i ≡ true → (i ≡ n) ⊎ WayDown nodes n i)
    (λ i none under. inl (eqb-true i n (sym (under_root known n i none) ∙ under)))
    (λ i p some rest under.
    elim (or_cases (i == n) (is_under nodes n p.node) (sym (under_step known n i p some) ∙ under)) [
      | inl here ↦ inl (eqb-true i n here)
      | inr higher ↦ elim (rest higher) [
        | inl same ↦
            let own : p ≡ record { node = n; port = p.port } = λ k. record { node = same k; port = p.port } in
            inr (record { port = p.port; child = i; parent = some ∙ ap Some own; under = under_self known i })
        | inr way ↦ inr (record {
          port = way.port;
          child = way.child;
          parent = way.parent;
          under = under_step known way.child i p some ∙ or_right (i == way.child) (is_under nodes way.child p.node) way.under;
        })
      ]
    ])

-- a node stands under one child alone
pub one_child : {nodes : List Node} → KnownTree nodes → (c d : ℕ) (q r : Parent) → parent_of nodes c ≡ Some q → parent_of nodes d ≡ Some r → q.node ≡ r.node
    → (i : ℕ) → is_under nodes c i ≡ true → is_under nodes d i ≡ true → c ≡ d
one_child {nodes} known c d q r child other same =
    up_tree known (λ i. is_under nodes c i ≡ true → is_under nodes d i ≡ true → c ≡ d)
    (λ i none first second.
    absurd (none-some q (sym none ∙ ap (parent_of nodes) (eqb-true i c (sym (under_root known c i none) ∙ first)) ∙ child)))
    (λ i p some rest first second.
    elim (or_cases (i == c) (is_under nodes c p.node) (sym (under_step known c i p some) ∙ first)) [
      | inl here ↦ elim (or_cases (i == d) (is_under nodes d p.node) (sym (under_step known d i p some) ∙ second)) [
        | inl there ↦ sym (eqb-true i c here) ∙ eqb-true i d there
        | inr above ↦
            let at = eqb-true i c here in
            let parent : p ≡ q = same_Some p q (sym some ∙ ap (parent_of nodes) at ∙ child) in
            let node : p.node ≡ r.node = ap (λ (x : Parent). x.node) parent ∙ same in
            let low = under_later known d p.node above in
            let high = (parent_is_port known d r other).0 in
            absurd (omega (arith, node, low, high))
      ]
      | inr above ↦ elim (or_cases (i == d) (is_under nodes d p.node) (sym (under_step known d i p some) ∙ second)) [
        | inl there ↦
            let at = eqb-true i d there in
            let parent : p ≡ r = same_Some p r (sym some ∙ ap (parent_of nodes) at ∙ other) in
            let node : p.node ≡ q.node = ap (λ (x : Parent). x.node) parent ∙ sym same in
            let low = under_later known c p.node above in
            let high = (parent_is_port known c q child).0 in
            absurd (omega (arith, node, low, high))
        | inr both ↦ rest above both
      ]
    ])
