-- Where nodes stand.
use Rattle.std.proofs.Common.{◌≡◌, ℕ, zero, suc, ◌<◌, Bool, true, false, List, [], ◌∷◌, length, Option, Some, None, refl, sym, ap, subst, ◌∙◌, inl, inr, arith}
use Rattle.std.specs.Prelude.{position}
use Rattle.std.proofs.lemmas.Bool.{cases_Bool, false≢true}
use Rattle.std.proofs.lemmas.Option.{none-some, same_Some, option_and_then_some}
use Rattle.std.proofs.lemmas.List.Quantifiers.{position-Some}
use Rattle.cxl_topo.specs.declared.node.Node.{Node}
use Rattle.cxl_topo.specs.declared.node.Parent.{Parent}
use Rattle.cxl_topo.specs.Tree.{is_bridge_at, is_endpoint_at, is_port_at, forwards_at, parent_of, child_of, least_child_of, landing_within}
use Rattle.cxl_topo.specs.Faults.{IsTree}
use Rattle.cxl_topo.specs.Laws.{AreTreeLaws}
use Rattle.cxl_topo.proofs.Trees.{port_no_endpoint, parent_within}

-- a first place lies inside the list
pub position_below : {X : Type 0} (p : X → Bool) (xs : List X) (i : ℕ) → position p xs ≡ Some i → i < length xs
position_below p [] i is = absurd (none-some i is)
position_below p (x ∷ xs) i is = (position-Some p (x ∷ xs) i x is).0

pub landing_below : (k : ℕ) (nodes : List Node) (n m : ℕ) → n < length nodes → landing_within k nodes n ≡ Some m → m < length nodes
landing_below zero nodes n m below is = absurd (none-some m is)
landing_below (suc k) nodes n m below is =
    elim (cases_Bool (forwards_at nodes n)) [
      | inl forwards ↦
          let further = rw forwards at is in
          option_and_then_some (landing_within k nodes) (least_child_of nodes n) m further
          (λ child there lands. landing_below k nodes child m (position_below _ nodes child there) lands)
      | inr own ↦
          let same : n ≡ m = same_Some n m (rw own at is) in
          subst (λ (j : ℕ). j < length nodes) same below
    ]

-- a child comes after its parent
pub record IsBelow (nodes : List Node) (n c : ℕ) : Type 0 where
  pub later : n < c
  pub inside : c < length nodes

module _ (nodes : List Node) (tree : IsTree nodes) where
  no_bridge : (c : ℕ) (parent : Parent) → parent_of nodes c ≡ Some parent → is_bridge_at nodes c ≡ false
  no_bridge c parent is =
      elim (cases_Bool (is_bridge_at nodes c)) [
        | inl bridge ↦ absurd (none-some parent (sym (tree.bridges c bridge) ∙ is))
        | inr other ↦ other
      ]

  pub below_parent : (c : ℕ) (parent : Parent) → parent_of nodes c ≡ Some parent → IsBelow nodes parent.node c
  below_parent c parent is =
      let inside = parent_within nodes c parent is in
      let up = tree.others c inside (no_bridge c parent is) in
      let one : up.0 ≡ parent = same_Some up.0 parent (sym up.1 ∙ is) in
      let at : up.0.node ≡ parent.node = ap (λ (p : Parent). p.node) one in
      let earlier = up.2.earlier in
      record { later = omega arith; inside = inside }

  -- an endpoint has no child
  pub no_child : AreTreeLaws nodes → (n port : ℕ) → is_endpoint_at nodes n ≡ true → child_of nodes n port ≡ None
  no_child laws n port endpoint = go (child_of nodes n port) refl
    where
      go : (o : Option ℕ) → child_of nodes n port ≡ o → child_of nodes n port ≡ None
      go None e = e
      go (Some c) e =
          let stands = (laws.children n port c).0 e in
          let up = tree.others c (parent_within nodes c _ stands) (no_bridge c _ stands) in
          let one : up.0.node ≡ n = ap (λ (p : Parent). p.node) (same_Some up.0 _ (sym up.1 ∙ stands)) in
          absurd (false≢true (sym (port_no_endpoint nodes n (subst (λ (m : ℕ). is_port_at nodes m ≡ true) one up.2.port)) ∙ endpoint))
