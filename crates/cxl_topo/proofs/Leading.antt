-- The path of a node leads from its bridge down to it.
use Rattle.std.proofs.Common.{◌≡◌, ℕ, zero, suc, ◌<◌, ◌≤◌, true, false, List, [], ◌∷◌, ◌++◌, length, take, Option, Some, None, option_map, refl, sym, ap, subst, ◌∙◌, inl, inr, arith}
use Rattle.std.specs.Prelude.{slice_get}
use Rattle.std.proofs.lemmas.Bool.{cases_Bool}
use Rattle.std.proofs.lemmas.Option.{none-some}
use Rattle.cxl_topo.specs.declared.node.Node.{Node}
use Rattle.cxl_topo.specs.declared.node.Parent.{Parent}
use Rattle.cxl_topo.specs.declared.fault.TreeFault.TheVariants as faults
use Rattle.cxl_topo.specs.Tree.{holds_at, is_bridge_at, parent_of, path_of, GoesDownTo, IsPathTo}
use Rattle.cxl_topo.specs.Faults.{lacks_parent, IsTree, IsUnder, NoneBefore}
use Rattle.cxl_topo.proofs.PathsUp.{parent_under, path_from, path_of-more, ports_above-few, length-path_of}
use Rattle.cxl_topo.proofs.Fitting.{tree_fits}

-- one more node at the end
leads_more : (nodes : List Node) (i : ℕ) (parent : Parent) (path : List ℕ) → parent_of nodes i ≡ Some parent → GoesDownTo nodes parent.node path → GoesDownTo nodes i (path ++ i ∷ [])
leads_more nodes i parent [] is leads = absurd leads
leads_more nodes i parent (n ∷ []) is leads = (ap (option_map (λ (parent : Parent). parent.node)) is ∙ ap Some (sym leads), refl)
leads_more nodes i parent (n ∷ m ∷ ns) is leads = (leads.0, leads_more nodes i parent (m ∷ ns) is leads.1)

first_stays : (path : List ℕ) (n i : ℕ) → slice_get path 0 ≡ Some n → slice_get (path ++ i ∷ []) 0 ≡ Some n
first_stays [] n i e = absurd (none-some n e)
first_stays (m ∷ ms) n i e = e

path_more : (nodes : List Node) (i : ℕ) (parent : Parent) → parent_of nodes i ≡ Some parent → IsPathTo nodes parent.node (path_of nodes parent.node) → IsPathTo nodes i (path_of nodes parent.node ++ i ∷ [])
path_more nodes i parent is path = record {
  bridge = (path.bridge.0, first_stays (path_of nodes parent.node) path.bridge.0 i path.bridge.1, path.bridge.2);
  leads = leads_more nodes i parent (path_of nodes parent.node) is path.leads;
}

module _ (nodes : List Node) (tree : IsTree nodes) where
  pub sound : (k : ℕ) → holds_at nodes k (lacks_parent (take k nodes)) ≡ false
  sound k = tree_fits nodes tree (faults.NoParent k)

  pub none_before : (turn : ℕ) → NoneBefore nodes turn
  none_before turn fault lt = tree_fits nodes tree fault

  -- a node without a parent is a bridge
  root_is_bridge : (i : ℕ) → i < length nodes → parent_of nodes i ≡ None → is_bridge_at nodes i ≡ true
  root_is_bridge i below none =
      elim (cases_Bool (is_bridge_at nodes i)) [
        | inl b ↦ b
        | inr b ↦ let one = tree.others i below b in absurd (none-some one.0 (sym none ∙ one.1))
      ]

  -- a parent is an earlier bridge or switch
  pub parent_is_under : (i : ℕ) (parent : Parent) → parent_of nodes i ≡ Some parent → IsUnder nodes i parent
  parent_is_under i parent is = (parent_under nodes i parent (sound i) is).1

  leads_within : (n i : ℕ) → i < n → i < length nodes → IsPathTo nodes i (path_of nodes i)
  leads_within zero i lt below = absurd (omega arith)
  leads_within (suc n) i lt below = subst (IsPathTo nodes i) (sym (path_of-more nodes i (λ k le. sound k) i (omega arith))) (go (parent_of nodes i) refl (leads_within n))
    where
      go : (o : Option Parent) → parent_of nodes i ≡ o → ((k : ℕ) → k < n → k < length nodes → IsPathTo nodes k (path_of nodes k)) → IsPathTo nodes i (path_from nodes o ++ i ∷ [])
      go None e again = record { bridge = (i, refl, root_is_bridge i below e); leads = refl }
      go (Some parent) e again =
          let earlier = (parent_is_under i parent e).earlier in
          path_more nodes i parent e (again parent.node (omega arith) (omega arith))

  pub path_leads : (i : ℕ) → i < length nodes → IsPathTo nodes i (path_of nodes i)
  path_leads i below = leads_within (suc i) i (omega arith) below

  pub path_few : (i : ℕ) → length (path_of nodes i) ≤ 6
  path_few i =
      let few = ports_above-few nodes i (λ k le. sound k) i (omega arith) (λ k lt switch. tree.depths k switch) in
      omega (arith, length-path_of nodes i (λ k le. sound k) i)
