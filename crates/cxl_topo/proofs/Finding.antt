-- What is found in a legal tree is what stands there.
use Rattle.std.proofs.Common.{◌≡◌, ℕ, ◌↔◌, Bool, true, List, [], ◌∷◌, Option, Some, None, option_map, is_some, IsTrue, refl, sym, ap, ◌∙◌, ◌≤◌, subst, arith}
use Rattle.std.specs.Prelude.{slice_get, position, IfSome, IsSomeAnd}
use Rattle.std.specs.Option.{option_map_or, option_and_then}
use Rattle.std.proofs.lemmas.Bool.{false≢true}
use Rattle.std.proofs.lemmas.Option.{none-some, same_Some}
use Rattle.std.proofs.lemmas.Slice.Eq.{bytes_eq-Decides}
use Rattle.cxl_topo.specs.declared.node.Node.{Node}
use Rattle.cxl_topo.specs.declared.node.Parent.{Parent}
use Rattle.cxl_topo.specs.Kinds.{uid_of}
use Rattle.cxl_topo.specs.Tree.{forwards_at, is_named, is_bridge_with, stands_at, stands_under, name_at, uid_at, parent_of, node_named, bridge_with, child_of, least_child_of, ports_above}
use Rattle.cxl_topo.specs.Faults.{IsTree}
use Rattle.cxl_topo.specs.Laws.{AreTreeLaws, StandsBelow}
use Rattle.cxl_topo.proofs.Earlier.{PassesAt, FindsAtMost, finds, finds_least, found}
use Rattle.cxl_topo.proofs.There.{stands_there, named_there, bridge_there, at_port, at_is, at_node, under_is, uid_is, with_uid}
use Rattle.cxl_topo.proofs.PathsUp.{ports_above-more, ports_above-few, ports_from}
use Rattle.cxl_topo.proofs.PathsDown.{landing_of-more}
use Rattle.cxl_topo.proofs.Leading.{sound, path_leads}

-- a search finds the place of the one node that passes
found_there : (test : Node → Bool) (nodes : List Node) (i : ℕ) (node : Node) → slice_get nodes i ≡ Some node → test node ≡ true → ((j : ℕ) → PassesAt test nodes j → j ≡ i) → position test nodes ≡ Some i
found_there test nodes i node there passes one = go (position test nodes) refl (found test nodes i node there passes)
  where
    go : (o : Option ℕ) → position test nodes ≡ o → is_some o ≡ true → o ≡ Some i
    go None e some = absurd (false≢true some)
    go (Some j) e some = ap Some (one j (finds test nodes j e))

module _ (nodes : List Node) (tree : IsTree nodes) where
  stood : (parent : Parent) (c : ℕ) → PassesAt (stands_at parent.node parent.port) nodes c → parent_of nodes c ≡ Some parent
  stood parent c at = ap (option_and_then (λ (node : Node). node.parent)) at.there ∙ at_is at.node parent at.passes

  pub child_is : (parent : Parent) (c : ℕ) → (child_of nodes parent.node parent.port ≡ Some c) ↔ (parent_of nodes c ≡ Some parent)
  child_is parent c = (λ e. stood parent c (finds (stands_at parent.node parent.port) nodes c e), back)
    where
      back : parent_of nodes c ≡ Some parent → child_of nodes parent.node parent.port ≡ Some c
      back is =
          let one = stands_there nodes c parent is in
          found_there (stands_at parent.node parent.port) nodes c one.node one.there (at_port one.node parent one.parent_is) (λ j at. tree.ports j c parent (stood parent j at) is)

  under_parent : (n c : ℕ) → PassesAt (stands_under n) nodes c → (parent : Parent) × (parent_of nodes c ≡ Some parent) × (parent.node ≡ n)
  under_parent n c at = let own = under_is at.node n at.passes in (own.0, ap (option_and_then (λ (node : Node). node.parent)) at.there ∙ own.1, own.2)

  -- the least child is one, and no other has a lesser number
  pub is_below : (n c : ℕ) → least_child_of nodes n ≡ Some c → StandsBelow nodes n c
  is_below n c e = let own = under_parent n c (finds (stands_under n) nodes c e) in ap (option_map (λ (parent : Parent). parent.node)) own.1 ∙ ap Some own.2

  pub is_least : (n c : ℕ) → StandsBelow nodes n c → FindsAtMost (least_child_of nodes n) c
  is_least n c is = go (parent_of nodes c) refl is
    where
      go : (o : Option Parent) → parent_of nodes c ≡ o → option_map (λ (parent : Parent). parent.node) o ≡ Some n → FindsAtMost (least_child_of nodes n) c
      go None e h = absurd (none-some n h)
      go (Some parent) e h =
          let one = stands_there nodes c parent e in
          finds_least (stands_under n) nodes c one.node one.there (at_node one.node parent n one.parent_is (same_Some parent.node n h))

  only_child_is : (n c : ℕ) → IsTrue (forwards_at nodes n) → (least_child_of nodes n ≡ Some c) ↔ (option_map (λ parent. parent.node) (parent_of nodes c) ≡ Some n)
  only_child_is n c forward = (out, back)
    where
      out : least_child_of nodes n ≡ Some c → option_map (λ (parent : Parent). parent.node) (parent_of nodes c) ≡ Some n
      out e = let own = under_parent n c (finds (stands_under n) nodes c e) in ap (option_map (λ (parent : Parent). parent.node)) own.1 ∙ ap Some own.2

      back : option_map (λ (parent : Parent). parent.node) (parent_of nodes c) ≡ Some n → least_child_of nodes n ≡ Some c
      back is = go (parent_of nodes c) refl is
        where
          go : (o : Option Parent) → parent_of nodes c ≡ o → option_map (λ (parent : Parent). parent.node) o ≡ Some n → least_child_of nodes n ≡ Some c
          go None e h = absurd (none-some n h)
          go (Some parent) e h =
              let one = stands_there nodes c parent e in
              let same : parent.node ≡ n = same_Some parent.node n h in
              found_there (stands_under n) nodes c one.node one.there (at_node one.node parent n one.parent_is same) (λ j at.
              let own = under_parent n j at in
              tree.forwarding j c own.0 parent own.1 e (own.2 ∙ sym same) (ap (forwards_at nodes) own.2 ∙ forward))

  pub name_is : (name : List ℕ) (i : ℕ) → (node_named nodes name ≡ Some i) ↔ (name_at nodes i ≡ Some name)
  name_is name i = (λ e. named i (finds (is_named name) nodes i e), back)
    where
      named : (j : ℕ) → PassesAt (is_named name) nodes j → name_at nodes j ≡ Some name
      named j at = ap (option_map (λ (node : Node). node.name)) at.there ∙ ap Some ((bytes_eq-Decides at.node.name name).0 at.passes)

      back : name_at nodes i ≡ Some name → node_named nodes name ≡ Some i
      back is =
          let one = named_there nodes i name is in
          found_there (is_named name) nodes i one.node one.there ((bytes_eq-Decides one.node.name name).1 one.is) (λ j at. tree.names j i name (named j at) is)

  pub bridge_is : (uid i : ℕ) → (bridge_with nodes uid ≡ Some i) ↔ (uid_at nodes i ≡ Some uid)
  bridge_is uid i = (λ e. owned i (finds (is_bridge_with uid) nodes i e), back)
    where
      owned : (j : ℕ) → PassesAt (is_bridge_with uid) nodes j → uid_at nodes j ≡ Some uid
      owned j at = ap (option_and_then (λ (node : Node). uid_of node.kind)) at.there ∙ uid_is at.node uid at.passes

      back : uid_at nodes i ≡ Some uid → bridge_with nodes uid ≡ Some i
      back is =
          let one = bridge_there nodes i uid is in
          found_there (is_bridge_with uid) nodes i one.node one.there (with_uid one.node uid one.is) (λ j at. tree.uids j i uid (owned j at) is)

  ports_is : (i : ℕ) → ports_above nodes i ≡ option_map_or (λ (parent : Parent). parent ∷ ports_above nodes parent.node) (parent_of nodes i) []
  ports_is i = ports_above-more nodes i (λ k le. sound nodes tree k) i (omega arith) ∙ go (parent_of nodes i)
    where
      go : (o : Option Parent) → ports_from nodes o ≡ option_map_or (λ (parent : Parent). parent ∷ ports_above nodes parent.node) o []
      go None = refl
      go (Some parent) = refl

  pub laws : AreTreeLaws nodes
  laws = record {
    children = λ n p c. child_is (record { node = n; port = p }) c;
    only_children = only_child_is;
    names = name_is;
    bridges = bridge_is;
    ports = ports_is;
    few_ports = λ i. ports_above-few nodes i (λ k le. sound nodes tree k) i (omega arith) (λ k lt switch. tree.depths k switch);
    paths = path_leads nodes tree;
    landings = landing_of-more nodes tree;
  }

-- what holds of what is found holds of what was answered
pub answered : (answer given : Option ℕ) (P : ℕ → Type 0) → answer ≡ given → ((i : ℕ) → (given ≡ Some i) ↔ P i) → (i : ℕ) → (answer ≡ Some i) ↔ P i
answered answer given P e both i = (λ h. (both i).0 (sym e ∙ h), λ h. e ∙ (both i).1 h)

pub if_found : (answer given : Option ℕ) (P : ℕ → Type 0) → answer ≡ given → ((i : ℕ) → given ≡ Some i → P i) → IfSome answer P
if_found None given P e h = tt
if_found (Some i) given P e h = h i (sym e)

pub at_most : (answer given : Option ℕ) (i : ℕ) → answer ≡ given → FindsAtMost given i → IsSomeAnd answer (λ least. least ≤ i)
at_most answer given i e finds = subst (λ (o : Option ℕ). IsSomeAnd o (λ least. least ≤ i)) (sym (e ∙ finds.is)) finds.within
