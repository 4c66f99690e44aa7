-- Nodes are a legal tree exactly where no fault fits them.
use Rattle.std.proofs.Common.{◌≡◌, ℕ, ◌+◌, ◌*◌, ◌<◌, ◌≤◌, ◌==◌, Bool, true, false, not, ◌&&◌, ◌||◌, List, length, take, Option, Some, is_some, IsTrue, refl, sym, ap, ◌∙◌, inl, inr, arith}
use Rattle.std.specs.Prelude.{slice_get, position, count_by, nat_lt}
use Rattle.std.specs.Option.{option_map_or}
use Rattle.std.proofs.lemmas.Bool.{cases_lt, cases_order, false≢true, not-false, and_from, or_parts, ltb-false, eqb-true, eq-eqb}
use Rattle.std.proofs.lemmas.Option.{slice_get_past}
use Rattle.std.proofs.lemmas.Slice.Eq.{bytes_eq-Decides}
use Rattle.cxl_enc.specs.Caps.{is_legal_cap}
use Rattle.cxl_enc.specs.Limits.{placeholder_cap}
use Rattle.cxl_topo.specs.declared.node.Node.{Node}
use Rattle.cxl_topo.specs.declared.node.Parent.{Parent}
use Rattle.cxl_topo.specs.declared.node.Capacity.{Capacity}
use Rattle.cxl_topo.specs.declared.fault.TreeFault.{TreeFault}
use Rattle.cxl_topo.specs.declared.fault.TreeFault.TheVariants as faults
use Rattle.cxl_topo.specs.Kinds.{is_bridge, is_endpoint, capacity_of}
use Rattle.cxl_topo.specs.Tree.{holds_at, forwards_at, is_named, is_bridge_with, stands_at, stands_under, name_at, uid_at, parent_of}
use Rattle.cxl_topo.specs.Faults.{lacks_parent, has_taken_port, forks, has_taken_name, has_taken_uid, is_too_deep, has_wrong_caps, has_wrong_capacity, is_capacity, fits, turn_of, NoneBefore, IsTree}
use Rattle.cxl_topo.proofs.PathsUp.{parent_under, bridge_has_none, other_has_one}
use Rattle.cxl_topo.proofs.Sound.{shallow}
use Rattle.cxl_topo.proofs.Earlier.{found_earlier, earlier_holds}
use Rattle.cxl_topo.proofs.There.{held, is_other, stands_there, named_there, bridge_there, at_port, at_node}

-- ---- no fault fits, so the nodes are a tree

module _ (nodes : List Node) (none : (fault : TreeFault) → fits nodes fault ≡ false) where
  fails : (i : ℕ) (node : Node) (test : Node → Bool) → slice_get nodes i ≡ Some node → holds_at nodes i test ≡ false → test node ≡ false
  fails i node test there h = sym (held nodes i node test there) ∙ h

  few : (length nodes ≤ 1024) × (count_by (λ node. is_bridge node.kind) nodes ≤ 64)
  few =
      let parts = or_parts (nat_lt 1024 (length nodes)) (nat_lt 64 (count_by (λ (node : Node). is_bridge node.kind) nodes)) (none faults.TooMany) in
      (ltb-false 1024 (length nodes) parts.0, ltb-false 64 (count_by (λ (node : Node). is_bridge node.kind) nodes) parts.1)

  later_port : (i j : ℕ) (parent : Parent) → parent_of nodes i ≡ Some parent → parent_of nodes j ≡ Some parent → i < j → ⊥
  later_port i j parent at_i at_j lt =
      let a = stands_there nodes i parent at_i in
      let b = stands_there nodes j parent at_j in
      let taken : has_taken_port (take j nodes) b.node ≡ false = fails j b.node (has_taken_port (take j nodes)) b.there (none (faults.PortTaken j)) in
      false≢true (sym (rw b.parent_is at taken) ∙ found_earlier (stands_at parent.node parent.port) nodes j i a.node lt a.there (at_port a.node parent a.parent_is))

  ports : (i j : ℕ) (parent : Parent) → parent_of nodes i ≡ Some parent → parent_of nodes j ≡ Some parent → i ≡ j
  ports i j parent at_i at_j =
      elim (cases_order i j) [
        | inl same ↦ same
        | inr (inl lt) ↦ absurd (later_port i j parent at_i at_j lt)
        | inr (inr lt) ↦ absurd (later_port j i parent at_j at_i lt)
      ]

  later_fork : (i j : ℕ) (parent other : Parent) → parent_of nodes i ≡ Some parent → parent_of nodes j ≡ Some other → parent.node ≡ other.node → forwards_at nodes other.node ≡ true → i < j → ⊥
  later_fork i j parent other at_i at_j same forward lt =
      let a = stands_there nodes i parent at_i in
      let b = stands_there nodes j other at_j in
      let up = (parent_under nodes j other (none (faults.NoParent j)) at_j).1 in
      let free : forks (take j nodes) b.node ≡ false = fails j b.node (forks (take j nodes)) b.there (none (faults.Forks j)) in
      let both = and_from (forwards_at (take j nodes) other.node) (is_some (position (stands_under other.node) (take j nodes))) (earlier_holds nodes j other.node (λ node. node.forwards) up.earlier ∙ forward) (found_earlier (stands_under other.node) nodes j i a.node lt a.there (at_node a.node parent other.node a.parent_is same)) in
      false≢true (sym (rw b.parent_is at free) ∙ both)

  forwarding : (i j : ℕ) (parent other : Parent) → parent_of nodes i ≡ Some parent → parent_of nodes j ≡ Some other → parent.node ≡ other.node → IsTrue (forwards_at nodes parent.node) → i ≡ j
  forwarding i j parent other at_i at_j same forward =
      elim (cases_order i j) [
        | inl e ↦ e
        | inr (inl lt) ↦ absurd (later_fork i j parent other at_i at_j same (ap (forwards_at nodes) (sym same) ∙ forward) lt)
        | inr (inr lt) ↦ absurd (later_fork j i other parent at_j at_i (sym same) forward lt)
      ]

  later_name : (i j : ℕ) (name : List ℕ) → name_at nodes i ≡ Some name → name_at nodes j ≡ Some name → i < j → ⊥
  later_name i j name at_i at_j lt =
      let a = named_there nodes i name at_i in
      let b = named_there nodes j name at_j in
      let free = fails j b.node (has_taken_name (take j nodes)) b.there (none (faults.NameTaken j)) in
      false≢true (sym free ∙ found_earlier (is_named b.node.name) nodes j i a.node lt a.there ((bytes_eq-Decides a.node.name b.node.name).1 (a.is ∙ sym b.is)))

  names : (i j : ℕ) (name : List ℕ) → name_at nodes i ≡ Some name → name_at nodes j ≡ Some name → i ≡ j
  names i j name at_i at_j =
      elim (cases_order i j) [
        | inl e ↦ e
        | inr (inl lt) ↦ absurd (later_name i j name at_i at_j lt)
        | inr (inr lt) ↦ absurd (later_name j i name at_j at_i lt)
      ]

  later_uid : (i j uid : ℕ) → uid_at nodes i ≡ Some uid → uid_at nodes j ≡ Some uid → i < j → ⊥
  later_uid i j uid at_i at_j lt =
      let a = bridge_there nodes i uid at_i in
      let b = bridge_there nodes j uid at_j in
      let free = fails j b.node (has_taken_uid (take j nodes)) b.there (none (faults.UidTaken j)) in
      let own : is_bridge_with uid a.node ≡ true = ap (λ (o : Option ℕ). option_map_or (λ (own : ℕ). own == uid) o false) a.is ∙ eq-eqb uid uid refl in
      let test : Option ℕ → Bool = λ o. option_map_or (λ (uid : ℕ). is_some (position (is_bridge_with uid) (take j nodes))) o false in
      false≢true (sym (ap test (sym b.is) ∙ free) ∙ found_earlier (is_bridge_with uid) nodes j i a.node lt a.there own)

  uids : (i j uid : ℕ) → uid_at nodes i ≡ Some uid → uid_at nodes j ≡ Some uid → i ≡ j
  uids i j uid at_i at_j =
      elim (cases_order i j) [
        | inl e ↦ e
        | inr (inl lt) ↦ absurd (later_uid i j uid at_i at_j lt)
        | inr (inr lt) ↦ absurd (later_uid j i uid at_j at_i lt)
      ]

  caps : (i : ℕ) (node : Node) → slice_get nodes i ≡ Some node → (not (is_legal_cap node.cap (is_endpoint node.kind)) ≡ false) × ((node.forwards && (not (node.cap == placeholder_cap) || is_endpoint node.kind)) ≡ false)
  caps i node there = or_parts (not (is_legal_cap node.cap (is_endpoint node.kind))) (node.forwards && (not (node.cap == placeholder_cap) || is_endpoint node.kind)) (fails i node has_wrong_caps there (none (faults.Caps i)))

  placeholders : (i : ℕ) (node : Node) → slice_get nodes i ≡ Some node → IsTrue node.forwards → (node.cap ≡ placeholder_cap) × (is_endpoint node.kind ≡ false)
  placeholders i node there forward =
      let own : (not (node.cap == placeholder_cap) || is_endpoint node.kind) ≡ false = rw forward at (caps i node there).1 in
      let parts = or_parts (not (node.cap == placeholder_cap)) (is_endpoint node.kind) own in
      (eqb-true node.cap placeholder_cap (not-false (node.cap == placeholder_cap) parts.0), parts.1)

  capacities : (i : ℕ) (node : Node) (capacity : Capacity) → slice_get nodes i ≡ Some node → capacity_of node.kind ≡ Some capacity → IsTrue (is_capacity capacity)
  capacities i node capacity there is =
      let fine : has_wrong_capacity node ≡ false = fails i node has_wrong_capacity there (none (faults.Capacity i)) in
      let test : Option Capacity → Bool = λ o. option_map_or (λ (c : Capacity). not (is_capacity c)) o false in
      not-false (is_capacity capacity) (ap test (sym is) ∙ fine)

  pub is_tree : IsTree nodes
  is_tree = record {
    few_nodes = few.0;
    few_bridges = few.1;
    bridges = λ i bridge. bridge_has_none nodes i (none (faults.NoParent i)) bridge;
    others = λ i below other. let one = other_has_one nodes i (none (faults.NoParent i)) (is_other nodes i below other) in (one.0, one.1, (parent_under nodes i one.0 (none (faults.NoParent i)) one.1).1);
    ports = ports;
    forwarding = forwarding;
    names = names;
    uids = uids;
    depths = λ i switch. shallow nodes (8 * i + 7) i (λ fault lt. none fault) (omega arith) i (omega arith) switch;
    caps = λ i node there. not-false (is_legal_cap node.cap (is_endpoint node.kind)) (caps i node there).0;
    placeholders = placeholders;
    capacities = capacities;
  }

-- ---- where no fault fits up to the last node, none fits at all

past : (nodes : List Node) (i : ℕ) (test : Node → Bool) → length nodes ≤ i → holds_at nodes i test ≡ false
past nodes i test le = ap (λ (o : Option Node). option_map_or test o false) (slice_get_past nodes i le)

module _ (nodes : List Node) (none : NoneBefore nodes (8 * length nodes + 1)) where
  by_place : (fault : TreeFault) (i : ℕ) (test : Node → Bool) → turn_of fault < 8 * i + 9 → fits nodes fault ≡ holds_at nodes i test → fits nodes fault ≡ false
  by_place fault i test turn says =
      elim (cases_lt i (length nodes)) [
        | inl lt ↦ none fault (omega arith)
        | inr le ↦ says ∙ past nodes i test le
      ]

  pub none_fits : (fault : TreeFault) → fits nodes fault ≡ false
  none_fits faults.TooMany = none faults.TooMany (omega arith)
  none_fits (faults.NoParent i) = by_place (faults.NoParent i) i (lacks_parent (take i nodes)) (omega arith) refl
  none_fits (faults.PortTaken i) = by_place (faults.PortTaken i) i (has_taken_port (take i nodes)) (omega arith) refl
  none_fits (faults.Forks i) = by_place (faults.Forks i) i (forks (take i nodes)) (omega arith) refl
  none_fits (faults.NameTaken i) = by_place (faults.NameTaken i) i (has_taken_name (take i nodes)) (omega arith) refl
  none_fits (faults.UidTaken i) = by_place (faults.UidTaken i) i (has_taken_uid (take i nodes)) (omega arith) refl
  none_fits (faults.Depth i) = by_place (faults.Depth i) i (is_too_deep nodes i) (omega arith) refl
  none_fits (faults.Caps i) = by_place (faults.Caps i) i has_wrong_caps (omega arith) refl
  none_fits (faults.Capacity i) = by_place (faults.Capacity i) i has_wrong_capacity (omega arith) refl
  none_fits faults.Memory = refl
