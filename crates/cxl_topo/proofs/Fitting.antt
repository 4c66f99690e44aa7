-- No fault fits a legal tree.
use Rattle.std.proofs.Common.{◌≡◌, ◌≢◌, ℕ, ◌<◌, ◌==◌, Bool, true, false, not, ◌&&◌, ◌||◌, List, length, take, Option, Some, None, option_map, is_some, refl, sym, ap, ◌∙◌, inl, inr, arith}
use Rattle.std.specs.Prelude.{slice_get, position, count_by, nat_le, nat_lt}
use Rattle.std.specs.Option.{option_map_or, option_and_then}
use Rattle.std.proofs.lemmas.Bool.{cases_Bool, both_ways, or_from, and_parts, and_left, and_right, lt-leb, le-ltb, eq-eqb, not_from_true, false_from_ne_true}
use Rattle.std.proofs.lemmas.Option.{none-some, slice_get_within}
use Rattle.std.proofs.lemmas.Slice.Eq.{bytes_eq-Decides}
use Rattle.cxl_enc.specs.Caps.{is_legal_cap}
use Rattle.cxl_enc.specs.Limits.{placeholder_cap}
use Rattle.cxl_topo.specs.declared.node.Node.{Node}
use Rattle.cxl_topo.specs.declared.node.Parent.{Parent}
use Rattle.cxl_topo.specs.declared.node.Capacity.{Capacity}
use Rattle.cxl_topo.specs.declared.fault.TreeFault.{TreeFault}
use Rattle.cxl_topo.specs.declared.fault.TreeFault.TheVariants as faults
use Rattle.cxl_topo.specs.Kinds.{is_bridge, is_switch, is_endpoint, uid_of, capacity_of}
use Rattle.cxl_topo.specs.Tree.{holds_at, forwards_at, is_port_at, is_named, is_bridge_with, stands_at, stands_under, least_child_of}
use Rattle.cxl_topo.specs.Faults.{lacks_parent, has_taken_port, forks, has_taken_name, has_taken_uid, switches_above, is_too_deep, has_wrong_caps, has_wrong_capacity, is_capacity, fits, IsFirstTreeFault, IsTree}
use Rattle.cxl_topo.proofs.Earlier.{finds_earlier, earlier_holds}
use Rattle.cxl_topo.proofs.There.{held, parent_there, at_is, under_is, uid_is}

module _ (nodes : List Node) (tree : IsTree nodes) (i : ℕ) (node : Node) (there : slice_get nodes i ≡ Some node) where
  below : i < length nodes
  below = slice_get_within nodes i node there

  hold : (test : Node → Bool) → holds_at nodes i test ≡ test node
  hold test = held nodes i node test there

  has_parent : lacks_parent (take i nodes) node ≡ false
  has_parent =
      elim (cases_Bool (is_bridge node.kind)) [
        | inl b ↦
            let none : node.parent ≡ None = sym (parent_there nodes i node node.parent there refl) ∙ tree.bridges i (hold (λ node. is_bridge node.kind) ∙ b) in
            rw (b, none)
        | inr b ↦
            let one = tree.others i below (hold (λ node. is_bridge node.kind) ∙ b) in
            let is : node.parent ≡ Some one.0 = sym (parent_there nodes i node node.parent there refl) ∙ one.1 in
            let port : is_port_at (take i nodes) one.0.node ≡ true = earlier_holds nodes i one.0.node (λ node. not (is_endpoint node.kind)) one.2.earlier ∙ one.2.port in
            rw (b, is, port)
      ]

  free_port : has_taken_port (take i nodes) node ≡ false
  free_port = go node.parent refl
    where
      go : (o : Option Parent) → node.parent ≡ o → option_map_or (λ (parent : Parent). is_some (position (stands_at parent.node parent.port) (take i nodes))) o false ≡ false
      go None e = refl
      go (Some parent) e = false_from_ne_true _ (λ taken.
          let before = finds_earlier (stands_at parent.node parent.port) nodes i taken in
          let earlier = before.earlier in
          let own = at_is before.at.node parent before.at.passes in
          let same : before.place ≡ i = tree.ports before.place i parent (parent_there nodes before.place before.at.node (Some parent) before.at.there own) (parent_there nodes i node (Some parent) there e) in
          omega arith)

  no_fork : forks (take i nodes) node ≡ false
  no_fork = go node.parent refl
    where
      go : (o : Option Parent) → node.parent ≡ o → option_map_or (λ (parent : Parent). forwards_at (take i nodes) parent.node && is_some (least_child_of (take i nodes) parent.node)) o false ≡ false
      go None e = refl
      go (Some parent) e = false_from_ne_true _ (λ both.
          let parts = and_parts (forwards_at (take i nodes) parent.node) (is_some (least_child_of (take i nodes) parent.node)) both in
          let before = finds_earlier (stands_under parent.node) nodes i parts.1 in
          let earlier = before.earlier in
          let own = under_is before.at.node parent.node before.at.passes in
          let at_i = parent_there nodes i node (Some parent) there e in
          let up = parent_is_earlier parent e in
          let forward : forwards_at nodes parent.node ≡ true = sym (earlier_holds nodes i parent.node (λ node. node.forwards) up) ∙ parts.0 in
          let same : i ≡ before.place = tree.forwarding i before.place parent own.0 at_i (parent_there nodes before.place before.at.node (Some own.0) before.at.there own.1) (sym own.2) forward in
          omega arith)
        where
          parent_is_earlier : (parent : Parent) → node.parent ≡ Some parent → parent.node < i
          parent_is_earlier parent e =
              elim (cases_Bool (is_bridge node.kind)) [
                | inl b ↦
                    let none = tree.bridges i (hold (λ node. is_bridge node.kind) ∙ b) in
                    absurd (none-some parent (sym none ∙ parent_there nodes i node (Some parent) there e))
                | inr b ↦
                    let one = tree.others i below (hold (λ node. is_bridge node.kind) ∙ b) in
                    let earlier = one.2.earlier in
                    let same : Some one.0 ≡ Some parent = sym one.1 ∙ parent_there nodes i node (Some parent) there e in
                    let node_is : one.0.node ≡ parent.node = ap (λ (o : Option Parent). option_map_or (λ (p : Parent). p.node) o 0) same in
                    omega arith
              ]

  free_name : has_taken_name (take i nodes) node ≡ false
  free_name = false_from_ne_true _ (λ taken.
      let before = finds_earlier (is_named node.name) nodes i taken in
      let earlier = before.earlier in
      let same : before.place ≡ i = tree.names before.place i node.name (ap (option_map (λ (node : Node). node.name)) before.at.there ∙ ap Some ((bytes_eq-Decides before.at.node.name node.name).0 before.at.passes)) (ap (option_map (λ (node : Node). node.name)) there) in
      omega arith)

  free_uid : has_taken_uid (take i nodes) node ≡ false
  free_uid = go (uid_of node.kind) refl
    where
      go : (o : Option ℕ) → uid_of node.kind ≡ o → option_map_or (λ (uid : ℕ). is_some (position (is_bridge_with uid) (take i nodes))) o false ≡ false
      go None e = refl
      go (Some uid) e = false_from_ne_true _ (λ taken.
          let before = finds_earlier (is_bridge_with uid) nodes i taken in
          let earlier = before.earlier in
          let same : before.place ≡ i = tree.uids before.place i uid (ap (option_and_then (λ (node : Node). uid_of node.kind)) before.at.there ∙ uid_is before.at.node uid before.at.passes) (ap (option_and_then (λ (node : Node). uid_of node.kind)) there ∙ e) in
          omega arith)

  not_deep : is_too_deep nodes i node ≡ false
  not_deep =
      elim (cases_Bool (is_switch node.kind)) [
        | inl s ↦
            let few = tree.depths i (hold (λ node. is_switch node.kind) ∙ s) in
            and_right (is_switch node.kind) (nat_le 4 (switches_above nodes i)) (lt-leb 4 (switches_above nodes i) few)
        | inr s ↦ and_left (is_switch node.kind) (nat_le 4 (switches_above nodes i)) s
      ]

  right_caps : has_wrong_caps node ≡ false
  right_caps = or_from (not (is_legal_cap node.cap (is_endpoint node.kind))) (node.forwards && (not (node.cap == placeholder_cap) || is_endpoint node.kind)) (not_from_true (is_legal_cap node.cap (is_endpoint node.kind)) (tree.caps i node there)) (elim (cases_Bool node.forwards) [
    | inl f ↦
        let own = tree.placeholders i node there f in
        and_right node.forwards (not (node.cap == placeholder_cap) || is_endpoint node.kind) (or_from (not (node.cap == placeholder_cap)) (is_endpoint node.kind) (not_from_true (node.cap == placeholder_cap) (eq-eqb node.cap placeholder_cap own.0)) own.1)
    | inr f ↦ and_left node.forwards (not (node.cap == placeholder_cap) || is_endpoint node.kind) f
  ])

  right_capacity : has_wrong_capacity node ≡ false
  right_capacity = go (capacity_of node.kind) refl
    where
      go : (o : Option Capacity) → capacity_of node.kind ≡ o → option_map_or (λ (c : Capacity). not (is_capacity c)) o false ≡ false
      go None e = refl
      go (Some c) e = not_from_true (is_capacity c) (tree.capacities i node c there e)

at_each : (nodes : List Node) (i : ℕ) (test : Node → Bool) → ((node : Node) → slice_get nodes i ≡ Some node → test node ≡ false) → holds_at nodes i test ≡ false
at_each nodes i test fails = go (slice_get nodes i) refl
  where
    go : (o : Option Node) → slice_get nodes i ≡ o → option_map_or test o false ≡ false
    go None e = refl
    go (Some node) e = fails node e

pub tree_fits : (nodes : List Node) → IsTree nodes → (fault : TreeFault) → fits nodes fault ≡ false
tree_fits nodes tree faults.TooMany = or_from (nat_lt 1024 (length nodes)) (nat_lt 64 (count_by (λ (node : Node). is_bridge node.kind) nodes)) (le-ltb 1024 (length nodes) tree.few_nodes) (le-ltb 64 (count_by (λ (node : Node). is_bridge node.kind) nodes) tree.few_bridges)
tree_fits nodes tree (faults.NoParent i) = at_each nodes i (lacks_parent (take i nodes)) (has_parent nodes tree i)
tree_fits nodes tree (faults.PortTaken i) = at_each nodes i (has_taken_port (take i nodes)) (free_port nodes tree i)
tree_fits nodes tree (faults.Forks i) = at_each nodes i (forks (take i nodes)) (no_fork nodes tree i)
tree_fits nodes tree (faults.NameTaken i) = at_each nodes i (has_taken_name (take i nodes)) (free_name nodes tree i)
tree_fits nodes tree (faults.UidTaken i) = at_each nodes i (has_taken_uid (take i nodes)) (free_uid nodes tree i)
tree_fits nodes tree (faults.Depth i) = at_each nodes i (is_too_deep nodes i) (not_deep nodes tree i)
tree_fits nodes tree (faults.Caps i) = at_each nodes i has_wrong_caps (right_caps nodes tree i)
tree_fits nodes tree (faults.Capacity i) = at_each nodes i has_wrong_capacity (right_capacity nodes tree i)
tree_fits nodes tree faults.Memory = refl

-- a refusal that would need a first fault is want of memory
pub memory_alone : (nodes : List Node) → IsTree nodes → (fault : TreeFault) → (fault ≢ faults.Memory → IsFirstTreeFault nodes fault) → fault ≡ faults.Memory
memory_alone nodes tree faults.Memory is = refl
memory_alone nodes tree faults.TooMany is = absurd (both_ways _ (tree_fits nodes tree faults.TooMany) (is (λ e. absurd cc)).holds)
memory_alone nodes tree (faults.NoParent i) is = absurd (both_ways _ (tree_fits nodes tree (faults.NoParent i)) (is (λ e. absurd cc)).holds)
memory_alone nodes tree (faults.PortTaken i) is = absurd (both_ways _ (tree_fits nodes tree (faults.PortTaken i)) (is (λ e. absurd cc)).holds)
memory_alone nodes tree (faults.Forks i) is = absurd (both_ways _ (tree_fits nodes tree (faults.Forks i)) (is (λ e. absurd cc)).holds)
memory_alone nodes tree (faults.NameTaken i) is = absurd (both_ways _ (tree_fits nodes tree (faults.NameTaken i)) (is (λ e. absurd cc)).holds)
memory_alone nodes tree (faults.UidTaken i) is = absurd (both_ways _ (tree_fits nodes tree (faults.UidTaken i)) (is (λ e. absurd cc)).holds)
memory_alone nodes tree (faults.Depth i) is = absurd (both_ways _ (tree_fits nodes tree (faults.Depth i)) (is (λ e. absurd cc)).holds)
memory_alone nodes tree (faults.Caps i) is = absurd (both_ways _ (tree_fits nodes tree (faults.Caps i)) (is (λ e. absurd cc)).holds)
memory_alone nodes tree (faults.Capacity i) is = absurd (both_ways _ (tree_fits nodes tree (faults.Capacity i)) (is (λ e. absurd cc)).holds)
