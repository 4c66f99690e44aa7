-- The topology of a generated system is a legal tree.
use Rattle.std.proofs.Common.{◌≡◌, ℕ, ◌+◌, ◌*◌, ◌/◌, ◌%◌, ◌<◌, ◌≤◌, Bool, true, false, not, List, ◌++◌, length, drop, get_or, cond, Option, Some, None, Result, Ok, Err, refl, sym, ap, ◌∙◌, subst, arith}
use Rattle.std.specs.Prelude.{map, decimal, codes, count_by, slice_get, option_map, IsTrue}
use Rattle.std.specs.List.{range_with_len}
use Rattle.std.specs.Option.{option_and_then, option_map_or}
use Rattle.std.proofs.lemmas.List.Sums.{sum_by-append}
use Rattle.std.proofs.lemmas.Option.{slice_get-get_or}
use Rattle.cxl_enc.specs.Caps.{is_legal_cap}
use Rattle.cxl_io.specs.Numbers.{number_of}
use Rattle.cxl_io.specs.declared.number.NumFault.{NumFault}
use Rattle.cxl_io.proofs.ReadBack.{number_of-decimal}
use Rattle.cxl_topo.specs.Faults.{IsTree, IsUnder, is_capacity}
use Rattle.cxl_topo.specs.Kinds.{is_bridge, is_switch, is_endpoint, uid_of, capacity_of}
use Rattle.cxl_topo.specs.Tree.{is_bridge_at, is_switch_at, forwards_at, parent_of, name_at, uid_at}
use Rattle.cxl_topo.specs.declared.node.Capacity.{Capacity}
use Rattle.cxl_topo.specs.declared.node.Node.{Node}
use Rattle.cxl_topo.specs.declared.node.Parent.{Parent}
use Rattle.cxl_gen.specs.Made.{made_bridge, made_endpoint, made_nodes, endpoint_name}
use Rattle.cxl_gen.proofs.Counts.{mapped_sum}
use Rattle.cxl_gen.proofs.Places.{node_count, bridge_at, each_node, told_of}

abbrev number_or_none : Result ℕ NumFault → ℕ
number_or_none (Ok n) = n
number_or_none (Err fault) = 0

same_number : (i j : ℕ) → i < 1000 → j < 1000 → decimal i ≡ decimal j → i ≡ j
same_number i j a b e =
    let one = number_of-decimal i (omega arith) in let two = number_of-decimal j (omega arith) in
    let both : Ok i ≡ Ok j = sym one ∙ ap number_of e ∙ two in
    ap (λ (r : Result ℕ NumFault). number_or_none r) both

same_port : (k l : ℕ) (parent : Parent) → Some (record { node = k / 2; port = k % 2 }) ≡ Some parent → Some (record { node = l / 2; port = l % 2 }) ≡ Some parent → k ≡ l
same_port k l parent one two =
    let node : k / 2 ≡ l / 2 = ap (λ (o : Option Parent). option_map_or (λ p. p.node) o 0) (one ∙ sym two) in
    let port : k % 2 ≡ l % 2 = ap (λ (o : Option Parent). option_map_or (λ p. p.port) o 0) (one ∙ sym two) in
    omega arith

-- a test that no node of a list meets
never : (test : Node → Bool) (o : Option Node) → ((node : Node) → o ≡ Some node → test node ≡ false) → option_map_or test o false ≡ false
never test (Some node) none = none node refl
never test None none = refl

not_both : {A : Type 0} (b : Bool) → b ≡ false → IsTrue b → A
not_both false is also = absurd cc
not_both true is also = absurd cc

-- a bridge has no parent, where that holds of each node
no_parent : (o : Option Node) → ((node : Node) → o ≡ Some node → IsTrue (is_bridge node.kind) → node.parent ≡ None)
    → IsTrue (option_map_or (λ node. is_bridge node.kind) o false) → option_and_then (λ node. node.parent) o ≡ None
no_parent (Some node) all is = all node refl is
no_parent None all is = refl

named_node : (o : Option Node) (name : List ℕ) → option_map (λ node. node.name) o ≡ Some name → (node : Node) × (o ≡ Some node) × (node.name ≡ name)
named_node (Some node) name e = let same : node.name ≡ name = cc in (node, refl, same)
named_node None name e = absurd cc

bridge_names : (i j : ℕ) (name : List ℕ) → i < 1000 → j < 1000 → codes "hb" ++ decimal i ≡ name → codes "hb" ++ decimal j ≡ name → i ≡ j
bridge_names i j name a b one two = same_number i j a b (ap (λ bs. drop 2 bs) (one ∙ sym two))

endpoint_names : (k l : ℕ) (name : List ℕ) → k < 1000 → l < 1000 → endpoint_name k ≡ name → endpoint_name l ≡ name → k ≡ l
endpoint_names k l name a b one two = same_number k l a b (ap (λ bs. drop 1 bs) (one ∙ sym two))

other_names : {A : Type 0} (i k : ℕ) (name : List ℕ) → codes "hb" ++ decimal i ≡ name → endpoint_name k ≡ name → A
other_names i k name one two = let first : 104 ≡ 101 = ap (λ bs. get_or bs 0 0) (one ∙ sym two) in absurd (omega (arith, first))

module _ (n : ℕ) (few : n ≤ 32) where
  abbrev nodes : List Node
  nodes = made_nodes n

  bridge_count : count_by (λ node. is_bridge node.kind) nodes ≡ 2 * n
  bridge_count =
      omega (
        arith,
        sum_by-append (λ node. cond (is_bridge node.kind) 1 0) (map made_bridge (range_with_len 0 (2 * n))) (map made_endpoint (range_with_len 0 (4 * n))),
        mapped_sum (λ node. cond (is_bridge node.kind) 1 0) made_bridge 1 (λ i. refl) 0 (2 * n),
        mapped_sum (λ node. cond (is_bridge node.kind) 1 0) made_endpoint 0 (λ i. refl) 0 (4 * n),
      )

  never_forwards : (i : ℕ) → forwards_at nodes i ≡ false
  never_forwards i = never (λ node. node.forwards) (slice_get nodes i) (each_node n (λ j node. node.forwards ≡ false) (λ j low. refl) (λ k low. refl) i)

  never_switch : (i : ℕ) → is_switch_at nodes i ≡ false
  never_switch i = never (λ node. is_switch node.kind) (slice_get nodes i) (each_node n (λ j node. is_switch node.kind ≡ false) (λ j low. refl) (λ k low. refl) i)

  -- a node with a parent is an endpoint
  abbrev StandsUnder : ℕ → Node → Type 0
  StandsUnder i node = (parent : Parent) → node.parent ≡ Some parent → (k : ℕ) × (k < 4 * n) × (i ≡ 2 * n + k) × (Some (record { node = k / 2; port = k % 2 }) ≡ Some parent)

  stands_under : (i : ℕ) (node : Node) → slice_get nodes i ≡ Some node → StandsUnder i node
  stands_under = each_node n StandsUnder (λ i low parent e. absurd cc) (λ k low parent e. (k, low, refl, e))

  one_place : (i j : ℕ) (parent : Parent) → parent_of nodes i ≡ Some parent → parent_of nodes j ≡ Some parent → i ≡ j
  one_place i j parent a b =
      let one = told_of n (λ node. node.parent) (slice_get nodes i) parent a in
      let two = told_of n (λ node. node.parent) (slice_get nodes j) parent b in
      let here = stands_under i one.0 one.1 parent one.2 in
      let there = stands_under j two.0 two.1 parent two.2 in
      let same = same_port here.0 there.0 parent here.3 there.3 in
      here.2 ∙ ap (λ (k : ℕ). 2 * n + k) same ∙ sym there.2

  one_uid : (i j uid : ℕ) → uid_at nodes i ≡ Some uid → uid_at nodes j ≡ Some uid → i ≡ j
  one_uid i j uid a b =
      let one = told_of n (λ node. uid_of node.kind) (slice_get nodes i) uid a in
      let two = told_of n (λ node. uid_of node.kind) (slice_get nodes j) uid b in
      let own = each_node n (λ place node. uid_of node.kind ≡ Some uid → place ≡ uid) (λ place low e. cc) (λ k low e. absurd cc) in
      own i one.0 one.1 one.2 ∙ sym (own j two.0 two.1 two.2)

  legal : (i : ℕ) (node : Node) → slice_get nodes i ≡ Some node → IsTrue (is_legal_cap node.cap (is_endpoint node.kind))
  legal = each_node n (λ i node. IsTrue (is_legal_cap node.cap (is_endpoint node.kind))) (λ i low. refl) (λ k low. refl)

  holds : (i : ℕ) (node : Node) → slice_get nodes i ≡ Some node → (capacity : Capacity) → capacity_of node.kind ≡ Some capacity → IsTrue (is_capacity capacity)
  holds = each_node n (λ i node. (capacity : Capacity) → capacity_of node.kind ≡ Some capacity → IsTrue (is_capacity capacity)) (λ i low capacity e. absurd cc)
      (λ k low capacity e. let own : record { ram = 0x100000000; pmem = 0 } ≡ capacity = cc in subst (λ (c : Capacity). IsTrue (is_capacity c)) own refl)

  one_name : (i j : ℕ) (name : List ℕ) → name_at nodes i ≡ Some name → name_at nodes j ≡ Some name → i ≡ j
  one_name i j name a b =
      let one = named_node (slice_get nodes i) name a in
      let two = named_node (slice_get nodes j) name b in
      each_node n (λ i node. node.name ≡ name → (j : ℕ) (other : Node) → slice_get nodes j ≡ Some other → other.name ≡ name → i ≡ j)
      (λ i low e. each_node n (λ j other. other.name ≡ name → i ≡ j) (λ j below f. bridge_names i j name (omega arith) (omega arith) e f) (λ k below f. other_names i k name e f))
      (λ k low e. each_node n (λ j other. other.name ≡ name → 2 * n + k ≡ j) (λ j below f. other_names j k name f e)
      (λ l below f. ap (λ (m : ℕ). 2 * n + m) (endpoint_names k l name (omega arith) (omega arith) e f)))
      i one.0 one.1 one.2 j two.0 two.1 two.2

  -- an endpoint stands under an earlier bridge
  abbrev HasPort : ℕ → Node → Type 0
  HasPort i node = is_bridge node.kind ≡ false → (parent : Parent) × (node.parent ≡ Some parent) × IsUnder nodes i parent

  under_bridge : (k : ℕ) → k < 4 * n → HasPort (2 * n + k) (made_endpoint k)
  under_bridge k low e =
      let half : k / 2 < 2 * n = omega arith in (
        record { node = k / 2; port = k % 2 },
        refl,
        record { earlier = omega arith; port = ap (λ o. option_map_or (λ node. not (is_endpoint node.kind)) o false) (bridge_at n (k / 2) half) },
      )

  has_port : (i : ℕ) (node : Node) → slice_get nodes i ≡ Some node → HasPort i node
  has_port = each_node n HasPort (λ i low e. absurd cc) under_bridge

  others : (i : ℕ) → i < length nodes → is_bridge_at nodes i ≡ false → (parent : Parent) × (parent_of nodes i ≡ Some parent) × IsUnder nodes i parent
  others i within e =
      let node = get_or nodes i (made_bridge 0) in
      let there : slice_get nodes i ≡ Some node = slice_get-get_or nodes i (made_bridge 0) within in
      let found = has_port i node there (sym (ap (λ o. option_map_or (λ m. is_bridge m.kind) o false) there) ∙ e) in
      (found.0, ap (λ o. option_and_then (λ m. m.parent) o) there ∙ found.1, found.2)

  pub made_nodes_are_tree : IsTree nodes
  made_nodes_are_tree = record {
    few_nodes = omega (arith, node_count n);
    few_bridges = omega (arith, bridge_count);
    bridges = λ i. no_parent (slice_get nodes i) (each_node n (λ i node. IsTrue (is_bridge node.kind) → node.parent ≡ None) (λ i low is. refl) (λ k low is. absurd cc) i);
    others = others;
    ports = one_place;
    forwarding = λ i j parent other a b same is. not_both (forwards_at nodes parent.node) (never_forwards parent.node) is;
    names = one_name;
    uids = one_uid;
    depths = λ i is. not_both (is_switch_at nodes i) (never_switch i) is;
    caps = legal;
    placeholders = λ i node there is. not_both node.forwards (each_node n (λ j m. m.forwards ≡ false) (λ j low. refl) (λ k low. refl) i node there) is;
    capacities = λ i node capacity there e. holds i node there capacity e;
  }
