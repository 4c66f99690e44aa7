-- A node by its place, from what is known of it.
use Rattle.std.proofs.Common.{◌≡◌, ℕ, zero, suc, ◌<◌, ◌==◌, Bool, true, false, not, ◌&&◌, List, [], ◌∷◌, length, Option, Some, None, option_map, refl, sym, ap, ◌∙◌, arith}
use Rattle.std.specs.Prelude.{slice_get}
use Rattle.std.specs.Option.{option_map_or, option_and_then}
use Rattle.std.proofs.lemmas.Bool.{false≢true, and_parts, eqb-true, eq-eqb, not_from_false}
use Rattle.std.proofs.lemmas.Option.{none-some, same_Some}
use Rattle.cxl_topo.specs.declared.node.Node.{Node}
use Rattle.cxl_topo.specs.declared.node.Parent.{Parent}
use Rattle.cxl_topo.specs.Kinds.{is_bridge, uid_of}
use Rattle.cxl_topo.specs.Tree.{holds_at, is_bridge_at, is_bridge_with, stands_at, stands_under, name_at, uid_at, parent_of}

pub node_there : (nodes : List Node) (i : ℕ) → i < length nodes → (node : Node) × (slice_get nodes i ≡ Some node)
node_there [] i lt = absurd (omega arith)
node_there (node ∷ nodes) zero lt = (node, refl)
node_there (node ∷ nodes) (suc i) lt = node_there nodes i (omega arith)

pub held : (nodes : List Node) (i : ℕ) (node : Node) (test : Node → Bool) → slice_get nodes i ≡ Some node → holds_at nodes i test ≡ test node
held nodes i node test there = ap (λ (o : Option Node). option_map_or test o false) there

-- a node that is no bridge is another node
pub is_other : (nodes : List Node) (i : ℕ) → i < length nodes → is_bridge_at nodes i ≡ false → holds_at nodes i (λ node. not (is_bridge node.kind)) ≡ true
is_other nodes i lt other =
    let one = node_there nodes i lt in
    held nodes i one.0 (λ node. not (is_bridge node.kind)) one.1 ∙ not_from_false (is_bridge one.0.kind) (sym (held nodes i one.0 (λ node. is_bridge node.kind) one.1) ∙ other)

-- the node at a place whose parent, name or UID is known
pub record StandsThere (nodes : List Node) (i : ℕ) (parent : Parent) : Type 0 where
  pub node : Node
  pub there : slice_get nodes i ≡ Some node
  pub parent_is : node.parent ≡ Some parent

pub stands_there : (nodes : List Node) (i : ℕ) (parent : Parent) → parent_of nodes i ≡ Some parent → StandsThere nodes i parent
stands_there nodes i parent is = go (slice_get nodes i) refl
  where
    go : (o : Option Node) → slice_get nodes i ≡ o → StandsThere nodes i parent
    go None e = absurd (none-some parent (sym (ap (option_and_then (λ (node : Node). node.parent)) e) ∙ is))
    go (Some node) e = record { node = node; there = e; parent_is = rw e at is }

pub record NamedThere (nodes : List Node) (i : ℕ) (name : List ℕ) : Type 0 where
  pub node : Node
  pub there : slice_get nodes i ≡ Some node
  pub is : node.name ≡ name

pub named_there : (nodes : List Node) (i : ℕ) (name : List ℕ) → name_at nodes i ≡ Some name → NamedThere nodes i name
named_there nodes i name is = go (slice_get nodes i) refl
  where
    go : (o : Option Node) → slice_get nodes i ≡ o → NamedThere nodes i name
    go None e = absurd (none-some name (sym (ap (option_map (λ (node : Node). node.name)) e) ∙ is))
    go (Some node) e = record { node = node; there = e; is = same_Some node.name name (rw e at is) }

pub record BridgeThere (nodes : List Node) (i uid : ℕ) : Type 0 where
  pub node : Node
  pub there : slice_get nodes i ≡ Some node
  pub is : uid_of node.kind ≡ Some uid

pub bridge_there : (nodes : List Node) (i uid : ℕ) → uid_at nodes i ≡ Some uid → BridgeThere nodes i uid
bridge_there nodes i uid is = go (slice_get nodes i) refl
  where
    go : (o : Option Node) → slice_get nodes i ≡ o → BridgeThere nodes i uid
    go None e = absurd (none-some uid (sym (ap (option_and_then (λ (node : Node). uid_of node.kind)) e) ∙ is))
    go (Some node) e = record { node = node; there = e; is = rw e at is }

pub parent_there : (nodes : List Node) (i : ℕ) (node : Node) (o : Option Parent) → slice_get nodes i ≡ Some node → node.parent ≡ o → parent_of nodes i ≡ o
parent_there nodes i node o there is = rw there is

-- ---- tests of a node, both ways

pub at_port : (node : Node) (parent : Parent) → node.parent ≡ Some parent → stands_at parent.node parent.port node ≡ true
at_port node parent is = rw (is, eq-eqb parent.node parent.node refl, eq-eqb parent.port parent.port refl)

same_parent : (own parent : Parent) → own.node ≡ parent.node → own.port ≡ parent.port → own ≡ parent
same_parent own parent n p = λ i. record { node = n i; port = p i }

pub at_is : (node : Node) (parent : Parent) → stands_at parent.node parent.port node ≡ true → node.parent ≡ Some parent
at_is node parent passes = go node.parent refl passes
  where
    go : (o : Option Parent) → node.parent ≡ o → option_map_or (λ (own : Parent). (own.node == parent.node) && (own.port == parent.port)) o false ≡ true → node.parent ≡ Some parent
    go None e p = absurd (false≢true p)
    go (Some own) e p =
        let parts = and_parts (own.node == parent.node) (own.port == parent.port) p in
        e ∙ ap Some (same_parent own parent (eqb-true own.node parent.node parts.0) (eqb-true own.port parent.port parts.1))

pub at_node : (node : Node) (parent : Parent) (n : ℕ) → node.parent ≡ Some parent → parent.node ≡ n → stands_under n node ≡ true
at_node node parent n is same = rw (is, eq-eqb parent.node n same)

pub under_is : (node : Node) (n : ℕ) → stands_under n node ≡ true → (parent : Parent) × (node.parent ≡ Some parent) × (parent.node ≡ n)
under_is node n passes = go node.parent refl passes
  where
    go : (o : Option Parent) → node.parent ≡ o → option_map_or (λ (parent : Parent). parent.node == n) o false ≡ true → (parent : Parent) × (node.parent ≡ Some parent) × (parent.node ≡ n)
    go None e p = absurd (false≢true p)
    go (Some parent) e p = (parent, e, eqb-true parent.node n p)

pub uid_is : (node : Node) (uid : ℕ) → is_bridge_with uid node ≡ true → uid_of node.kind ≡ Some uid
uid_is node uid passes = go (uid_of node.kind) passes
  where
    go : (o : Option ℕ) → option_map_or (λ (own : ℕ). own == uid) o false ≡ true → o ≡ Some uid
    go None p = absurd (false≢true p)
    go (Some own) p = ap Some (eqb-true own uid p)

pub with_uid : (node : Node) (uid : ℕ) → uid_of node.kind ≡ Some uid → is_bridge_with uid node ≡ true
with_uid node uid is = ap (λ (o : Option ℕ). option_map_or (λ (own : ℕ). own == uid) o false) is ∙ eq-eqb uid uid refl
