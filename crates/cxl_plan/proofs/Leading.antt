-- Where used ports lead.
use Rattle.std.proofs.Common.{◌≡◌, ℕ, zero, suc, ◌<◌, true, false, List, [], ◌∷◌, length, get_or, Option, Some, None, refl, arith}
use Rattle.std.specs.Option.{option_map_or}
use Rattle.std.specs.List.{range_with_len, list_all, All}
use Rattle.std.proofs.lemmas.Bool.{false≢true, and_parts}
use Rattle.std.proofs.lemmas.List.Elements.{filter_passes}
use Rattle.cxl_topo.specs.declared.node.Node.{Node}
use Rattle.cxl_topo.specs.declared.node.Parent.{Parent}
use Rattle.cxl_topo.specs.Tree.{child_of, parent_of, bridge_with}
use Rattle.cxl_topo.proofs.Trees.{KnownTree, parent_within, parent_is_port}
use Rattle.cxl_model.specs.declared.request.Request.{Request}
use Rattle.cxl_legal.specs.Used.{is_used, is_port_used}
use Rattle.cxl_legal.specs.Windows.{is_used_bridge}
use Rattle.cxl_plan.specs.inner.Uses.{tree_alone, ports_at}

pub ports_used : (nodes : List Node) (request : Request) (n : ℕ) → All (λ p. is_port_used (tree_alone nodes) request n p ≡ true) (ports_at nodes request n)
unfolding ports_at
ports_used nodes request n = filter_passes (is_port_used (tree_alone nodes) request n) (range_with_len 0 256)

-- the child at a used port
pub record IsUsedChild (nodes : List Node) (request : Request) (n port child : ℕ) : Type 0 where
  pub is : child_of nodes n port ≡ Some child
  pub used : is_used (tree_alone nodes) request child ≡ true
  pub inside : child < length nodes
  pub later : n < child

pub used_child : (nodes : List Node) → KnownTree nodes → (request : Request) (n port : ℕ) → is_port_used (tree_alone nodes) request n port ≡ true → (child : ℕ) × IsUsedChild nodes request n port child
used_child nodes known request n port used = go (child_of nodes n port) refl used
  where
    go : (o : Option ℕ) → child_of nodes n port ≡ o → option_map_or (is_used (tree_alone nodes) request) o false ≡ true → (child : ℕ) × IsUsedChild nodes request n port child
    go None e h = absurd (false≢true h)
    go (Some c) e h =
        let own : Parent = record { node = n; port = port } in
        let up : parent_of nodes c ≡ Some own = (known.laws.children n port c).0 e in
        let earlier = (parent_is_port known c own up).0 in
        (c, record { is = e; used = h; inside = parent_within nodes c own up; later = earlier })

-- a target of the window is a used bridge
pub target_at : (nodes : List Node) (request : Request) (targets : List ℕ) (k : ℕ) → list_all (is_used_bridge (tree_alone nodes) request) targets ≡ true → k < length targets → is_used_bridge (tree_alone nodes) request (get_or targets k 0) ≡ true
target_at nodes request [] k all below = absurd (omega arith)
target_at nodes request (x ∷ xs) zero all below = (and_parts (is_used_bridge (tree_alone nodes) request x) (list_all (is_used_bridge (tree_alone nodes) request) xs) all).0
target_at nodes request (x ∷ xs) (suc k) all below = target_at nodes request xs k (and_parts (is_used_bridge (tree_alone nodes) request x) (list_all (is_used_bridge (tree_alone nodes) request) xs) all).1 (omega arith)

pub used_bridge : (nodes : List Node) (request : Request) (uid : ℕ) → is_used_bridge (tree_alone nodes) request uid ≡ true → (b : ℕ) × (bridge_with nodes uid ≡ Some b) × (is_used (tree_alone nodes) request b ≡ true)
used_bridge nodes request uid used = go (bridge_with nodes uid) refl used
  where
    go : (o : Option ℕ) → bridge_with nodes uid ≡ o → option_map_or (is_used (tree_alone nodes) request) o false ≡ true → (b : ℕ) × (bridge_with nodes uid ≡ Some b) × (is_used (tree_alone nodes) request b ≡ true)
    go None e h = absurd (false≢true h)
    go (Some b) e h = (b, e, h)
