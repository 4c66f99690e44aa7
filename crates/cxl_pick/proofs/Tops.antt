-- The bridges above endpoints, and a window whose targets are the bridges above all endpoints of a request.
use Rattle.std.proofs.Common.{◌≡◌, ℕ, Bool, true, false, List, [], ◌∷◌, length, get_or, Option, Some, None, refl, sym, ap, ◌∙◌, inl, inr, arith}
use Rattle.std.specs.Prelude.{◌==◌, All}
use Rattle.std.specs.Option.{option_map_or}
use Rattle.std.specs.List.{list_any}
use Rattle.std.proofs.lemmas.Bool.{or_cases, or_right, eqb-true, false≢true}
use Rattle.std.proofs.lemmas.Option.{none-some, same_Some}
use Rattle.cxl_topo.specs.declared.node.Node.{Node}
use Rattle.cxl_topo.specs.Tree.{is_bridge_at, uid_at, parent_of, bridge_with}
use Rattle.cxl_topo.proofs.Trees.{KnownTree, up_tree, uid_top}
use Rattle.cxl_model.specs.declared.request.Request.{Request}
use Rattle.cxl_model.specs.System.{System}
use Rattle.cxl_model.specs.Rules.{are_distinct}
use Rattle.cxl_model.specs.Counts.{is_under}
use Rattle.cxl_model.proofs.Sums.{one, total, length-filter-total, total-same, total-zero, exchange, once, total_each}
use Rattle.cxl_model.proofs.Under.{under_root, under_step, under_self}
use Rattle.cxl_legal.specs.Used.{request_ways, count_under}
use Rattle.cxl_pick.proofs.Shares.{Asked}

-- ---- a node without a parent

pub record Top (nodes : List Node) (i : ℕ) : Type 0 where
  pub node : ℕ
  pub none : parent_of nodes node ≡ None
  pub above : is_under nodes node i ≡ true

pub top_of : {nodes : List Node} → KnownTree nodes → (i : ℕ) → Top nodes i
top_of {nodes} known =
    up_tree known (Top nodes)
    (λ i none. record { node = i; none = none; above = under_self known i })
    (λ i p some rest. record { node = rest.node; none = rest.none; above = under_step known rest.node i p some ∙ or_right (i == rest.node) (is_under nodes rest.node p.node) rest.above })

pub one_top : {nodes : List Node} → KnownTree nodes → (b d : ℕ) → parent_of nodes b ≡ None → parent_of nodes d ≡ None → (i : ℕ) → is_under nodes b i ≡ true → is_under nodes d i ≡ true → b ≡ d
one_top {nodes} known b d none empty =
    up_tree known (λ i. is_under nodes b i ≡ true → is_under nodes d i ≡ true → b ≡ d)
    (λ i top first second. sym (eqb-true i b (sym (under_root known b i top) ∙ first)) ∙ eqb-true i d (sym (under_root known d i top) ∙ second))
    (λ i p some rest first second.
    elim (or_cases (i == b) (is_under nodes b p.node) (sym (under_step known b i p some) ∙ first)) [
      | inl here ↦ absurd (none-some p (sym none ∙ ap (parent_of nodes) (sym (eqb-true i b here)) ∙ some))
      | inr above ↦ elim (or_cases (i == d) (is_under nodes d p.node) (sym (under_step known d i p some) ∙ second)) [
        | inl there ↦ absurd (none-some p (sym empty ∙ ap (parent_of nodes) (sym (eqb-true i d there)) ∙ some))
        | inr both ↦ rest above both
      ]
    ])

-- ---- the targets of a window

-- node i stands under the bridge of this UID
abbrev pub is_below : List Node → ℕ → ℕ → Bool
is_below nodes uid i = option_map_or (λ b. is_under nodes b i) (bridge_with nodes uid) false

-- the requested endpoints under the bridge of this UID
abbrev pub count_at_target : System → Request → ℕ → ℕ
count_at_target s request uid = option_map_or (count_under s request) (bridge_with s.nodes uid) 0

pub record BridgeOf (nodes : List Node) (uid : ℕ) : Type 0 where
  pub node : ℕ
  pub is : bridge_with nodes uid ≡ Some node
  pub uid_is : uid_at nodes node ≡ Some uid
  pub bridge : is_bridge_at nodes node ≡ true
  pub top : parent_of nodes node ≡ None

pub bridge_of : {nodes : List Node} → KnownTree nodes → (uid b : ℕ) → bridge_with nodes uid ≡ Some b → BridgeOf nodes uid
bridge_of {nodes} known uid b is =
    let own : uid_at nodes b ≡ Some uid = (known.laws.bridges uid b).0 is in
    let top = uid_top known b uid own in
    record { node = b; is = is; uid_is = own; bridge = top.0; top = top.1 }

pub bridge_node : {nodes : List Node} → (known : KnownTree nodes) → (uid b : ℕ) → (is : bridge_with nodes uid ≡ Some b) → (bridge_of known uid b is).node ≡ b
unfolding bridge_of
bridge_node known uid b is = refl

record Below (nodes : List Node) (uid i : ℕ) : Type 0 where
  pub own : BridgeOf nodes uid
  pub under : is_under nodes own.node i ≡ true

below : {nodes : List Node} → KnownTree nodes → (uid i : ℕ) → is_below nodes uid i ≡ true → Below nodes uid i
unfolding bridge_of
below {nodes} known uid i is = go (bridge_with nodes uid) refl is
  where
    go : (o : Option ℕ) → bridge_with nodes uid ≡ o → option_map_or (λ b. is_under nodes b i) o false ≡ true → Below nodes uid i
    go None at none = absurd (false≢true none)
    go (Some b) at under = record { own = bridge_of known uid b at; under = under }

one_target : {nodes : List Node} → KnownTree nodes → (i a b : ℕ) → is_below nodes a i ≡ true → is_below nodes b i ≡ true → a ≡ b
one_target {nodes} known i a b first second =
    let c = below known a i first in
    let d = below known b i second in
    let same : c.own.node ≡ d.own.node = one_top known c.own.node d.own.node c.own.top d.own.top i c.under d.under in
    same_Some a b (sym c.own.uid_is ∙ ap (uid_at nodes) same ∙ d.own.uid_is)

at_target : (s : System) (request : Request) (uid : ℕ) → count_at_target s request uid ≡ total (λ i. one (is_below s.nodes uid i)) request.endpoints
at_target s request uid = go (bridge_with s.nodes uid)
  where
    go : (o : Option ℕ) → option_map_or (count_under s request) o 0 ≡ total (λ i. one (option_map_or (λ b. is_under s.nodes b i) o false)) request.endpoints
    go None = sym (total-zero request.endpoints)
    go (Some b) = length-filter-total (is_under s.nodes b) request.endpoints

length_total : {X : Type 0} (xs : List X) → total (λ (x : X). 1) xs ≡ length xs
length_total [] = refl
length_total (x ∷ xs) = let rest = length_total xs in omega (arith, rest)

-- where each endpoint stands under a target, the shares of the targets are all
pub target_shares : {s : System} {request : Request} → Asked s request → (targets : List ℕ) → are_distinct targets ≡ true
    → All (λ i. list_any (λ uid. is_below s.nodes uid i) targets ≡ true) request.endpoints → total (count_at_target s request) targets ≡ request_ways request
target_shares {s} {request} is targets distinct each =
    total-same (count_at_target s request) (λ uid. total (λ i. one (is_below s.nodes uid i)) request.endpoints) (at_target s request) targets
    ∙ exchange (λ uid i. one (is_below s.nodes uid i)) targets request.endpoints
    ∙ total_each (λ i. total (λ uid. one (is_below s.nodes uid i)) targets) (λ i. 1) request.endpoints
    (λ k d within.
    once (λ uid. is_below s.nodes uid (get_or request.endpoints k d)) (one_target is.known (get_or request.endpoints k d)) targets distinct
    ∙ ap one (each k d within))
    ∙ length_total request.endpoints
