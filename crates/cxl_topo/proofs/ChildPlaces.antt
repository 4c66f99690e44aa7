-- The places of children, with one more node entered below its parent.
use Rattle.std.proofs.Common.{◌≡◌, ◌≢◌, ℕ, ◌+◌, ◌*◌, ◌<◌, ◌≤◌, Bool, true, false, not, List, length, get_or, take, replicate, Option, Some, None, is_some, refl, sym, ap, ◌∙◌, inl, inr, arith}
use Rattle.std.specs.Prelude.{position, slice_get, slice_set}
use Rattle.std.specs.Option.{option_or, option_map_or, unwrap_or}
use Rattle.std.specs.BTreeMap.{BTreeMap, get}
use Rattle.std.proofs.lemmas.Bool.{cases_Bool, false≢true}
use Rattle.std.proofs.lemmas.Option.{same_Some, slice_get-get_or, slice_get_within}
use Rattle.std.proofs.lemmas.List.{length-take, length-replicate, get_or-replicate}
use Rattle.cxl_enc.proofs.Lists.{get_same, get_other}
use Rattle.cxl_topo.specs.declared.node.Node.{Node}
use Rattle.cxl_topo.specs.declared.node.Parent.{Parent}
use Rattle.cxl_topo.specs.Kinds.{is_bridge, is_endpoint}
use Rattle.cxl_topo.specs.Tree.{stands_at, stands_under, parent_of, child_of, least_child_of}
use Rattle.cxl_topo.specs.Faults.{lacks_parent, has_taken_port}
use Rattle.cxl_topo.specs.Keys.{Enters}
use Rattle.cxl_topo.specs.inner.Tables.{port_cmp}
use Rattle.cxl_topo.proofs.Entering.{position_more, entered_at, stands_at-own}
use Rattle.cxl_topo.proofs.There.{parent_there, at_port, at_is, at_node, under_is}

-- what is the same at each place is found there
pub filled : {X : Type 0} (n i : ℕ) (x : X) → i < n → slice_get (replicate n x) i ≡ Some x
filled n i x lt =
    let long : i < length (replicate n x) = omega (arith, length-replicate n x) in
    slice_get-get_or (replicate n x) i x long ∙ ap Some (get_or-replicate n i x x lt)

-- what is found at each of the first eight ports
abbrev pub Near : ℕ → List Node → List (Option ℕ) → Type 0
Near count nodes near = (n p : ℕ) → n < count → p < 8 → slice_get near (8 * n + p) ≡ Some (child_of nodes n p)

-- at each further port
abbrev pub Far : List Node → BTreeMap Parent ℕ → Type 0
Far nodes far = (parent : Parent) → 8 ≤ parent.port → get port_cmp far parent ≡ child_of nodes parent.node parent.port

-- and as the least child
abbrev pub Least : ℕ → List Node → List (Option ℕ) → Type 0
Least count nodes least = (n : ℕ) → n < count → slice_get least n ≡ Some (least_child_of nodes n)

module _ (count : ℕ) (nodes : List Node) (i : ℕ) (node : Node) (lt : i < length nodes) (is : node ≡ get_or nodes i node) where
  -- where the node does not pass, what is found stays
  stays : (test : Node → Bool) → test node ≡ false → position test (take i nodes) ≡ position test (take (i + 1) nodes)
  stays test misses = go (position test (take i nodes)) ∙ sym (position_more test nodes i node lt ∙ rw (← is, misses))
    where
      go : (o : Option ℕ) → o ≡ option_or o None
      go None = refl
      go (Some j) = refl

  -- where it passes, it is found unless an earlier one is
  found : (test : Node → Bool) → test node ≡ true → position test (take (i + 1) nodes) ≡ Some (unwrap_or (position test (take i nodes)) i)
  found test passes = position_more test nodes i node lt ∙ rw (← is, passes) (go (position test (take i nodes)))
    where
      go : (o : Option ℕ) → option_or o (Some i) ≡ Some (unwrap_or o i)
      go None = refl
      go (Some j) = refl

  -- ---- a node with no parent is the child of none

  module _ (none : node.parent ≡ None) where
    no_port : (n p : ℕ) → stands_at n p node ≡ false
    no_port n p = rw none

    not_under : (n : ℕ) → stands_under n node ≡ false
    not_under n = rw none

    pub near_alone : (near : List (Option ℕ)) → Near count (take i nodes) near → Near count (take (i + 1) nodes) near
    near_alone near before n p within few = before n p within few ∙ ap Some (stays (stands_at n p) (no_port n p))

    pub far_alone : (far : BTreeMap Parent ℕ) → Far (take i nodes) far → Far (take (i + 1) nodes) far
    far_alone far before parent further = before parent further ∙ stays (stands_at parent.node parent.port) (no_port parent.node parent.port)

    pub least_alone : (least : List (Option ℕ)) → Least count (take i nodes) least → Least count (take (i + 1) nodes) least
    least_alone least before n within = before n within ∙ ap Some (stays (stands_under n) (not_under n))

  -- ---- one with a parent is the child at its port

  module _ (own : Parent) (under : node.parent ≡ Some own) where
    own_is : (n p : ℕ) → stands_at n p node ≡ true → own ≡ record { node = n; port = p }
    own_is n p passes = same_Some own (record { node = n; port = p }) (sym under ∙ at_is node (record { node = n; port = p }) passes)

    another : (n p : ℕ) → p ≢ own.port → stands_at n p node ≡ false
    another n p other =
        elim (cases_Bool (stands_at n p node)) [
          | inl passes ↦ absurd (other (sym (ap (λ (parent : Parent). parent.port) (own_is n p passes))))
          | inr misses ↦ misses
        ]

    -- at one of the first eight
    pub near_entered : (near : List (Option ℕ)) → own.node < count → own.port < 8 → child_of (take i nodes) own.node own.port ≡ None → Near count (take i nodes) near → Near count (take (i + 1) nodes) (slice_set near (8 * own.node + own.port) (Some i))
    near_entered near there close free before n p within few =
        elim (cases_Bool (stands_at n p node)) [
          | inl passes ↦
              let same = own_is n p passes in
              let at : 8 * n + p ≡ 8 * own.node + own.port = ap (λ (parent : Parent). 8 * parent.node + parent.port) (sym same) in
              let first : child_of (take i nodes) n p ≡ None = ap (λ (parent : Parent). child_of (take i nodes) parent.node parent.port) (sym same) ∙ free in
              rw at (get_same near (8 * own.node + own.port) (Some i) (slice_get_within near (8 * own.node + own.port) _ (before own.node own.port there close)) ∙ ap Some (sym (found (stands_at n p) passes ∙ ap (λ (o : Option ℕ). Some (unwrap_or o i)) first)))
          | inr misses ↦ get_other near (8 * own.node + own.port) (8 * n + p) (Some i) (apart misses) ∙ before n p within few ∙ ap Some (stays (stands_at n p) misses)
        ]
      where
        apart : stands_at n p node ≡ false → 8 * n + p ≢ 8 * own.node + own.port
        apart misses same =
            let nodes_same : n ≡ own.node = omega (arith, same) in
            let ports_same : p ≡ own.port = omega (arith, same) in
            false≢true (sym misses ∙ ap (λ (m : ℕ). stands_at m p node) nodes_same ∙ ap (λ (q : ℕ). stands_at own.node q node) ports_same ∙ at_port node own under)

    pub far_kept : (far : BTreeMap Parent ℕ) → own.port < 8 → Far (take i nodes) far → Far (take (i + 1) nodes) far
    far_kept far close before parent further = before parent further ∙ stays (stands_at parent.node parent.port) (another parent.node parent.port (λ same. omega (arith, same)))

    -- at a further one
    pub far_entered : (old new : BTreeMap Parent ℕ) → Far (take i nodes) old → Enters port_cmp old new own i → Far (take (i + 1) nodes) new
    far_entered old new before enters parent further = entered_at port_cmp (λ key. stands_at key.node key.port) nodes i node lt is old new own parent (before parent further) (stands_at-own node own under parent) enters

    pub near_kept : (near : List (Option ℕ)) → 8 ≤ own.port → Near count (take i nodes) near → Near count (take (i + 1) nodes) near
    near_kept near far before n p within few = before n p within few ∙ ap Some (stays (stands_at n p) (another n p (λ same. omega (arith, same))))

    -- and it is the least child where its parent has no earlier one
    pub least_entered : (least : List (Option ℕ)) (was : Option ℕ) → own.node < count → slice_get least own.node ≡ Some was → Least count (take i nodes) least → Least count (take (i + 1) nodes) (slice_set least own.node (Some (unwrap_or was i)))
    least_entered least was there here before n within =
        elim (cases_Bool (stands_under n node)) [
          | inl passes ↦
              let parent = under_is node n passes in
              let same : own.node ≡ n = ap (λ (parent : Parent). parent.node) (same_Some own parent.0 (sym under ∙ parent.1)) ∙ parent.2 in
              let earlier : was ≡ least_child_of (take i nodes) n = same_Some was (least_child_of (take i nodes) n) (sym here ∙ before own.node there ∙ ap (λ (m : ℕ). Some (least_child_of (take i nodes) m)) same) in
              rw (← same) (get_same least own.node (Some (unwrap_or was i)) (slice_get_within least own.node was here)) ∙ ap (λ (o : Option ℕ). Some (Some (unwrap_or o i))) earlier ∙ ap Some (sym (found (stands_under n) passes))
          | inr misses ↦ get_other least own.node n (Some (unwrap_or was i)) (apart misses) ∙ before n within ∙ ap Some (stays (stands_under n) misses)
        ]
      where
        apart : stands_under n node ≡ false → n ≢ own.node
        apart misses same = false≢true (sym misses ∙ ap (λ (m : ℕ). stands_under m node) same ∙ at_node node own own.node under refl)

-- the parent of a node that lacks none is an earlier node
pub parent_listed : (earlier : List Node) (node : Node) (parent : Parent) → node.parent ≡ Some parent → lacks_parent earlier node ≡ false → parent.node < length earlier
parent_listed earlier node parent is sound = elim (cases_Bool (is_bridge node.kind)) [
  | inl bridge ↦ absurd (false≢true (sym (rw (bridge, is) at sound)))
  | inr other ↦ go (slice_get earlier parent.node) refl (rw (other, is) at sound)
]
  where
    go : (o : Option Node) → slice_get earlier parent.node ≡ o → not (option_map_or (λ (node : Node). not (is_endpoint node.kind)) o false) ≡ false → parent.node < length earlier
    go None e h = absurd (false≢true (sym h))
    go (Some above) e h = slice_get_within earlier parent.node above e

-- the nodes before one are no more than all
pub few : (nodes : List Node) (i : ℕ) → i < length nodes → length (take i nodes) ≤ length nodes
few nodes i lt = omega (arith, length-take i nodes)

-- the parent of the node at a place
pub parent_at : (nodes : List Node) (i : ℕ) (node : Node) (parent : Parent) → i < length nodes → node ≡ get_or nodes i node → node.parent ≡ Some parent → parent_of nodes i ≡ Some parent
parent_at nodes i node parent lt is under = parent_there nodes i node (Some parent) (slice_get-get_or nodes i node lt ∙ ap Some (sym is)) under

-- the parent of a node that lacks none is one of the nodes
pub parent_within : (nodes : List Node) (i : ℕ) (node : Node) → slice_get nodes i ≡ Some node → lacks_parent (take i nodes) node ≡ false → (parent : Parent) → parent_of nodes i ≡ Some parent → parent.node < length nodes
parent_within nodes i node here sound parent is =
    let own : node.parent ≡ Some parent = rw here at is in
    let low = parent_listed (take i nodes) node parent own sound in
    omega (arith, low, length-take i nodes)

-- where a node's port is not taken, no earlier node stands there
pub free_port : (nodes : List Node) (i : ℕ) (node : Node) → slice_get nodes i ≡ Some node → has_taken_port (take i nodes) node ≡ false → (parent : Parent) → parent_of nodes i ≡ Some parent → child_of (take i nodes) parent.node parent.port ≡ None
free_port nodes i node here free parent is =
    let own : node.parent ≡ Some parent = rw here at is in
    none (child_of (take i nodes) parent.node parent.port) (rw own at free)
  where
    none : (o : Option ℕ) → is_some o ≡ false → o ≡ None
    none None h = refl
    none (Some child) h = absurd (false≢true (sym h))
