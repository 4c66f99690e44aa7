-- The used nodes of a tree: what stands above one is used, and so is a child of each that is no endpoint.
use Rattle.std.proofs.Common.{◌≡◌, ℕ, ◌<◌, true, false, List, length, Some, sym, ap, ◌∙◌, inl, inr, arith}
use Rattle.std.specs.Prelude.{◌==◌, Contains}
use Rattle.std.proofs.lemmas.Bool.{or_cases, or_right, eqb-true, false≢true}
use Rattle.std.proofs.lemmas.List.Elements.{All-contains}
use Rattle.std.proofs.lemmas.List.Folds.{Any-from_list_any, list_any-from_Any}
use Rattle.cxl_topo.specs.declared.node.Node.{Node}
use Rattle.cxl_topo.specs.declared.node.Parent.{Parent}
use Rattle.cxl_topo.specs.Tree.{is_bridge_at, is_endpoint_at, parent_of}
use Rattle.cxl_topo.proofs.Bridges.{top_bridge}
use Rattle.cxl_topo.proofs.Trees.{KnownTree, parent_is_port, up_tree, is_above, above_root, above_step, root_of, root_root, root_step}
use Rattle.cxl_model.specs.declared.request.Request.{Request}
use Rattle.cxl_model.specs.System.{System}
use Rattle.cxl_model.specs.Counts.{is_under}
use Rattle.cxl_model.proofs.Under.{under_self, under_parent, under_step, under_is}
use Rattle.cxl_legal.specs.Used.{AreEndpoints, is_used}

-- ---- ways down

-- the child of node n on the way down to node m
pub record ChildTo (nodes : List Node) (n m : ℕ) : Type 0 where
  pub child : ℕ
  pub port : ℕ
  pub parent : parent_of nodes child ≡ Some (record { node = n; port = port })
  pub under : is_under nodes child m ≡ true

pub child_to : {nodes : List Node} → KnownTree nodes → (n m : ℕ) → is_above nodes n m ≡ true → ChildTo nodes n m
child_to {nodes} known n =
    up_tree known (λ m. is_above nodes n m ≡ true → ChildTo nodes n m)
    (λ m none above. absurd (false≢true (sym (above_root known n m none) ∙ above)))
    (λ m p some rest above.
    elim (or_cases (p.node == n) (is_above nodes n p.node) (sym (above_step known n m p some) ∙ above)) [
      | inl here ↦ record { child = m; port = p.port; parent = some ∙ ap Some (own p (eqb-true p.node n here)); under = under_self known m }
      | inr higher ↦
          let next = rest higher in
          record { child = next.child; port = next.port; parent = next.parent; under = under_step known next.child m p some ∙ or_right (m == next.child) (is_under nodes next.child p.node) next.under }
    ])
  where
    own : (p : Parent) → p.node ≡ n → p ≡ record { node = n; port = p.port }
    own p node = λ k. record { node = node k; port = p.port }

-- ---- used nodes

-- a requested endpoint under a node
pub record EndpointUnder (s : System) (request : Request) (n : ℕ) : Type 0 where
  pub m : ℕ
  pub there : Contains request.endpoints m
  pub under : is_under s.nodes n m ≡ true

pub requested_under : (s : System) (request : Request) (n : ℕ) → is_used s request n ≡ true → EndpointUnder s request n
requested_under s request n used =
    let some = Any-from_list_any (is_under s.nodes n) request.endpoints used in
    record { m = some.1; there = (some.0, some.2, some.3); under = some.4 }

pub used_by : (s : System) (request : Request) (n m : ℕ) → Contains request.endpoints m → is_under s.nodes n m ≡ true → is_used s request n ≡ true
used_by s request n m there under = list_any-from_Any (is_under s.nodes n) request.endpoints (there.0, m, there.1, there.2, under)

pub used_parent : (s : System) (request : Request) → KnownTree s.nodes → (i : ℕ) (p : Parent) → parent_of s.nodes i ≡ Some p → is_used s request i ≡ true → is_used s request p.node ≡ true
used_parent s request known i p some used =
    let one = requested_under s request i used in
    used_by s request p.node one.m one.there (under_parent known i p some one.m one.under)

-- a requested endpoint under another node stands above it
pub above_requested : (s : System) (request : Request) → KnownTree s.nodes → AreEndpoints s request → (n m : ℕ) → is_endpoint_at s.nodes n ≡ false → Contains request.endpoints m → is_under s.nodes n m ≡ true
    → is_above s.nodes n m ≡ true
above_requested s request known named n m port there under =
    elim (or_cases (m == n) (is_above s.nodes n m) (sym (under_is known n m) ∙ under)) [
      | inl here ↦
          let endpoint = All-contains (λ e. is_endpoint_at s.nodes e ≡ true) request.endpoints m named there in
          absurd (false≢true (sym port ∙ ap (is_endpoint_at s.nodes) (sym (eqb-true m n here)) ∙ endpoint))
      | inr above ↦ above
    ]

-- a used child of a used node that is no endpoint
pub record UsedChild (s : System) (request : Request) (n : ℕ) : Type 0 where
  pub child : ℕ
  pub port : ℕ
  pub parent : parent_of s.nodes child ≡ Some (record { node = n; port = port })
  pub used : is_used s request child ≡ true

pub used_child : (s : System) (request : Request) → KnownTree s.nodes → AreEndpoints s request → (n : ℕ) → is_used s request n ≡ true → is_endpoint_at s.nodes n ≡ false → UsedChild s request n
used_child s request known named n used port =
    let one = requested_under s request n used in
    let next = child_to known n one.m (above_requested s request known named n one.m port one.there one.under) in
    record { child = next.child; port = next.port; parent = next.parent; used = used_by s request next.child one.m one.there next.under }

-- ---- bridges

-- the bridge on the path of a used node
pub record UsedRoot (s : System) (request : Request) (n : ℕ) : Type 0 where
  pub bridge : ℕ
  pub root : root_of s.nodes n ≡ Some bridge
  pub is : is_bridge_at s.nodes bridge ≡ true
  pub used : is_used s request bridge ≡ true
  pub within : bridge < length s.nodes

pub used_root : (s : System) (request : Request) → KnownTree s.nodes → (n : ℕ) → n < length s.nodes → is_used s request n ≡ true → UsedRoot s request n
used_root s request known =
    up_tree known (λ i. i < length s.nodes → is_used s request i ≡ true → UsedRoot s request i)
    (λ i none within used. record { bridge = i; root = root_root known i none; is = top_bridge known i none within; used = used; within = within })
    (λ i p some rest within used.
    let up = (parent_is_port known i p some).0 in
    let above = rest (omega (arith, up, within)) (used_parent s request known i p some used) in
    record { bridge = above.bridge; root = root_step known i p some ∙ above.root; is = above.is; used = above.used; within = above.within })
