-- The endpoints of a request that lie under a node lie under its used ports.
use Rattle.std.proofs.Common.{◌≡◌, ℕ, ◌*◌, Bool, true, false, List, length, get_or, Option, Some, None, refl, sym, ap, ◌∙◌, inl, inr}
use Rattle.std.specs.Prelude.{◌==◌, All}
use Rattle.std.specs.Option.{option_map_or}
use Rattle.std.specs.List.{list_any, range_with_len}
use Rattle.std.proofs.lemmas.Bool.{false≢true}
use Rattle.std.proofs.lemmas.Option.{same_Some}
use Rattle.std.proofs.lemmas.List.Folds.{Any-from_list_any}
use Rattle.cxl_enc.proofs.Lists.{list_any-weaker, is_in, none_filtered}
use Rattle.cxl_enc.proofs.Tests.{same_test}
use Rattle.cxl_enc.proofs.Numbers.{is_number}
use Rattle.cxl_topo.specs.declared.node.Node.{Node}
use Rattle.cxl_topo.specs.declared.node.Parent.{Parent}
use Rattle.cxl_topo.specs.Tree.{is_endpoint_at, parent_of, child_of}
use Rattle.cxl_topo.proofs.Trees.{KnownTree}
use Rattle.cxl_model.specs.declared.request.Request.{Request}
use Rattle.cxl_model.specs.System.{System}
use Rattle.cxl_model.specs.Counts.{is_under}
use Rattle.cxl_model.proofs.Sums.{one, total, length-filter-total, total-same, total-zero, exchange, once, total_each, total_same_each}
use Rattle.cxl_model.proofs.Under.{under_endpoint, under_parent}
use Rattle.cxl_model.proofs.Distinct.{numbers_differ}
use Rattle.cxl_legal.specs.Used.{HasBytePorts, AreEndpoints, is_used, count_under, is_port_used, used_ports, count_at_port}
use Rattle.cxl_pick.proofs.Below.{way_down, one_child}
use Rattle.cxl_pick.proofs.Lists.{filter_total}

-- a request of endpoints over a legal tree
pub record Asked (s : System) (request : Request) : Type 0 where
  pub known : KnownTree s.nodes
  pub ports : HasBytePorts s.nodes
  pub named : AreEndpoints s request

-- ---- used nodes

-- the parent of a used node is used
pub used_parent : {s : System} {request : Request} → Asked s request → (c : ℕ) (p : Parent) → parent_of s.nodes c ≡ Some p → is_used s request c ≡ true → is_used s request p.node ≡ true
used_parent {s} {request} is c p child used =
    list_any-weaker (is_under s.nodes c) (is_under s.nodes p.node) (under_parent is.known c p child) request.endpoints used

-- a used endpoint is one of the request
pub used_endpoint : {s : System} {request : Request} → Asked s request → (m : ℕ) → is_endpoint_at s.nodes m ≡ true → is_used s request m ≡ is_in m request.endpoints
used_endpoint {s} {request} is m endpoint =
    same_test (is_used s request m) (is_in m request.endpoints)
    (list_any-weaker (is_under s.nodes m) (λ e. e == m) (λ e under. sym (under_endpoint is.known m e endpoint) ∙ under) request.endpoints)
    (list_any-weaker (λ e. e == m) (is_under s.nodes m) (λ e same. under_endpoint is.known m e endpoint ∙ same) request.endpoints)

-- ---- what lies at a port

-- node i stands under the child of node n at port e
abbrev pub is_down : List Node → ℕ → ℕ → ℕ → Bool
is_down nodes n e i = option_map_or (λ c. is_under nodes c i) (child_of nodes n e) false

at_port : (s : System) (request : Request) (n e : ℕ) → count_at_port s request n e ≡ total (λ i. one (is_down s.nodes n e i)) request.endpoints
at_port s request n e = go (child_of s.nodes n e)
  where
    go : (o : Option ℕ) → option_map_or (count_under s request) o 0 ≡ total (λ i. one (option_map_or (λ c. is_under s.nodes c i) o false)) request.endpoints
    go None = sym (total-zero request.endpoints)
    go (Some c) = length-filter-total (is_under s.nodes c) request.endpoints

unused_port : (s : System) (request : Request) (n e : ℕ) → is_port_used s request n e ≡ false → count_at_port s request n e ≡ 0
unused_port s request n e unused = go (child_of s.nodes n e) unused
  where
    go : (o : Option ℕ) → option_map_or (is_used s request) o false ≡ false → option_map_or (count_under s request) o 0 ≡ 0
    go None none = refl
    go (Some c) none = none_filtered (is_under s.nodes c) request.endpoints none

pub record Down (nodes : List Node) (n e i : ℕ) : Type 0 where
  pub child : ℕ
  pub stands : child_of nodes n e ≡ Some child
  pub parent : parent_of nodes child ≡ Some (record { node = n; port = e })
  pub under : is_under nodes child i ≡ true

pub down_at : {nodes : List Node} → KnownTree nodes → (n e i : ℕ) → is_down nodes n e i ≡ true → Down nodes n e i
down_at {nodes} known n e i is = go (child_of nodes n e) refl is
  where
    go : (o : Option ℕ) → child_of nodes n e ≡ o → option_map_or (λ c. is_under nodes c i) o false ≡ true → Down nodes n e i
    go None at none = absurd (false≢true none)
    go (Some c) at under = record { child = c; stands = at; parent = (known.laws.children n e c).0 at; under = under }

-- below a node that is no endpoint, an endpoint stands at one of its ports
pub some_port : {s : System} {request : Request} → Asked s request → (n : ℕ) → is_endpoint_at s.nodes n ≡ false → (i : ℕ) → is_endpoint_at s.nodes i ≡ true
    → list_any (λ e. is_down s.nodes n e i) (range_with_len 0 256) ≡ is_under s.nodes n i
some_port {s} {request} is n port i endpoint = same_test (list_any (λ e. is_down s.nodes n e i) (range_with_len 0 256)) (is_under s.nodes n i) to from
  where
    to : list_any (λ e. is_down s.nodes n e i) (range_with_len 0 256) ≡ true → is_under s.nodes n i ≡ true
    to any =
        let some = Any-from_list_any (λ e. is_down s.nodes n e i) (range_with_len 0 256) any in
        let down = down_at is.known n some.1 i some.4 in
        under_parent is.known down.child (record { node = n; port = some.1 }) down.parent i down.under

    from : is_under s.nodes n i ≡ true → list_any (λ e. is_down s.nodes n e i) (range_with_len 0 256) ≡ true
    from under =
        elim (way_down is.known n i under) [
          | inl same ↦ absurd (false≢true (sym port ∙ ap (is_endpoint_at s.nodes) (sym same) ∙ endpoint))
          | inr way ↦
              is_number (λ e. is_down s.nodes n e i) 256 way.port (is.ports way.child (record { node = n; port = way.port }) way.parent)
              (ap (λ (o : Option ℕ). option_map_or (λ c. is_under s.nodes c i) o false) ((is.known.laws.children n way.port way.child).1 way.parent) ∙ way.under)
        ]

one_port : {nodes : List Node} → KnownTree nodes → (n i a b : ℕ) → is_down nodes n a i ≡ true → is_down nodes n b i ≡ true → a ≡ b
one_port {nodes} known n i a b first second =
    let c = down_at known n a i first in
    let d = down_at known n b i second in
    let same : c.child ≡ d.child = one_child known c.child d.child (record { node = n; port = a }) (record { node = n; port = b }) c.parent d.parent refl i c.under d.under in
    ap (λ (p : Parent). p.port) (same_Some (record { node = n; port = a }) (record { node = n; port = b }) (sym c.parent ∙ ap (parent_of nodes) same ∙ d.parent))

-- the shares of the used ports of a node are all that lies under it
pub shares : {s : System} {request : Request} → Asked s request → (n : ℕ) → is_endpoint_at s.nodes n ≡ false → total (count_at_port s request n) (used_ports s request n) ≡ count_under s request n
shares {s} {request} is n port =
    filter_total (count_at_port s request n) (is_port_used s request n) (unused_port s request n) (range_with_len 0 256)
    ∙ total-same (count_at_port s request n) (λ e. total (λ i. one (is_down s.nodes n e i)) request.endpoints) (at_port s request n) (range_with_len 0 256)
    ∙ exchange (λ e i. one (is_down s.nodes n e i)) (range_with_len 0 256) request.endpoints
    ∙ total_each (λ i. total (λ e. one (is_down s.nodes n e i)) (range_with_len 0 256)) (λ i. one (is_under s.nodes n i)) request.endpoints
    (λ k d within.
    once (λ e. is_down s.nodes n e (get_or request.endpoints k d)) (one_port is.known n (get_or request.endpoints k d)) (range_with_len 0 256) (numbers_differ 0 256)
    ∙ ap one (some_port is n port (get_or request.endpoints k d) (is.named k d within)))
    ∙ sym (length-filter-total (is_under s.nodes n) request.endpoints)

-- where each used port has the same share, as many times that share lie under the node
pub even_shares : {s : System} {request : Request} → Asked s request → (n v : ℕ) → is_endpoint_at s.nodes n ≡ false
    → All (λ e. count_at_port s request n e ≡ v) (used_ports s request n) → length (used_ports s request n) * v ≡ count_under s request n
even_shares {s} {request} is n v port each = sym (total_same_each (count_at_port s request n) v (used_ports s request n) each) ∙ shares is n port

-- the used child at a used port
pub record UsedChild (s : System) (request : Request) (n e : ℕ) : Type 0 where
  pub child : ℕ
  pub stands : child_of s.nodes n e ≡ Some child
  pub parent : parent_of s.nodes child ≡ Some (record { node = n; port = e })
  pub used : is_used s request child ≡ true
  pub count : count_at_port s request n e ≡ count_under s request child

pub used_child : {s : System} {request : Request} → Asked s request → (n e : ℕ) → is_port_used s request n e ≡ true → UsedChild s request n e
used_child {s} {request} is n e used = go (child_of s.nodes n e) refl used
  where
    go : (o : Option ℕ) → child_of s.nodes n e ≡ o → option_map_or (is_used s request) o false ≡ true → UsedChild s request n e
    go None at none = absurd (false≢true none)
    go (Some c) at there = record {
      child = c;
      stands = at;
      parent = (is.known.laws.children n e c).0 at;
      used = there;
      count = ap (λ (o : Option ℕ). option_map_or (count_under s request) o 0) at;
    }
