-- The used ports of a node: in rising order, a used child at each, one at a node that forwards, and how evenly requested endpoints lie under them.
use Rattle.std.proofs.Common.{◌≡◌, ℕ, ◌<◌, ◌≤◌, true, false, ◌&&◌, length, Option, Some, None, refl, sym, ap, ◌∙◌, eq-eqb, arith}
use Rattle.std.specs.Prelude.{◌==◌, nat_le, All}
use Rattle.std.specs.Option.{option_map_or}
use Rattle.std.specs.List.{list_any, range_with_len}
use Rattle.std.proofs.lemmas.Bool.{leb-true, and_parts, and_from, cond-false, false≢true}
use Rattle.std.proofs.lemmas.Option.{same_Some}
use Rattle.std.proofs.lemmas.List.Elements.{All-filter, filter_passes}
use Rattle.std.proofs.lemmas.List.FromFn.{length-range_with_len, get_or-range_with_len}
use Rattle.std.proofs.lemmas.List.Kept.{AllPairs-filter}
use Rattle.std.proofs.lemmas.Map.Keys.{any_passes_from_place}
use Rattle.cxl_enc.specs.Caps.{targets_of, is_target_count}
use Rattle.cxl_enc.proofs.Numbers.{is_number, numbers_rise}
use Rattle.cxl_enc.proofs.Tests.{asked}
use Rattle.cxl_topo.specs.declared.node.Parent.{Parent}
use Rattle.cxl_topo.specs.Tree.{forwards_at, is_endpoint_at, is_port_at, parent_of, child_of}
use Rattle.cxl_topo.proofs.Trees.{KnownTree, forwards_no_endpoint}
use Rattle.cxl_model.specs.declared.request.Request.{Request}
use Rattle.cxl_model.specs.System.{System}
use Rattle.cxl_model.specs.Rules.{are_distinct}
use Rattle.cxl_model.proofs.Sums.{one, length-filter-total, once}
use Rattle.cxl_model.proofs.Distinct.{numbers_differ, distinct_test}
use Rattle.cxl_legal.specs.Used.{HasBytePorts, AreEndpoints, request_ways, is_used, is_port_used, used_ports, planned_ways}
use Rattle.cxl_legal.specs.Endpoints.{FitsEndpoints, cap_at, has_even_ports, has_even_children, has_bridge_share}
use Rattle.cxl_legal.proofs.RowsUsed.{filter_keeps, number_at}
use Rattle.cxl_legal.proofs.UsedNodes.{used_child}

-- ---- used ports

pub port_used : (s : System) (request : Request) → KnownTree s.nodes → (n e child : ℕ) → parent_of s.nodes child ≡ Some (record { node = n; port = e }) → is_used s request child ≡ true
    → is_port_used s request n e ≡ true
port_used s request known n e child parent used = ap (λ (o : Option ℕ). option_map_or (is_used s request) o false) ((known.laws.children n e child).1 parent) ∙ used

-- the child at a used port
pub record PortChild (s : System) (request : Request) (n e : ℕ) : Type 0 where
  pub child : ℕ
  pub stands : child_of s.nodes n e ≡ Some child
  pub parent : parent_of s.nodes child ≡ Some (record { node = n; port = e })
  pub used : is_used s request child ≡ true

pub port_child : (s : System) (request : Request) → KnownTree s.nodes → (n e : ℕ) → is_port_used s request n e ≡ true → PortChild s request n e
port_child s request known n e used = go (child_of s.nodes n e) refl used
  where
    go : (o : Option ℕ) → child_of s.nodes n e ≡ o → option_map_or (is_used s request) o false ≡ true → PortChild s request n e
    go None at is = absurd (false≢true is)
    go (Some child) at is = record { child = child; stands = at; parent = (known.laws.children n e child).0 at; used = is }

-- a used port stands in the list of them
pub listed_port : (s : System) (request : Request) (n e : ℕ) → e < 256 → is_port_used s request n e ≡ true → list_any (λ x. x == e) (used_ports s request n) ≡ true
listed_port s request n e low used =
    let kept = filter_keeps (is_port_used s request n) (range_with_len 0 256) e e (number_at 256 e low) used in
    any_passes_from_place (λ x. x == e) (used_ports s request n) kept.0 e kept.1 (eq-eqb e e refl)

pub ports_pass : (s : System) (request : Request) (n : ℕ) → All (λ e. is_port_used s request n e ≡ true) (used_ports s request n)
ports_pass s request n = filter_passes (is_port_used s request n) (range_with_len 0 256)

pub ports_small : (s : System) (request : Request) (n : ℕ) → All (λ e. e < 256) (used_ports s request n)
ports_small s request n =
    All-filter (is_port_used s request n) (λ (e : ℕ). e < 256) (range_with_len 0 256) (λ k d within.
    let long = length-range_with_len 0 256 in
    let at = get_or-range_with_len 0 256 k d (omega arith) in
    omega arith)

pub ports_distinct : (s : System) (request : Request) (n : ℕ) → are_distinct (used_ports s request n) ≡ true
ports_distinct s request n =
    distinct_test (used_ports s request n) (λ i j d less within same.
    let rises = AllPairs-filter (λ a b. a < b) (is_port_used s request n) (range_with_len 0 256) (numbers_rise 256) i j d less within in
    omega (arith, rises, same))

-- a used node that is no endpoint has a used port
pub own_port : (s : System) (request : Request) → KnownTree s.nodes → HasBytePorts s.nodes → AreEndpoints s request → (n : ℕ) → is_endpoint_at s.nodes n ≡ false → is_used s request n ≡ true
    → list_any (is_port_used s request n) (range_with_len 0 256) ≡ true
own_port s request known ports named n port used =
    let next = used_child s request known named n used port in
    is_number (is_port_used s request n) 256 next.port (ports next.child (record { node = n; port = next.port }) next.parent) (port_used s request known n next.port next.child next.parent next.used)

-- one that forwards has one
pub forwarding_ports : (s : System) (request : Request) → KnownTree s.nodes → HasBytePorts s.nodes → AreEndpoints s request → (n : ℕ) → forwards_at s.nodes n ≡ true → is_used s request n ≡ true
    → length (used_ports s request n) ≡ 1
forwarding_ports s request known ports named n forwards used =
    length-filter-total (is_port_used s request n) (range_with_len 0 256)
    ∙ once (is_port_used s request n) same (range_with_len 0 256) (numbers_differ 0 256)
    ∙ ap one (own_port s request known ports named n (forwards_no_endpoint known n forwards) used)
  where
    same : (a b : ℕ) → is_port_used s request n a ≡ true → is_port_used s request n b ≡ true → a ≡ b
    same a b first second =
        let left = port_child s request known n a first in
        let right = port_child s request known n b second in
        let equal : left.child ≡ right.child = known.tree.forwarding left.child right.child (record { node = n; port = a }) (record { node = n; port = b }) left.parent right.parent refl forwards in
        ap (λ (p : Parent). p.port) (same_Some (record { node = n; port = a }) (record { node = n; port = b }) (sym left.parent ∙ ap (parent_of s.nodes) equal ∙ right.parent))

-- the ways that a port would have
pub port_ways : (s : System) (request : Request) (n : ℕ) → is_endpoint_at s.nodes n ≡ false → planned_ways s request n ≡ length (used_ports s request n)
port_ways s request n port = cond-false (is_endpoint_at s.nodes n) (request_ways request) (length (used_ports s request n)) port

-- ---- how evenly requested endpoints lie

pub record Even (s : System) (request : Request) (n : ℕ) : Type 0 where
  pub count : is_target_count (length (used_ports s request n)) ≡ true
  pub few : length (used_ports s request n) ≤ targets_of (cap_at s n)
  pub children : has_even_children s request n ≡ true
  pub share : has_bridge_share s request n ≡ true

pub even_at : (s : System) (request : Request) → FitsEndpoints s request → (n : ℕ) → is_port_at s.nodes n ≡ true → is_used s request n ≡ true → Even s request n
even_at s request fits n port used =
    let all = asked (is_port_at s.nodes n && is_used s request n) (has_even_ports s request n && has_even_children s request n && has_bridge_share s request n) (fits.even n)
    (and_from (is_port_at s.nodes n) (is_used s request n) port used) in
    let outer = and_parts (has_even_ports s request n && has_even_children s request n) (has_bridge_share s request n) all in
    let inner = and_parts (has_even_ports s request n) (has_even_children s request n) outer.0 in
    let parts = and_parts (is_target_count (length (used_ports s request n))) (nat_le (length (used_ports s request n)) (targets_of (cap_at s n))) inner.0 in
    record { count = parts.0; few = leb-true (length (used_ports s request n)) (targets_of (cap_at s n)) parts.1; children = inner.1; share = outer.1 }
