-- Where the endpoints of a request lie evenly, the code of a port follows from how many lie under it.
use Rattle.std.proofs.Common.{◌≡◌, ℕ, ◌+◌, ◌*◌, ◌^◌, Bool, true, false, if◌then◌else◌, List, [], length, map, Some, None, sym, ap, ◌∙◌, arith}
use Rattle.std.specs.Prelude.{◌==◌, sum_by}
use Rattle.std.proofs.lemmas.Nat.{pow-add}
use Rattle.std.proofs.lemmas.List.Sums.{sum_by-cons}
use Rattle.cxl_enc.specs.Codes.{bits_of, is_ways}
use Rattle.cxl_enc.specs.Caps.{is_target_count}
use Rattle.cxl_topo.specs.declared.node.Parent.{Parent}
use Rattle.cxl_topo.specs.Tree.{is_endpoint_at, is_port_at, parent_of, ports_above}
use Rattle.cxl_window.specs.Fields.{WindowFields}
use Rattle.cxl_topo.proofs.Trees.{up_tree, ports_none, ports_some, port_no_endpoint, parent_is_port}
use Rattle.cxl_model.specs.declared.request.Request.{Request}
use Rattle.cxl_model.specs.System.{System}
use Rattle.cxl_model.specs.Ranges.{product}
use Rattle.cxl_model.specs.Plans.{plan_code}
use Rattle.cxl_legal.specs.Used.{request_ways, is_used, count_under, used_ports, planned_ways, planned_ways_above, planned_bits_above, planned_code}
use Rattle.cxl_pick.specs.declared.want.Want.{Want}
use Rattle.cxl_pick.specs.Picking.{asked, port_code}
use Rattle.cxl_pick.proofs.Shares.{Asked, used_parent}
use Rattle.cxl_pick.proofs.Numbers.{count_split, exponent_is}

-- each used bridge has its share of the ways, and each used child of a port the share of one of its used ports
pub record LieEvenly (s : System) (request : Request) (w : WindowFields) : Type 0 where
  pub asked : Asked s request
  pub known : is_ways (request_ways request) ≡ true
  pub ways : is_ways w.ways ≡ true
  pub tops : (b : ℕ) → parent_of s.nodes b ≡ None → is_used s request b ≡ true → count_under s request b * w.ways ≡ request_ways request
  pub counts : (n : ℕ) → is_port_at s.nodes n ≡ true → is_used s request n ≡ true → is_target_count (length (used_ports s request n)) ≡ true
  pub children : (c : ℕ) (p : Parent) → parent_of s.nodes c ≡ Some p → is_used s request c ≡ true
      → length (used_ports s request p.node) * count_under s request c ≡ count_under s request p.node

pub port_ways : (s : System) (request : Request) (n : ℕ) → is_port_at s.nodes n ≡ true → planned_ways s request n ≡ length (used_ports s request n)
port_ways s request n port = ap (λ (b : Bool). if b then request_ways request else length (used_ports s request n)) (port_no_endpoint s.nodes n port)

ways_below : {s : System} {request : Request} → Asked s request → (c : ℕ) (p : Parent) → parent_of s.nodes c ≡ Some p
    → planned_ways_above s request c ≡ planned_ways s request p.node * planned_ways_above s request p.node
ways_below {s} {request} is c p child = ap (λ (ps : List Parent). product (map (λ parent. planned_ways s request parent.node) ps)) (ports_some is.known c p child)

bits_below : {s : System} {request : Request} → Asked s request → (c : ℕ) (p : Parent) → parent_of s.nodes c ≡ Some p
    → planned_bits_above s request c ≡ bits_of (planned_ways s request p.node) + planned_bits_above s request p.node
bits_below {s} {request} is c p child = ap (λ (ps : List Parent). sum_by (λ (parent : Parent). bits_of (planned_ways s request parent.node)) ps) (ports_some is.known c p child)
    ∙ sum_by-cons (λ (parent : Parent). bits_of (planned_ways s request parent.node)) p (ports_above s.nodes p.node)

-- the endpoints under a used node, times the ways above it and the window's, are all
pub shares_above : {s : System} {request : Request} {w : WindowFields} → LieEvenly s request w → (n : ℕ) → is_used s request n ≡ true
    → count_under s request n * planned_ways_above s request n * w.ways ≡ request_ways request
shares_above {s} {request} {w} even =
    up_tree even.asked.known (λ n. is_used s request n ≡ true → count_under s request n * planned_ways_above s request n * w.ways ≡ request_ways request)
    (λ n none used.
    let above : planned_ways_above s request n ≡ 1 = ap (λ (ps : List Parent). product (map (λ parent. planned_ways s request parent.node) ps)) (ports_none even.asked.known n none) in
    ap (λ (k : ℕ). count_under s request n * k * w.ways) above ∙ once_more (count_under s request n) w.ways ∙ even.tops n none used)
    (λ n p some rest used.
    let port = (parent_is_port even.asked.known n p some).1 in
    let above = ways_below even.asked n p some ∙ ap (λ (k : ℕ). k * planned_ways_above s request p.node) (port_ways s request p.node port) in
    ap (λ (k : ℕ). count_under s request n * k * w.ways) above
    ∙ turned (count_under s request n) (length (used_ports s request p.node)) (planned_ways_above s request p.node) w.ways
    ∙ ap (λ (k : ℕ). k * planned_ways_above s request p.node * w.ways) (even.children n p some used)
    ∙ rest (used_parent even.asked n p some used))
  where
    once_more : (a b : ℕ) → a * 1 * b ≡ a * b
    once_more a b = omega arith

    turned : (a p k w : ℕ) → a * (p * k) * w ≡ p * a * k * w
    turned a p k w = omega arith

-- those ways are a power of two
pub power_above : {s : System} {request : Request} {w : WindowFields} → LieEvenly s request w → (n : ℕ) → is_used s request n ≡ true
    → 2 ^ planned_bits_above s request n ≡ planned_ways_above s request n
power_above {s} {request} {w} even =
    up_tree even.asked.known (λ n. is_used s request n ≡ true → 2 ^ planned_bits_above s request n ≡ planned_ways_above s request n)
    (λ n none used. ap (λ (ps : List Parent). 2 ^ sum_by (λ (parent : Parent). bits_of (planned_ways s request parent.node)) ps) (ports_none even.asked.known n none)
    ∙ sym (ap (λ (ps : List Parent). product (map (λ parent. planned_ways s request parent.node) ps)) (ports_none even.asked.known n none)))
    (λ n p some rest used.
    let port = (parent_is_port even.asked.known n p some).1 in
    let higher = used_parent even.asked n p some used in
    let count : is_target_count (planned_ways s request p.node) ≡ true = ap is_target_count (port_ways s request p.node port) ∙ even.counts p.node port higher in
    ap (λ (k : ℕ). 2 ^ k) (bits_below even.asked n p some)
    ∙ pow-add 2 (bits_of (planned_ways s request p.node)) (planned_bits_above s request p.node)
    ∙ ap (λ (k : ℕ). k * 2 ^ planned_bits_above s request p.node) (count_split (planned_ways s request p.node) count)
    ∙ ap (λ (k : ℕ). planned_ways s request p.node * k) (rest higher)
    ∙ sym (ways_below even.asked n p some))

-- so the code of a port with several used ports is told by how many lie under it
pub code_told : {s : System} {want : Want} {w : WindowFields} {set : List ℕ} → LieEvenly s (asked want set) w → length set ≡ want.ways → (n : ℕ)
    → is_port_at s.nodes n ≡ true → is_used s (asked want set) n ≡ true → (planned_ways s (asked want set) n == 1) ≡ false
    → planned_code s (asked want set) w n ≡ port_code want w (count_under s (asked want set) n)
code_told {s} {want} {w} {set} even all n port used several =
    let request : Request = asked want set in
    let known : is_ways want.ways ≡ true = ap is_ways (sym all) ∙ even.known in
    let whole : count_under s request n * planned_ways_above s request n * w.ways ≡ want.ways = shares_above even n used ∙ all in
    let exponent = exponent_is want.ways (count_under s request n) (planned_ways_above s request n) (planned_bits_above s request n) w.ways known even.ways whole (power_above even n used) in
    let last : plan_code request w (request_ways request) + bits_of w.ways + planned_bits_above s request n ≡ plan_code (asked want []) w want.ways + (bits_of w.ways + planned_bits_above s request n) =
    ap (λ (k : ℕ). plan_code request w k + bits_of w.ways + planned_bits_above s request n) all ∙ omega arith in
    ap (λ (b : Bool). if b then 0 else (if is_endpoint_at s.nodes n then plan_code request w (request_ways request) else plan_code request w (request_ways request) + bits_of w.ways + planned_bits_above s request n)) several
    ∙ ap (λ (b : Bool). if b then plan_code request w (request_ways request) else plan_code request w (request_ways request) + bits_of w.ways + planned_bits_above s request n) (port_no_endpoint s.nodes n port)
    ∙ last
    ∙ ap (λ (k : ℕ). plan_code (asked want []) w want.ways + k) (sym exponent)
