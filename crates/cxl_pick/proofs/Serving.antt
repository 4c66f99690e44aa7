-- Where a set of endpoints keeps all that a request has to, each used node gives as many endpoints as lie under it.
use Rattle.std.proofs.Common.{◌≡◌, ℕ, zero, suc, ◌+◌, ◌-◌, ◌*◌, ◌/◌, ◌%◌, ◌<◌, ◌≤◌, Bool, true, false, not, max, ◌&&◌, ◌||◌, if◌then◌else◌, List, [], ◌∷◌, length, get_or, Some, None, refl, sym, ap, ◌∙◌, inl, inr, arith}
use Rattle.std.specs.Prelude.{◌==◌, nat_le, nat_lt, unwrap_or, find, option_map, take}
use Rattle.std.specs.Option.{option_map_or}
use Rattle.std.specs.List.{list_any, filter_map, flat_map, range_with_len}
use Rattle.std.proofs.Math.Nat.{mul-div_cancel_left, mul-mod_right}
use Rattle.std.proofs.lemmas.Bool.{cases_Bool, and_parts, and_from, or_left, or_right, eqb-true, eq-eqb, leb-true, le-leb, false≢true, not_from_false}
use Rattle.std.proofs.lemmas.List.Folds.{Any-from_list_any}
use Rattle.cxl_enc.specs.Codes.{bits_of, code_in_table}
use Rattle.cxl_enc.specs.Caps.{targets_of, is_target_count}
use Rattle.cxl_enc.proofs.Lists.{is_in, in_is}
use Rattle.cxl_enc.proofs.Tests.{asked_or, asked_not}
use Rattle.cxl_topo.specs.Tree.{is_endpoint_at, is_port_at, parent_of, child_of}
use Rattle.cxl_topo.specs.Laws.{AreTreeLaws}
use Rattle.cxl_regs.specs.Rules.{endpoint_ways_ok, select_ok}
use Rattle.cxl_span.specs.Allotting.{all_committed, cursor_of}
use Rattle.cxl_span.specs.Partitions.{partition_start, partition_end}
use Rattle.cxl_window.specs.Fields.{WindowFields}
use Rattle.cxl_topo.proofs.Trees.{parent_is_port}
use Rattle.cxl_model.specs.declared.request.Request.{Request}
use Rattle.cxl_model.specs.System.{System, decoders_at, ram_at, pmem_at}
use Rattle.cxl_model.specs.Counts.{is_under}
use Rattle.cxl_model.specs.Rules.{are_distinct}
use Rattle.cxl_model.specs.Plans.{plan_code}
use Rattle.cxl_model.proofs.Sums.{one, length-filter-total, total-same, once}
use Rattle.cxl_model.proofs.Under.{under_endpoint}
use Rattle.cxl_model.proofs.Distinct.{distinct_test}
use Rattle.cxl_legal.specs.Used.{request_ways, is_used, count_under, is_port_used, used_ports, planned_ways, planned_bits_above, planned_code}
use Rattle.cxl_legal.specs.Endpoints.{cap_at, share_of}
use Rattle.cxl_legal.specs.Bases.{last_end, base_step}
use Rattle.cxl_legal.specs.Stated.{Fits}
use Rattle.cxl_legal.proofs.UsedPorts.{ports_pass}
use Rattle.cxl_pick.specs.declared.want.Want.{Want}
use Rattle.cxl_pick.specs.Picking.{asked, wanted_code, is_open, wanted_share, has_room, can_serve_itself, port_code, can_serve_by, children_of, gives_within}
use Rattle.cxl_pick.proofs.Below.{way_down}
use Rattle.cxl_pick.proofs.Lists.{found}
use Rattle.cxl_pick.proofs.Shares.{Asked, used_endpoint, used_child}
use Rattle.cxl_pick.proofs.Numbers.{count_tried, some_count}
use Rattle.cxl_pick.proofs.Codes.{port_ways, code_told}
use Rattle.cxl_pick.proofs.Evenly.{even_at, evenly, asked_of, used_within}
use Rattle.cxl_pick.proofs.Giving.{step_below, at_endpoint, at_port, more_given}

pub record Kept (s : System) (want : Want) (w : WindowFields) (set : List ℕ) (base : ℕ) : Type 0 where
  pub laws : AreTreeLaws s.nodes
  pub all : length set ≡ want.ways
  pub fits : Fits s (asked want set) w base

-- the latest start, where the region fits the window
abbrev pub latest : Want → WindowFields → ℕ
latest want w = w.base + (w.size - want.size) / base_step w * base_step w

pub small_enough : {s : System} {want : Want} {w : WindowFields} {set : List ℕ} {base : ℕ} → Kept s want w set base → want.size ≤ w.size
small_enough {s} {want} {w} {set} {base} kept =
    let from = kept.fits.starts.can.from in
    let inside = kept.fits.starts.inside in
    omega (arith, from, inside)

base_low : {s : System} {want : Want} {w : WindowFields} {set : List ℕ} {base : ℕ} → Kept s want w set base → base ≤ latest want w
base_low {s} {want} {w} {set} {base} kept =
    let from = kept.fits.starts.can.from in
    let inside = kept.fits.starts.inside in
    let less : base - w.base ≤ w.size - want.size = omega (arith, from, inside) in
    let last = step_below (w.ways % 3 == 0) (base - w.base) (w.size - want.size) kept.fits.starts.can.step less in
    omega (arith, from, last)

pub open_used : {s : System} {want : Want} {w : WindowFields} {set : List ℕ} {base : ℕ} → Kept s want w set base → (n : ℕ) → is_used s (asked want set) n ≡ true → is_open s (latest want w) n ≡ true
open_used {s} {want} {w} {set} {base} kept n used =
    let left = asked_not (is_used s (asked want set) n) (all_committed (decoders_at s n)) (kept.fits.endpoints.left n) used in
    let after = kept.fits.starts.can.after n used in
    let low = base_low kept in
    and_from (not (all_committed (decoders_at s n))) (nat_le (last_end s n) (latest want w)) (not_from_false (all_committed (decoders_at s n)) left)
    (le-leb (last_end s n) (latest want w) (omega (arith, after, low)))

-- ---- an endpoint

pub one_under : {s : System} {request : Request} → Asked s request → (n : ℕ) → is_endpoint_at s.nodes n ≡ true → is_used s request n ≡ true
    → are_distinct request.endpoints ≡ true → count_under s request n ≡ 1
one_under {s} {request} is n endpoint used distinct =
    length-filter-total (is_under s.nodes n) request.endpoints
    ∙ total-same (λ i. one (is_under s.nodes n i)) (λ i. one (i == n)) (λ i. ap one (under_endpoint is.known n i endpoint)) request.endpoints
    ∙ once (λ i. i == n) (λ a b first second. eqb-true a n first ∙ sym (eqb-true b n second)) request.endpoints distinct
    ∙ ap one (sym (used_endpoint is n endpoint) ∙ used)

-- the code that an endpoint would have is that of the region
pub endpoint_code : (s : System) (request : Request) (w : WindowFields) (n : ℕ) → is_endpoint_at s.nodes n ≡ true → planned_code s request w n ≡ plan_code request w (request_ways request)
endpoint_code s request w n is = go (request_ways request == 1) refl
  where
    ways : planned_ways s request n ≡ request_ways request
    ways = ap (λ (b : Bool). if b then request_ways request else length (used_ports s request n)) is

    go : (b : Bool) → (request_ways request == 1) ≡ b → planned_code s request w n ≡ plan_code request w (request_ways request)
    go true single =
        ap (λ (b : Bool). if b then 0 else (if is_endpoint_at s.nodes n then plan_code request w (request_ways request) else plan_code request w (request_ways request) + bits_of w.ways + planned_bits_above s request n)) (ap (λ (k : ℕ). k == 1) ways ∙ single)
        ∙ sym (ap (λ (b : Bool). if b then 0 else (if nat_lt 1 w.ways then w.gran else unwrap_or request.gran w.gran)) single)
    go false several =
        ap (λ (b : Bool). if b then 0 else (if is_endpoint_at s.nodes n then plan_code request w (request_ways request) else plan_code request w (request_ways request) + bits_of w.ways + planned_bits_above s request n)) (ap (λ (k : ℕ). k == 1) ways ∙ several)
        ∙ ap (λ (b : Bool). if b then plan_code request w (request_ways request) else plan_code request w (request_ways request) + bits_of w.ways + planned_bits_above s request n) is

room_is : {s : System} {want : Want} {w : WindowFields} {set : List ℕ} {base : ℕ} → Kept s want w set base → (n : ℕ) → is_in n set ≡ true → has_room s want n ≡ true
room_is {s} {want} {w} {set} {base} kept n there =
    let room = kept.fits.endpoints.room n (in_is set n there) in
    let parts = and_parts (nat_le (partition_start want.kind (ram_at s n)) room.0.start) (nat_le (room.0.start + share_of (asked want set)) (partition_end want.kind (ram_at s n) (pmem_at s n))) room.1.can_start.inside in
    let low = leb-true (partition_start want.kind (ram_at s n)) room.0.start parts.0 in
    let high = leb-true (room.0.start + share_of (asked want set)) (partition_end want.kind (ram_at s n) (pmem_at s n)) parts.1 in
    let after = room.1.can_start.after in
    let share : share_of (asked want set) ≡ wanted_share want = ap (λ (k : ℕ). want.size / k) kept.all in
    le-leb (max (cursor_of (decoders_at s n)) (partition_start want.kind (ram_at s n)) + wanted_share want) (partition_end want.kind (ram_at s n) (pmem_at s n))
    (omega (arith, low, high, after, share))

pub serves_itself : {s : System} {want : Want} {w : WindowFields} {set : List ℕ} {base : ℕ} → Kept s want w set base → (n : ℕ) → is_endpoint_at s.nodes n ≡ true → is_used s (asked want set) n ≡ true
    → can_serve_itself s want w (latest want w) n ≡ true
serves_itself {s} {want} {w} {set} {base} kept n endpoint used =
    and_from (is_open s (latest want w) n && option_map_or (endpoint_ways_ok (cap_at s n)) (code_in_table want.ways) false && select_ok (cap_at s n) (wanted_code want w) (bits_of want.ways)) (has_room s want n)
    (and_from (is_open s (latest want w) n && option_map_or (endpoint_ways_ok (cap_at s n)) (code_in_table want.ways) false) (select_ok (cap_at s n) (wanted_code want w) (bits_of want.ways))
    (and_from (is_open s (latest want w) n) (option_map_or (endpoint_ways_ok (cap_at s n)) (code_in_table want.ways) false) (open_used kept n used) ways_is)
    select_is)
    (room_is kept n (sym (used_endpoint (asked_of kept.laws kept.fits) n endpoint) ∙ used))
  where
    ways_is : option_map_or (endpoint_ways_ok (cap_at s n)) (code_in_table want.ways) false ≡ true
    ways_is =
        ap (λ (k : ℕ). option_map_or (endpoint_ways_ok (cap_at s n)) (code_in_table k) false) (sym kept.all)
        ∙ asked_or (is_endpoint_at s.nodes n && is_used s (asked want set) n) (option_map_or (endpoint_ways_ok (cap_at s n)) (code_in_table (length set)) false) (kept.fits.window.ways n)
        (and_from (is_endpoint_at s.nodes n) (is_used s (asked want set) n) endpoint used)

    select_is : select_ok (cap_at s n) (wanted_code want w) (bits_of want.ways) ≡ true
    select_is =
        let code : planned_code s (asked want set) w n ≡ wanted_code want w = endpoint_code s (asked want set) w n endpoint ∙ ap (plan_code (asked want []) w) kept.all in
        let count : planned_ways s (asked want set) n ≡ want.ways = ap (λ (b : Bool). if b then length set else length (used_ports s (asked want set) n)) endpoint ∙ kept.all in
        let both = asked_or (is_used s (asked want set) n) (nat_le (planned_code s (asked want set) w n) 6 && select_ok (cap_at s n) (planned_code s (asked want set) w n) (bits_of (planned_ways s (asked want set) n))) (kept.fits.window.selects n) used in
        let own = (and_parts (nat_le (planned_code s (asked want set) w n) 6) (select_ok (cap_at s n) (planned_code s (asked want set) w n) (bits_of (planned_ways s (asked want set) n))) both).1 in
        (λ k. select_ok (cap_at s n) (sym code k) (bits_of (sym count k))) ∙ own

-- ---- a port

-- how many used ports a node has, and how many of the set lie under it
abbrev pub ports_of : System → Want → List ℕ → ℕ → ℕ
ports_of s want set n = length (used_ports s (asked want set) n)

abbrev pub under_of : System → Want → List ℕ → ℕ → ℕ
under_of s want set n = count_under s (asked want set) n

-- a port selects, where it has several used ports
abbrev selecting : System → Want → WindowFields → List ℕ → ℕ → Bool
selecting s want w set n =
    nat_le (port_code want w (under_of s want set n)) 6 && select_ok (cap_at s n) (port_code want w (under_of s want set n)) (bits_of (ports_of s want set n))

selects_port : {s : System} {want : Want} {w : WindowFields} {set : List ℕ} {base : ℕ} → Kept s want w set base → (n : ℕ) → is_port_at s.nodes n ≡ true → is_used s (asked want set) n ≡ true
    → ((ports_of s want set n == 1) || selecting s want w set n) ≡ true
selects_port {s} {want} {w} {set} {base} kept n port used =
    elim (cases_Bool (ports_of s want set n == 1)) [
      | inl single ↦ or_left (ports_of s want set n == 1) (selecting s want w set n) single
      | inr several ↦
          let ways : planned_ways s (asked want set) n ≡ ports_of s want set n = port_ways s (asked want set) n port in
          let code : planned_code s (asked want set) w n ≡ port_code want w (under_of s want set n) =
          code_told (evenly kept.laws kept.fits) kept.all n port used (ap (λ (k : ℕ). k == 1) ways ∙ several) in
          let both = asked_or (is_used s (asked want set) n) (nat_le (planned_code s (asked want set) w n) 6 && select_ok (cap_at s n) (planned_code s (asked want set) w n) (bits_of (planned_ways s (asked want set) n))) (kept.fits.window.selects n) used in
          or_right (ports_of s want set n == 1) (selecting s want w set n)
          ((λ k. nat_le (sym code k) 6 && select_ok (cap_at s n) (sym code k) (bits_of (sym ways k))) ∙ both)
    ]

pub serves_ports : {s : System} {want : Want} {w : WindowFields} {set : List ℕ} {base : ℕ} → Kept s want w set base → (n v willing : ℕ) → is_port_at s.nodes n ≡ true → is_used s (asked want set) n ≡ true
    → ports_of s want set n * v ≡ under_of s want set n → ports_of s want set n ≤ willing
    → can_serve_by s want w (latest want w) n (under_of s want set n) willing (ports_of s want set n) ≡ true
serves_ports {s} {want} {w} {set} {base} kept n v willing port used share enough =
    let p : ℕ = ports_of s want set n in
    let m : ℕ = under_of s want set n in
    let divides : (m % p == 0) ≡ true = eq-eqb (m % p) 0 (ap (λ (k : ℕ). k % p) (sym share) ∙ mul-mod_right p v) in
    let few = (and_parts (is_target_count p) (nat_le p (targets_of (cap_at s n))) (even_at kept.fits n port used).ports).1 in
    and_from (is_open s (latest want w) n && (m % p == 0) && nat_le p (targets_of (cap_at s n)) && nat_le p willing) ((p == 1) || selecting s want w set n)
    (and_from (is_open s (latest want w) n && (m % p == 0) && nat_le p (targets_of (cap_at s n))) (nat_le p willing)
    (and_from (is_open s (latest want w) n && (m % p == 0)) (nat_le p (targets_of (cap_at s n)))
    (and_from (is_open s (latest want w) n) (m % p == 0) (open_used kept n used) divides)
    few)
    (le-leb p willing enough))
    (selects_port kept n port used)

-- ---- all used nodes give

-- what a node gives from this level on
abbrev pub Gives : System → Want → WindowFields → List ℕ → ℕ → ℕ → Type 0
Gives s want w set k n = (xs : List ℕ) × (gives_within k s want w (latest want w) n (under_of s want set n) ≡ Some xs)

endpoint_gives : {s : System} {want : Want} {w : WindowFields} {set : List ℕ} {base : ℕ} → Kept s want w set base → (k n : ℕ) → is_endpoint_at s.nodes n ≡ true → is_used s (asked want set) n ≡ true
    → Gives s want w set (suc k) n
endpoint_gives {s} {want} {w} {set} {base} kept k n endpoint used =
    let m : ℕ = under_of s want set n in
    let single = one_under (asked_of kept.laws kept.fits) n endpoint used (distinct_test set kept.fits.endpoints.distinct) in (
      n ∷ [],
      at_endpoint k s want w (latest want w) n m endpoint
          ∙ ap (λ (b : Bool). if b then Some (n ∷ []) else None) (and_from (m == 1) (can_serve_itself s want w (latest want w) n) (eq-eqb m 1 single) (serves_itself kept n endpoint used)),
    )

pub gives_same : (s : System) (want : Want) (w : WindowFields) (k n a b : ℕ) → a ≡ b → (xs : List ℕ) → gives_within k s want w (latest want w) n a ≡ Some xs → gives_within k s want w (latest want w) n b ≡ Some xs
gives_same s want w k n a b same xs is = ap (gives_within k s want w (latest want w) n) (sym same) ∙ is

-- a used node that is no endpoint is a port
pub used_port : {s : System} {request : Request} → Asked s request → (n : ℕ) → is_used s request n ≡ true → is_endpoint_at s.nodes n ≡ false → is_port_at s.nodes n ≡ true
used_port {s} {request} is n used other =
    let some = Any-from_list_any (is_under s.nodes n) request.endpoints used in
    elim (way_down is.known n some.1 some.4) [
      | inl same ↦
          let at : get_or request.endpoints some.0 some.1 ≡ n = some.3 ∙ same in
          absurd (false≢true (sym other ∙ ap (is_endpoint_at s.nodes) (sym at) ∙ is.named some.0 some.1 some.2))
      | inr way ↦ (parent_is_port is.known way.child (record { node = n; port = way.port }) way.parent).1
    ]

find_gives : (test : ℕ → Bool) (offers : ℕ → List (List ℕ)) → list_any test (8 ∷ 4 ∷ 2 ∷ 1 ∷ []) ≡ true
    → (xs : List ℕ) × (option_map (λ u. flat_map (λ ns. ns) (take u (offers u))) (find test (8 ∷ 4 ∷ 2 ∷ 1 ∷ [])) ≡ Some xs)
find_gives test offers any =
    let u = found test (8 ∷ 4 ∷ 2 ∷ 1 ∷ []) any in
    (flat_map (λ ns. ns) (take u.0 (offers u.0)), ap (option_map (λ u. flat_map (λ ns. ns) (take u (offers u)))) u.1)

port_gives_some : {s : System} {want : Want} {w : WindowFields} {set : List ℕ} {base : ℕ} → Kept s want w set base → (k n : ℕ) → is_endpoint_at s.nodes n ≡ false → is_used s (asked want set) n ≡ true
    → ((c e : ℕ) → parent_of s.nodes c ≡ Some (record { node = n; port = e }) → is_used s (asked want set) c ≡ true → Gives s want w set k c)
    → Gives s want w set (suc k) n
port_gives_some {s} {want} {w} {set} {base} kept k n other used each =
    let is = asked_of kept.laws kept.fits in
    let even = evenly kept.laws kept.fits in
    let port = used_port is n used other in
    let p : ℕ = ports_of s want set n in
    let m : ℕ = under_of s want set n in
    let offers : ℕ → List (List ℕ) = λ u. filter_map (λ child. gives_within k s want w (latest want w) child (m / u)) (children_of s n) in
    let count : is_target_count p ≡ true = even.counts n port used in
    let some = some_count p count in
    let first = used_child is n (get_or (used_ports s (asked want set) n) 0 0) (ports_pass s (asked want set) n 0 0 some) in
    let share : p * under_of s want set first.child ≡ m = even.children first.child (record { node = n; port = get_or (used_ports s (asked want set) n) 0 0 }) first.parent first.used in
    let enough : p ≤ length (offers p) =
    more_given (is_port_used s (asked want set) n) (child_of s.nodes n) (λ child. gives_within k s want w (latest want w) child (m / p))
    (λ e e_used.
    let c = used_child is n e e_used in
    let own = each c.child e c.parent c.used in
    let same : p * under_of s want set c.child ≡ m = even.children c.child (record { node = n; port = e }) c.parent c.used in
    let quotient : under_of s want set c.child ≡ m / p = sym (mul-div_cancel_left (under_of s want set c.child) some) ∙ ap (λ (x : ℕ). x / p) same in
    (c.child, own.0, c.stands, gives_same s want w k c.child (under_of s want set c.child) (m / p) quotient own.0 own.1))
    (range_with_len 0 256) in
    let given = find_gives (λ u. can_serve_by s want w (latest want w) n m (length (offers u)) u) offers
    (count_tried (λ u. can_serve_by s want w (latest want w) n m (length (offers u)) u) p count
    (serves_ports kept n (under_of s want set first.child) (length (offers p)) port used share enough)) in
    (given.0, at_port k s want w (latest want w) n m other ∙ given.1)

pub used_gives : {s : System} {want : Want} {w : WindowFields} {set : List ℕ} {base : ℕ} → Kept s want w set base → (k n : ℕ) → length s.nodes ≤ n + k → is_used s (asked want set) n ≡ true → Gives s want w set k n
used_gives {s} {want} {w} {set} {base} kept zero n enough used =
    let within = used_within (asked_of kept.laws kept.fits) n used in
    absurd (omega (arith, within, enough))
used_gives {s} {want} {w} {set} {base} kept (suc k) n enough used =
    elim (cases_Bool (is_endpoint_at s.nodes n)) [
      | inl endpoint ↦ endpoint_gives kept k n endpoint used
      | inr other ↦ port_gives_some kept k n other used (λ c e child there.
          let later = (parent_is_port (asked_of kept.laws kept.fits).known c (record { node = n; port = e }) child).0 in
          let low : n < c = later in
          used_gives kept k c (omega (arith, enough, low)) there)
    ]
