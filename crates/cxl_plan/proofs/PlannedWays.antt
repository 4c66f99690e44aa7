-- The ways and codes that used nodes would have, one node up at a time.
use Rattle.std.proofs.Common.{◌≡◌, ℕ, zero, suc, ◌+◌, ◌*◌, ◌/◌, ◌<◌, ◌≤◌, Bool, true, false, List, length, map, Some, None, refl, sym, ap, ◌∙◌, inl, inr, arith, if◌then◌else◌}
use Rattle.std.specs.Prelude.{sum_by, ◌==◌}
use Rattle.std.proofs.lemmas.Bool.{cases_Bool, cases_lt, eq-eqb, ne_eqb, false≢true}
use Rattle.std.proofs.lemmas.List.Sums.{sum_by-cons}
use Rattle.cxl_enc.specs.Codes.{is_ways, bits_of, third_of, log2_of}
use Rattle.cxl_enc.proofs.Numbers.{sixteens, times, some_product}
use Rattle.cxl_enc.proofs.Ways.{some_ways}
use Rattle.cxl_topo.specs.declared.node.Node.{Node}
use Rattle.cxl_topo.specs.declared.node.Parent.{Parent}
use Rattle.cxl_topo.specs.Tree.{is_endpoint_at, parent_of, ports_above}
use Rattle.cxl_window.specs.Fields.{WindowFields}
use Rattle.cxl_topo.proofs.Trees.{KnownTree, up_tree, ports_none, ports_some}
use Rattle.cxl_model.specs.declared.request.Request.{Request}
use Rattle.cxl_model.specs.Ranges.{product}
use Rattle.cxl_model.specs.Plans.{plan_code}
use Rattle.cxl_legal.specs.Used.{request_ways, is_used, used_ports, planned_ways}
use Rattle.cxl_plan.specs.inner.Uses.{tree_alone, ports_at, ways_at, ways_above_at, bits_above_at, code_at, HasWays}
use Rattle.cxl_plan.proofs.Trees.{parent_used}

-- ---- numbers of ways

past_table : (n : ℕ) → 16 < n → is_ways n ≡ false
past_table n past =
    rw (ne_eqb n 1 (λ e. omega arith), ne_eqb n 2 (λ e. omega arith), ne_eqb n 4 (λ e. omega arith), ne_eqb n 8 (λ e. omega arith), ne_eqb n 16 (λ e. omega arith), ne_eqb n 3 (λ e. omega arith), ne_eqb n 6 (λ e. omega arith), ne_eqb n 12 (λ e. omega arith)) refl

pub few_ways : (n : ℕ) → is_ways n ≡ true → n ≤ 16
few_ways n known =
    elim (cases_lt 16 n) [
      | inl past ↦ absurd (false≢true (sym (past_table n past) ∙ known))
      | inr few ↦ few
    ]

-- ---- the ways of a node

module _ (nodes : List Node) (request : Request) where
  choose_ways : ℕ → Bool → ℕ
  choose_ways n endpoint = if endpoint then request_ways request else length (used_ports (tree_alone nodes) request n)

  pub endpoint_ways : (n : ℕ) → is_endpoint_at nodes n ≡ true → ways_at nodes request n ≡ length request.endpoints
  unfolding ways_at choose_ways
  endpoint_ways n is = ap (choose_ways n) is

  pub port_ways : (n : ℕ) → is_endpoint_at nodes n ≡ false → ways_at nodes request n ≡ length (ports_at nodes request n)
  unfolding ways_at ports_at choose_ways
  port_ways n is = ap (choose_ways n) is

  ways_in : Parent → ℕ
  ways_in parent = planned_ways (tree_alone nodes) request parent.node

  pub ways_root : KnownTree nodes → (n : ℕ) → parent_of nodes n ≡ None → ways_above_at nodes request n ≡ 1
  unfolding ways_above_at ways_in
  ways_root known n none = ap (λ (ps : List Parent). product (map ways_in ps)) (ports_none known n none)

  pub ways_step : KnownTree nodes → (n : ℕ) (p : Parent) → parent_of nodes n ≡ Some p → ways_above_at nodes request n ≡ ways_at nodes request p.node * ways_above_at nodes request p.node
  unfolding ways_above_at ways_at ways_in
  ways_step known n p up = ap (λ (ps : List Parent). product (map ways_in ps)) (ports_some known n p up)

  bits_in : Parent → ℕ
  bits_in parent = bits_of (planned_ways (tree_alone nodes) request parent.node)

  pub bits_root : KnownTree nodes → (n : ℕ) → parent_of nodes n ≡ None → bits_above_at nodes request n ≡ 0
  unfolding bits_above_at bits_in
  bits_root known n none = ap (λ (ps : List Parent). sum_by bits_in ps) (ports_none known n none)

  pub bits_step : KnownTree nodes → (n : ℕ) (p : Parent) → parent_of nodes n ≡ Some p → bits_above_at nodes request n ≡ bits_of (ways_at nodes request p.node) + bits_above_at nodes request p.node
  unfolding bits_above_at ways_at bits_in
  bits_step known n p up = ap (λ (ps : List Parent). sum_by bits_in ps) (ports_some known n p up) ∙ sum_by-cons bits_in p (ports_above nodes p.node)

-- ---- how many they can be

record IsFewAbove (nodes : List Node) (request : Request) (m n : ℕ) : Type 0 where
  ways : ways_above_at nodes request n ≤ sixteens m
  some : 0 < ways_above_at nodes request n

few_above : (nodes : List Node) (request : Request) → KnownTree nodes → HasWays nodes request → (n : ℕ) → (m : ℕ) → is_used (tree_alone nodes) request n ≡ true → length (ports_above nodes n) ≤ m → IsFewAbove nodes request m n
few_above nodes request known ways =
    up_tree known (λ n. (m : ℕ) → is_used (tree_alone nodes) request n ≡ true → length (ports_above nodes n) ≤ m → IsFewAbove nodes request m n)
    (λ n none m used short.
    let one = ways_root nodes request known n none in
    let wide = some_sixteens m in
    record { ways = omega arith; some = omega arith })
    (λ n p up rest m used short. step n p up rest m used short)
  where
    some_sixteens : (m : ℕ) → 1 ≤ sixteens m
    some_sixteens zero = omega arith
    some_sixteens (suc m) = let some = some_sixteens m in omega arith

    step : (n : ℕ) (p : Parent) → parent_of nodes n ≡ Some p → ((m : ℕ) → is_used (tree_alone nodes) request p.node ≡ true → length (ports_above nodes p.node) ≤ m → IsFewAbove nodes request m p.node)
        → (m : ℕ) → is_used (tree_alone nodes) request n ≡ true → length (ports_above nodes n) ≤ m → IsFewAbove nodes request m n
    step n p up rest zero used short = let longer = ap length (ports_some known n p up) in absurd (omega arith)
    step n p up rest (suc m) used short =
        let longer = ap length (ports_some known n p up) in
        let parent = parent_used known request.endpoints n p up used in
        let below = rest m parent (omega arith) in
        let own = few_ways (ways_at nodes request p.node) (ways p.node parent) in
        let more = times (ways_at nodes request p.node) 16 (ways_above_at nodes request p.node) (sixteens m) own below.ways in
        let least = some_product (ways_at nodes request p.node) (ways_above_at nodes request p.node) (some_ways (ways_at nodes request p.node) (ways p.node parent)) below.some in
        let is = ways_step nodes request known n p up in
        record { ways = omega arith; some = omega arith }

pub ways_few : (nodes : List Node) (request : Request) → KnownTree nodes → HasWays nodes request → (n : ℕ) → is_used (tree_alone nodes) request n ≡ true → ways_above_at nodes request n ≤ 1048576
ways_few nodes request known ways n used = let few = few_above nodes request known ways n 5 used (known.laws.few_ports n) in few.ways

pub ways_some : (nodes : List Node) (request : Request) → KnownTree nodes → HasWays nodes request → (n : ℕ) → is_used (tree_alone nodes) request n ≡ true → 0 < ways_above_at nodes request n
ways_some nodes request known ways n used = let few = few_above nodes request known ways n 5 used (known.laws.few_ports n) in few.some

log_few : (n : ℕ) → log2_of n ≤ 4
log_few n =
    elim (cases_Bool (n == 16)) [
      | inl e ↦ rw e (omega arith)
      | inr a ↦ elim (cases_Bool (n == 8)) [
        | inl e ↦ rw (a, e) (omega arith)
        | inr b ↦ elim (cases_Bool (n == 4)) [
          | inl e ↦ rw (a, b, e) (omega arith)
          | inr d ↦ elim (cases_Bool (n == 2)) [ inl e ↦ rw (a, b, d, e) (omega arith) | inr f ↦ rw (a, b, d, f) (omega arith) ]
        ]
      ]
    ]

bits_few_up : (nodes : List Node) (request : Request) → KnownTree nodes → (n : ℕ) (m : ℕ) → length (ports_above nodes n) ≤ m → bits_above_at nodes request n ≤ 4 * m
bits_few_up nodes request known =
    up_tree known (λ n. (m : ℕ) → length (ports_above nodes n) ≤ m → bits_above_at nodes request n ≤ 4 * m)
    (λ n none m short. let none_above = bits_root nodes request known n none in omega arith)
    (λ n p up rest m short.
    let longer = ap length (ports_some known n p up) in
    let is = bits_step nodes request known n p up in
    let own : bits_of (ways_at nodes request p.node) ≤ 4 = log_few (ways_at nodes request p.node / third_of (ways_at nodes request p.node)) in
    let below = rest (length (ports_above nodes p.node)) (omega arith) in
    omega arith)

pub bits_few : (nodes : List Node) (request : Request) → KnownTree nodes → (n : ℕ) → bits_above_at nodes request n ≤ 20
bits_few nodes request known n = bits_few_up nodes request known n 5 (known.laws.few_ports n)

-- ---- codes

module _ (nodes : List Node) (request : Request) (w : WindowFields) where
  choose_code : ℕ → Bool → Bool → ℕ
  choose_code n one endpoint =
      if one then 0 else (if endpoint then plan_code request w (request_ways request) else plan_code request w (request_ways request) + bits_of w.ways + bits_above_at nodes request n)

  code_is : (n : ℕ) → code_at nodes request w n ≡ choose_code n (ways_at nodes request n == 1) (is_endpoint_at nodes n)
  unfolding code_at ways_at bits_above_at choose_code
  code_is n = refl

  pub code_one : (n : ℕ) → ways_at nodes request n ≡ 1 → code_at nodes request w n ≡ 0
  unfolding choose_code
  code_one n one = code_is n ∙ ap (λ (b : Bool). choose_code n b (is_endpoint_at nodes n)) (eq-eqb (ways_at nodes request n) 1 one)

  pub code_endpoint : (n : ℕ) → (ways_at nodes request n ≡ 1 → ⊥) → is_endpoint_at nodes n ≡ true → code_at nodes request w n ≡ plan_code request w (request_ways request)
  unfolding choose_code
  code_endpoint n many is =
      code_is n ∙ ap (λ (b : Bool). choose_code n b (is_endpoint_at nodes n)) (ne_eqb (ways_at nodes request n) 1 many) ∙ ap (choose_code n false) is

  pub code_port : (n : ℕ) → (ways_at nodes request n ≡ 1 → ⊥) → is_endpoint_at nodes n ≡ false → code_at nodes request w n ≡ plan_code request w (request_ways request) + bits_of w.ways + bits_above_at nodes request n
  unfolding choose_code
  code_port n many is =
      code_is n ∙ ap (λ (b : Bool). choose_code n b (is_endpoint_at nodes n)) (ne_eqb (ways_at nodes request n) 1 many) ∙ ap (choose_code n false) is
