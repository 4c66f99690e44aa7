-- Reasons in the order in which they are tried, and windows without one.
use Rattle.std.proofs.Common.{◌≡◌, ℕ, zero, suc, ◌+◌, ◌-◌, ◌%◌, ◌<◌, ◌≤◌, Bool, true, false, not, ◌&&◌, ◌||◌, List, length, Option, Some, None, refl, sym, ap, ◌∙◌, inl, inr, arith}
use Rattle.std.specs.Prelude.{slice_get, find, ◌==◌, nat_le}
use Rattle.std.specs.Option.{option_map_or}
use Rattle.std.specs.List.{list_all, range_with_len, All}
use Rattle.std.proofs.lemmas.Bool.{cases_Bool, cases_eq, and_parts, leb-true, eqb-true, false≢true, not-false}
use Rattle.std.proofs.lemmas.Option.{none-some, slice_get_within, option_and_then_some}
use Rattle.cxl_enc.specs.Codes.{is_ways, bits_of, code_in_table, ways_of}
use Rattle.cxl_enc.proofs.Tests.{and_true, and_false}
use Rattle.cxl_topo.specs.declared.node.Node.{Node}
use Rattle.cxl_topo.specs.Kinds.{uid_of}
use Rattle.cxl_topo.specs.Tree.{is_endpoint_at, bridge_with}
use Rattle.cxl_topo.specs.Laws.{AreTreeLaws}
use Rattle.cxl_regs.specs.Registers.{Registers}
use Rattle.cxl_regs.specs.Words.{has_bit}
use Rattle.cxl_regs.specs.Rules.{select_ok, endpoint_ways_ok}
use Rattle.cxl_window.specs.Fields.{WindowFields}
use Rattle.cxl_window.specs.Position.{is_usable}
use Rattle.cxl_topo.proofs.Trees.{KnownTree}
use Rattle.cxl_model.specs.declared.request.Request.{Request}
use Rattle.cxl_model.specs.declared.plan.Reason.{Reason}
use Rattle.cxl_model.specs.declared.plan.Reason.TheVariants as reasons
use Rattle.cxl_model.specs.System.{System}
use Rattle.cxl_model.specs.Rules.{permits}
use Rattle.cxl_legal.specs.Used.{is_used, request_ways}
use Rattle.cxl_legal.specs.Endpoints.{cap_at}
use Rattle.cxl_legal.specs.Windows.{FitsWindow, has_used_bridges, agrees_on_gran, can_select, can_have_ways}
use Rattle.cxl_legal.specs.Bases.{IsLeastBase, base_step}
use Rattle.cxl_plan.specs.Faults.{SaysOfWindow, turn_of_reason, least}
use Rattle.cxl_plan.specs.inner.Uses.{tree_alone, ways_at, code_at}
use Rattle.cxl_plan.specs.inner.Judging.{selects_at, over, KeepsWindow}
use Rattle.cxl_plan.specs.inner.Floors.{IsFloor}
use Rattle.cxl_plan.proofs.Finding.{none_found}
use Rattle.cxl_plan.proofs.UsedItems.{used_below}

-- ---- the order of reasons

module _ (s : System) (request : Request) (w : WindowFields) where
  abbrev pub AllFrom : ℕ → Type 0
  AllFrom k = (other : Reason) → SaysOfWindow s request w other → k ≤ turn_of_reason other

  abbrev pub NoneAt : ℕ → Type 0
  NoneAt k = (other : Reason) → turn_of_reason other ≡ k → SaysOfWindow s request w other → ⊥

  pub onward : (k : ℕ) → AllFrom k → NoneAt k → AllFrom (k + 1)
  onward k from none other says =
      elim (cases_eq (turn_of_reason other) k) [
        | inl same ↦ absurd (none other same says)
        | inr apart ↦ let low = from other says in omega arith
      ]

  pub none_0 : is_usable w.verdict ≡ true → NoneAt 0
  none_0 kept reasons.Unusable e says = false≢true (sym says ∙ kept)
  none_0 kept other e says = absurd (omega arith)

  pub none_1 : permits w request.kind ≡ true → NoneAt 1
  none_1 kept reasons.Kind e says = false≢true (sym says ∙ kept)
  none_1 kept other e says = absurd (omega arith)

  pub none_2 : has_bit w.restrict 4 ≡ false → NoneAt 2
  none_2 kept reasons.Fixed e says = false≢true (sym kept ∙ says)
  none_2 kept other e says = absurd (omega arith)

  pub none_3 : has_used_bridges s request w ≡ true → NoneAt 3
  none_3 kept reasons.Bridges e says = false≢true (sym says ∙ kept)
  none_3 kept other e says = absurd (omega arith)

  pub none_4 : agrees_on_gran request.gran w ≡ true → NoneAt 4
  none_4 kept reasons.Gran e says = false≢true (sym says ∙ kept)
  none_4 kept other e says = absurd (omega arith)

  pub none_5 : least s (λ m. not (can_select s request w m)) ≡ None → NoneAt 5
  none_5 kept (reasons.Select n) e says = none-some n (sym kept ∙ says)
  none_5 kept other e says = absurd (omega arith)

  pub none_6 : least s (λ m. not (can_have_ways s request m)) ≡ None → NoneAt 6
  none_6 kept (reasons.WaysCap n) e says = none-some n (sym kept ∙ says)
  none_6 kept other e says = absurd (omega arith)

  pub from_1 : is_usable w.verdict ≡ true → AllFrom 1
  from_1 usable = onward 0 (λ other says. omega arith) (none_0 usable)

  pub from_2 : is_usable w.verdict ≡ true → permits w request.kind ≡ true → AllFrom 2
  from_2 usable kind = onward 1 (from_1 usable) (none_1 kind)

  pub from_3 : is_usable w.verdict ≡ true → permits w request.kind ≡ true → has_bit w.restrict 4 ≡ false → AllFrom 3
  from_3 usable kind open_to = onward 2 (from_2 usable kind) (none_2 open_to)

  pub from_5 : is_usable w.verdict ≡ true → permits w request.kind ≡ true → has_bit w.restrict 4 ≡ false → has_used_bridges s request w ≡ true → agrees_on_gran request.gran w ≡ true → AllFrom 5
  from_5 usable kind open_to bridges gran = onward 4 (onward 3 (from_3 usable kind open_to) (none_3 bridges)) (none_4 gran)

  pub from_6 : AllFrom 5 → least s (λ m. not (can_select s request w m)) ≡ None → AllFrom 6
  from_6 before selects = onward 5 before (none_5 selects)

  pub from_7 : AllFrom 6 → least s (λ m. not (can_have_ways s request m)) ≡ None → AllFrom 7
  from_7 before ways = onward 6 before (none_6 ways)

-- ---- selecting

module _ (nodes : List Node) (request : Request) (w : WindowFields) where
  pub found_select : (o : Option ℕ) → find (λ m. not (selects_at nodes request w m)) (range_with_len 0 (length nodes)) ≡ o → find (λ m. not (can_select (tree_alone nodes) request w m)) (range_with_len 0 (length nodes)) ≡ o
  unfolding selects_at
  found_select o e = e

  selects_parts : Bool → ℕ → ℕ → ℕ → Bool
  selects_parts used code cap ways = not used || (nat_le code 6 && select_ok cap code (bits_of ways))

  selects_is : (n : ℕ) → selects_at nodes request w n ≡ selects_parts (is_used (tree_alone nodes) request n) (code_at nodes request w n) (cap_at (tree_alone nodes) n) (ways_at nodes request n)
  unfolding selects_at code_at ways_at selects_parts
  selects_is n = refl

  pub selects_tested : (n code bits cap : ℕ) → is_used (tree_alone nodes) request n ≡ true → code ≡ code_at nodes request w n → bits ≡ bits_of (ways_at nodes request n) → cap ≡ cap_at (tree_alone nodes) n
      → (nat_le code 6 && select_ok cap code bits) ≡ selects_at nodes request w n
  unfolding selects_parts
  selects_tested n code bits cap used c b p =
      ap (λ (k : ℕ). nat_le code 6 && select_ok cap code k) b
      ∙ ap (λ (k : ℕ). nat_le k 6 && select_ok cap k (bits_of (ways_at nodes request n))) c
      ∙ ap (λ (k : ℕ). nat_le (code_at nodes request w n) 6 && select_ok k (code_at nodes request w n) (bits_of (ways_at nodes request n))) p
      ∙ sym (selects_is n ∙ ap (λ (u : Bool). selects_parts u (code_at nodes request w n) (cap_at (tree_alone nodes) n) (ways_at nodes request n)) used)

  pub unused_selects : (n : ℕ) → is_used (tree_alone nodes) request n ≡ false → selects_at nodes request w n ≡ true
  unfolding selects_parts
  unused_selects n not_used = selects_is n ∙ ap (λ (u : Bool). selects_parts u (code_at nodes request w n) (cap_at (tree_alone nodes) n) (ways_at nodes request n)) not_used

  pub not_selecting_used : (n : ℕ) → not (selects_at nodes request w n) ≡ true → is_used (tree_alone nodes) request n ≡ true
  not_selecting_used n fails =
      elim (cases_Bool (is_used (tree_alone nodes) request n)) [
        | inl used ↦ used
        | inr not_used ↦ absurd (false≢true (sym (ap not (unused_selects n not_used)) ∙ fails))
      ]

-- ---- ways of endpoints

module _ (nodes : List Node) (request : Request) where
  pub ways_tested : (n : ℕ) → is_used (tree_alone nodes) request n ≡ true
      → (not (is_endpoint_at nodes n) || option_map_or (endpoint_ways_ok (cap_at (tree_alone nodes) n)) (code_in_table (request_ways request)) false) ≡ can_have_ways (tree_alone nodes) request n
  ways_tested n used =
      ap (λ (b : Bool). not b || option_map_or (endpoint_ways_ok (cap_at (tree_alone nodes) n)) (code_in_table (request_ways request)) false)
      (sym (ap (λ (u : Bool). is_endpoint_at nodes n && u) used ∙ and_true (is_endpoint_at nodes n)))

  pub unused_ways : (n : ℕ) → is_used (tree_alone nodes) request n ≡ false → can_have_ways (tree_alone nodes) request n ≡ true
  unused_ways n not_used =
      ap (λ (b : Bool). not b || option_map_or (endpoint_ways_ok (cap_at (tree_alone nodes) n)) (code_in_table (request_ways request)) false)
      (ap (λ (u : Bool). is_endpoint_at nodes n && u) not_used ∙ and_false (is_endpoint_at nodes n))

  pub without_ways_used : (n : ℕ) → not (can_have_ways (tree_alone nodes) request n) ≡ true → is_used (tree_alone nodes) request n ≡ true
  without_ways_used n fails =
      elim (cases_Bool (is_used (tree_alone nodes) request n)) [
        | inl used ↦ used
        | inr not_used ↦ absurd (false≢true (sym (ap not (unused_ways n not_used)) ∙ fails))
      ]

-- each number of ways has a code
pub table_back : (n : ℕ) → is_ways n ≡ true → (code : ℕ) × (code_in_table n ≡ Some code) × (ways_of code ≡ Some n)
table_back n known =
    elim (cases_Bool (n == 1)) [
      | inl e ↦ (0, rw e refl, ap Some (sym (eqb-true n 1 e)))
      | inr a ↦ elim (cases_Bool (n == 2)) [
        | inl e ↦ (1, rw (a, e) refl, ap Some (sym (eqb-true n 2 e)))
        | inr b ↦ elim (cases_Bool (n == 4)) [
          | inl e ↦ (2, rw (a, b, e) refl, ap Some (sym (eqb-true n 4 e)))
          | inr d ↦ elim (cases_Bool (n == 8)) [
            | inl e ↦ (3, rw (a, b, d, e) refl, ap Some (sym (eqb-true n 8 e)))
            | inr f ↦ elim (cases_Bool (n == 16)) [
              | inl e ↦ (4, rw (a, b, d, f, e) refl, ap Some (sym (eqb-true n 16 e)))
              | inr g ↦ elim (cases_Bool (n == 3)) [
                | inl e ↦ (8, rw (a, b, d, f, g, e) refl, ap Some (sym (eqb-true n 3 e)))
                | inr h ↦ elim (cases_Bool (n == 6)) [
                  | inl e ↦ (9, rw (a, b, d, f, g, h, e) refl, ap Some (sym (eqb-true n 6 e)))
                  | inr i ↦ elim (cases_Bool (n == 12)) [
                    | inl e ↦ (10, rw (a, b, d, f, g, h, i, e) refl, ap Some (sym (eqb-true n 12 e)))
                    | inr j ↦ absurd (false≢true (rw (a, b, d, f, g, h, i, j) at known))
                  ]
                ]
              ]
            ]
          ]
        ]
      ]
    ]

-- ---- tests over all nodes

pub all_fails : (p : ℕ → Bool) (a k n : ℕ) → a ≤ n → n < a + k → p n ≡ false → list_all p (range_with_len a k) ≡ false
all_fails p a zero n from below fails = absurd (omega arith)
all_fails p a (suc k) n from below fails =
    elim (cases_eq a n) [
      | inl same ↦ let here : p a ≡ false = ap p same ∙ fails in rw here refl
      | inr other ↦ let rest = all_fails p (a + 1) k n (omega arith) (omega arith) fails in
          elim (cases_Bool (p a)) [ inl passes ↦ rw (passes, rest) refl | inr not_here ↦ rw not_here refl ]
    ]

pub all_pass : (p : ℕ → Bool) (a k : ℕ) → ((n : ℕ) → a ≤ n → n < a + k → p n ≡ true) → list_all p (range_with_len a k) ≡ true
all_pass p a zero all = refl
all_pass p a (suc k) all =
    let here : p a ≡ true = all a (omega arith) (omega arith) in
    let rest = all_pass p (a + 1) k (λ n from below. all n (omega arith) (omega arith)) in
    rw (here, rest) refl

pub other_or_target : (b t u : Bool) → u ≡ true → (not (b && u) || t) ≡ (not b || t)
other_or_target b t u used = ap (λ (v : Bool). not v || t) (ap (λ (v : Bool). b && v) used ∙ and_true b)

pub unused_or_target : (b t u : Bool) → u ≡ false → (not (b && u) || t) ≡ true
unused_or_target b t u not_used = ap (λ (v : Bool). not v || t) (ap (λ (v : Bool). b && v) not_used ∙ and_false b)

pub bridge_inside : (nodes : List Node) → AreTreeLaws nodes → (uid n : ℕ) → bridge_with nodes uid ≡ Some n → n < length nodes
bridge_inside nodes laws uid n is = option_and_then_some (λ (node : Node). uid_of node.kind) (slice_get nodes n) uid ((laws.bridges uid n).0 is) (λ node here _. slice_get_within nodes n node here)

-- ---- a window without a reason

pub fits_window : (nodes : List Node) → KnownTree nodes → (request : Request) → All (λ m. is_endpoint_at nodes m ≡ true) request.endpoints → (w : WindowFields) → KeepsWindow nodes request w
    → (blocks : List Registers) (windows : List WindowFields) → slice_get windows w.index ≡ Some w → FitsWindow (over nodes blocks windows) request w
unfolding selects_at
fits_window nodes known request named w kept blocks windows there = record {
  there = there;
  usable = kept.usable;
  kind = kept.kind;
  open_to_plans = kept.open_to_plans;
  bridges = kept.bridges;
  gran = kept.gran;
  selects = λ n. selects n;
  ways = λ n. ways n;
}
  where
    selects : (n : ℕ) → selects_at nodes request w n ≡ true
    selects n =
        elim (cases_Bool (is_used (tree_alone nodes) request n)) [
          | inl used ↦
              let below = used_below nodes known request named n used in
              not-false (selects_at nodes request w n) (none_found (λ m. not (selects_at nodes request w m)) 0 (length nodes) kept.selects n (omega arith) (omega arith))
          | inr not_used ↦ unused_selects nodes request w n not_used
        ]

    ways : (n : ℕ) → can_have_ways (tree_alone nodes) request n ≡ true
    ways n =
        elim (cases_Bool (is_used (tree_alone nodes) request n)) [
          | inl used ↦
              let below = used_below nodes known request named n used in
              not-false (can_have_ways (tree_alone nodes) request n) (none_found (λ m. not (can_have_ways (tree_alone nodes) request m)) 0 (length nodes) kept.ways n (omega arith) (omega arith))
          | inr not_used ↦ unused_ways nodes request n not_used
        ]

pub least_base_is : (nodes : List Node) (blocks : List Registers) (windows : List WindowFields) (request : Request) (w : WindowFields) (floor start : ℕ) → IsFloor nodes blocks request floor
    → w.base ≤ start → floor ≤ start → (start - w.base) % base_step w ≡ 0 → ((other : ℕ) → w.base ≤ other → floor ≤ other → (other - w.base) % base_step w ≡ 0 → start ≤ other)
    → IsLeastBase (over nodes blocks windows) request w start
least_base_is nodes blocks windows request w floor start known from above step lowest = record {
  can = record { from = from; after = λ n used. let low = known.above n used in omega arith; step = step };
  least = λ other is. lowest other is.from (known.least other (λ n used. is.after n used)) is.step;
}

-- ---- codes in a window that takes the request

pub selecting_nodes : (s : System) (request : Request) (w : WindowFields) → FitsWindow s request w → (n : ℕ) → selects_at s.nodes request w n ≡ true
unfolding selects_at
selecting_nodes s request w fits n = fits.selects n

pub code_low : (nodes : List Node) (request : Request) (w : WindowFields) (n : ℕ) → is_used (tree_alone nodes) request n ≡ true → selects_at nodes request w n ≡ true → code_at nodes request w n ≤ 6
code_low nodes request w n used selects =
    let both = selects_tested nodes request w n (code_at nodes request w n) (bits_of (ways_at nodes request n)) (cap_at (tree_alone nodes) n) used refl refl refl ∙ selects in
    leb-true (code_at nodes request w n) 6 (and_parts (nat_le (code_at nodes request w n) 6) (select_ok (cap_at (tree_alone nodes) n) (code_at nodes request w n) (bits_of (ways_at nodes request n))) both).0
