-- The endpoints that lie under each node, counted a node of a path at a time.
use Rattle.std.proofs.Common.{◌≡◌, ℕ, ◌+◌, ◌-◌, ◌<◌, ◌≤◌, Bool, true, false, ◌||◌, List, [], length, get_or, filter, None, Some, refl, sym, ap, ◌∙◌, inl, inr, arith, if◌then◌else◌}
use Rattle.std.specs.Prelude.{◌==◌, nat_lt, min, insert}
use Rattle.std.specs.List.{range_with_len}
use Rattle.std.proofs.lemmas.Bool.{cases_Bool, cases_eq, cases_lt, eq-eqb, eqb-true, ne_eqb, lt-ltb, ltb-false, or_right}
use Rattle.std.proofs.lemmas.List.Edits.{length-insert, get_or-insert_below, get_or-insert_at, get_or-insert_above}
use Rattle.cxl_topo.specs.declared.node.Node.{Node}
use Rattle.cxl_topo.specs.declared.node.Parent.{Parent}
use Rattle.cxl_topo.specs.Tree.{parent_of}
use Rattle.cxl_topo.proofs.Trees.{KnownTree, parent_is_port}
use Rattle.cxl_model.specs.Counts.{is_under}
use Rattle.cxl_model.specs.declared.request.Request.{Request}
use Rattle.cxl_model.proofs.Under.{under_root, under_step, under_later}
use Rattle.cxl_legal.specs.Used.{is_used}
use Rattle.cxl_plan.specs.inner.Uses.{tree_alone, used_nodes, AreCounted, AreCounts}
use Rattle.cxl_plan.proofs.Tables.{filter_same, filter_short, none_passes, counted}
use Rattle.cxl_plan.proofs.Rising.{IsGap, strictly_up, found_passes, gap_fails, put}

abbrev pub more : (ℕ → ℕ) → ℕ → ℕ → ℕ
more f node n = f n + (if node == n then 1 else 0)

-- counts that agree are one
pub recounted : (f g : ℕ → ℕ) (limit : ℕ) (nodes counts : List ℕ) → ((n : ℕ) → f n ≡ g n) → AreCounted f limit nodes counts → AreCounted g limit nodes counts
recounted f g limit nodes counts same known = record {
  listed = known.listed ∙ filter_same (λ n. nat_lt 0 (f n)) (λ n. nat_lt 0 (g n)) 0 limit (λ k from below. ap (nat_lt 0) (same k));
  count = known.count;
  each = λ k below. known.each k below ∙ ap (λ (m : ℕ). min m 255) (same (get_or nodes k 0));
}

-- nothing is counted yet
pub none_counted : (f : ℕ → ℕ) (limit : ℕ) (nodes counts : List ℕ) → nodes ≡ [] → counts ≡ [] → ((n : ℕ) → f n ≡ 0) → AreCounted f limit nodes counts
none_counted f limit nodes counts no_nodes no_counts none =
    let long = ap length no_nodes in
    let same = ap length no_counts in
    record {
      listed = no_nodes ∙ sym (none_passes (λ n. nat_lt 0 (f n)) 0 limit (λ k from below. ap (nat_lt 0) (none k)));
      count = omega (arith, long, same);
      each = λ k below. absurd (omega (arith, long));
    }

passes_more : (f : ℕ → ℕ) (node k : ℕ) → ((node == k) || nat_lt 0 (f k)) ≡ nat_lt 0 (more f node k)
passes_more f node k =
    elim (cases_Bool (node == k)) [
      | inl here ↦ rw here (sym (lt-ltb 0 (f k + 1) (omega arith)))
      | inr other ↦ rw other (ap (nat_lt 0) (plus_none (f k)))
    ]
  where
    plus_none : (n : ℕ) → n ≡ n + 0
    plus_none n = omega arith

other_more : (f : ℕ → ℕ) (node k : ℕ) → (node ≡ k → ⊥) → f k ≡ more f node k
other_more f node k other = rw (ne_eqb node k other) (omega arith)

here_more : (f : ℕ → ℕ) (node : ℕ) → f node + 1 ≡ more f node node
here_more f node = rw (eq-eqb node node refl) refl

module _ (f : ℕ → ℕ) (limit : ℕ) (nodes counts : List ℕ) (known : AreCounted f limit nodes counts) (node : ℕ) where
  -- a node that is there counts one more
  pub one_more_there : (place : ℕ) (after : List ℕ) → place < length nodes → get_or nodes place 0 ≡ node → length after ≡ length counts → get_or after place 0 ≡ min (get_or counts place 0 + 1) 255
      → ((k : ℕ) → (k ≡ place → ⊥) → get_or after k 0 ≡ get_or counts k 0) → AreCounted (more f node) limit nodes after
  one_more_there place after within here count now others = record { listed = listed; count = count ∙ known.count; each = each }
    where
      passes : nat_lt 0 (f node) ≡ true
      passes = found_passes (λ n. nat_lt 0 (f n)) limit nodes known.listed place node within here

      same : (k : ℕ) → nat_lt 0 (f k) ≡ nat_lt 0 (more f node k)
      same k =
          elim (cases_eq node k) [
            | inl is ↦ ap (λ (m : ℕ). nat_lt 0 (f m)) (sym is) ∙ passes ∙ sym (or_right (node == k) (nat_lt 0 (f k)) (ap (λ (m : ℕ). nat_lt 0 (f m)) (sym is) ∙ passes)) ∙ passes_more f node k
            | inr other ↦ ap (nat_lt 0) (other_more f node k other)
          ]

      listed : nodes ≡ filter (λ n. nat_lt 0 (more f node n)) (range_with_len 0 limit)
      listed = known.listed ∙ filter_same (λ n. nat_lt 0 (f n)) (λ n. nat_lt 0 (more f node n)) 0 limit (λ k from below. same k)

      each : (k : ℕ) → k < length nodes → get_or after k 0 ≡ min (more f node (get_or nodes k 0)) 255
      each k below =
          elim (cases_eq k place) [
            | inl is ↦
                let old = known.each place within in
                let value : get_or after place 0 ≡ min (f node + 1) 255 = now ∙ ap (λ (m : ℕ). min (m + 1) 255) (old ∙ ap (λ (m : ℕ). min (f m) 255) here) ∙ twice (f node) in
                ap (λ (m : ℕ). get_or after m 0) is ∙ value ∙ ap (λ (m : ℕ). min m 255) (here_more f node) ∙ ap (λ (m : ℕ). min (more f node m) 255) (sym here ∙ ap (λ (m : ℕ). get_or nodes m 0) (sym is))
            | inr other ↦
                others k other ∙ known.each k below ∙ ap (λ (m : ℕ). min m 255) (other_more f node (get_or nodes k 0) (λ same_node. apart k below other (sym same_node)))
          ]
        where
          twice : (n : ℕ) → min (min n 255 + 1) 255 ≡ min (n + 1) 255
          twice n = omega arith

          apart : (k : ℕ) → k < length nodes → (k ≡ place → ⊥) → get_or nodes k 0 ≡ node → ⊥
          apart k below other same_node =
              elim (cases_lt k place) [
                | inl before ↦ let less = strictly_up (λ n. nat_lt 0 (f n)) limit nodes known.listed k place before within in omega (arith, less, here, same_node)
                | inr past ↦ elim (cases_eq k place) [
                  | inl is ↦ absurd (other is)
                  | inr not_same ↦ let less = strictly_up (λ n. nat_lt 0 (f n)) limit nodes known.listed place k (omega arith) below in omega (arith, less, here, same_node)
                ]
              ]

  -- a node that is not there comes to stand at its place
  pub one_more_new : (place : ℕ) (nodes' after : List ℕ) → node < limit → IsGap nodes place node → nodes' ≡ insert nodes place node → after ≡ insert counts place 1 → AreCounted (more f node) limit nodes' after
  one_more_new place nodes' after low gap is now = record { listed = listed; count = omega (arith, long, long', known.count, gap.low); each = each }
    where
      none : f node ≡ 0
      none = let not_less = ltb-false 0 (f node) (gap_fails (λ n. nat_lt 0 (f n)) limit nodes known.listed place node low gap) in omega (arith, not_less)

      low' : place ≤ length counts
      low' = omega (arith, known.count, gap.low)

      long : length nodes' ≡ length nodes + 1
      long = ap length is ∙ length-insert nodes place node gap.low

      long' : length after ≡ length counts + 1
      long' = ap length now ∙ length-insert counts place 1 low'

      listed : nodes' ≡ filter (λ n. nat_lt 0 (more f node n)) (range_with_len 0 limit)
      listed =
          is ∙ put (λ n. nat_lt 0 (f n)) limit nodes known.listed place node low gap
          ∙ filter_same (λ q. (node == q) || nat_lt 0 (f q)) (λ n. nat_lt 0 (more f node n)) 0 limit (λ k from below. passes_more f node k)

      read : (k : ℕ) → get_or nodes' k 0 ≡ get_or (insert nodes place node) k 0
      read k = ap (λ (xs : List ℕ). get_or xs k 0) is

      read' : (k : ℕ) → get_or after k 0 ≡ get_or (insert counts place 1) k 0
      read' k = ap (λ (xs : List ℕ). get_or xs k 0) now

      kept : (k : ℕ) → k < length nodes → (node ≡ get_or nodes k 0 → ⊥) → get_or counts k 0 ≡ min (more f node (get_or nodes k 0)) 255
      kept k below other = known.each k below ∙ ap (λ (m : ℕ). min m 255) (other_more f node (get_or nodes k 0) other)

      each : (k : ℕ) → k < length nodes' → get_or after k 0 ≡ min (more f node (get_or nodes' k 0)) 255
      each k below =
          elim (cases_lt k place) [
            | inl before ↦
                let less = gap.before k before in
                read' k ∙ get_or-insert_below counts place 1 0 k before low' ∙ kept k (omega (arith, gap.low)) (λ same. omega (arith, less, same))
                ∙ ap (λ (m : ℕ). min (more f node m) 255) (sym (read k ∙ get_or-insert_below nodes place node 0 k before gap.low))
            | inr past ↦ elim (cases_eq k place) [
              | inl at ↦
                  let one : 1 ≡ min (more f node node) 255 = ap (λ (m : ℕ). min (m + 1) 255) (sym none) ∙ ap (λ (m : ℕ). min m 255) (here_more f node) in
                  ap (λ (m : ℕ). get_or after m 0) at ∙ read' place ∙ get_or-insert_at counts place 1 0 low' ∙ one
                  ∙ ap (λ (m : ℕ). min (more f node m) 255) (sym (ap (λ (m : ℕ). get_or nodes' m 0) at ∙ read place ∙ get_or-insert_at nodes place node 0 gap.low))
              | inr other ↦
                  let j : ℕ = k - 1 in
                  let back : k ≡ j + 1 = omega arith in
                  let from : place ≤ j = omega arith in
                  let inside : j < length nodes = omega (arith, long) in
                  let greater = gap.after j from inside in
                  ap (λ (m : ℕ). get_or after m 0) back ∙ read' (j + 1) ∙ get_or-insert_above counts place 1 0 j from low' ∙ kept j inside (λ same. omega (arith, greater, same))
                  ∙ ap (λ (m : ℕ). min (more f node m) 255) (sym (ap (λ (m : ℕ). get_or nodes' m 0) back ∙ read (j + 1) ∙ get_or-insert_above nodes place node 0 j from gap.low))
            ]
          ]

-- ---- up a path

module _ (nodes : List Node) (tree : KnownTree nodes) where
  -- one more under a node without a parent
  pub more_at_root : (f : ℕ → ℕ) (node : ℕ) → parent_of nodes node ≡ None → (n : ℕ) → more f node n ≡ f n + (if is_under nodes n node then 1 else 0)
  more_at_root f node none n = ap (λ (b : Bool). f n + (if b then 1 else 0)) (sym (under_root tree n node none))

  -- one more under a node, and then under those from its parent on
  pub more_above : (f : ℕ → ℕ) (node : ℕ) (p : Parent) → parent_of nodes node ≡ Some p → (n : ℕ) → more f node n + (if is_under nodes n p.node then 1 else 0) ≡ f n + (if is_under nodes n node then 1 else 0)
  more_above f node p up n =
      elim (cases_Bool (node == n)) [
        | inl here ↦
            let apart : is_under nodes n p.node ≡ false = not_under here in
            rw (here, apart, under_step tree n node p up ∙ ap (λ (b : Bool). b || is_under nodes n p.node) here) (omega arith)
        | inr other ↦
            let same : is_under nodes n node ≡ is_under nodes n p.node = under_step tree n node p up ∙ ap (λ (b : Bool). b || is_under nodes n p.node) other in
            rw (other, same) (ap (λ (m : ℕ). m + (if is_under nodes n p.node then 1 else 0)) (plus_none (f n)))
      ]
    where
      plus_none : (m : ℕ) → m + 0 ≡ m
      plus_none m = omega arith

      not_under : (node == n) ≡ true → is_under nodes n p.node ≡ false
      not_under here =
          elim (cases_Bool (is_under nodes n p.node)) [
            | inl under ↦
                let same = eqb-true node n here in
                let later = under_later tree n p.node under in
                let lower = (parent_is_port tree node p up).0 in
                absurd (omega (arith, same, later, lower))
            | inr apart ↦ apart
          ]

-- ---- all of the endpoints

module _ (nodes : List Node) (request : Request) (listed counts : List ℕ) (known : AreCounted (λ n. length (filter (is_under nodes n) request.endpoints)) (length nodes) listed counts) where
  pub all_listed : listed ≡ used_nodes nodes request
  all_listed =
      known.listed
      ∙ filter_same (λ n. nat_lt 0 (length (filter (is_under nodes n) request.endpoints))) (is_used (tree_alone nodes) request) 0 (length nodes) (λ k from below. counted (is_under nodes k) request.endpoints)

  pub all_counted : length request.endpoints ≤ 16 → AreCounts nodes request listed counts
  all_counted few = record { count = known.count; each = λ k below. known.each k below ∙ low (get_or listed k 0) }
    where
      low : (n : ℕ) → min (length (filter (is_under nodes n) request.endpoints)) 255 ≡ length (filter (is_under nodes n) request.endpoints)
      low n = let short = filter_short (is_under nodes n) request.endpoints in omega (arith, short, few)
