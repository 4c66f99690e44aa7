-- The used nodes in a list, and the first of them that passes a test.
use Rattle.std.proofs.Common.{◌≡◌, ℕ, zero, suc, ◌+◌, ◌<◌, ◌≤◌, Bool, true, false, not, max, List, ◌∷◌, length, get_or, filter, Option, Some, None, refl, sym, ap, subst, ◌∙◌, inl, inr, arith}
use Rattle.std.specs.Prelude.{slice_get, find, ◌==◌, Contains}
use Rattle.std.specs.Option.{option_map_or}
use Rattle.std.specs.List.{range_with_len, All}
use Rattle.std.proofs.lemmas.Bool.{cases_Bool, cases_eq, or_cases, eqb-true, false≢true}
use Rattle.std.proofs.lemmas.List.Folds.{Any-from_list_any, list_any-from_Any}
use Rattle.std.proofs.lemmas.List.Elements.{filter_passes}
use Rattle.cxl_topo.specs.declared.node.Node.{Node}
use Rattle.cxl_topo.specs.Kinds.{is_endpoint}
use Rattle.cxl_topo.specs.Tree.{is_endpoint_at, is_port_at}
use Rattle.cxl_topo.proofs.Trees.{endpoint_within, KnownTree, up_tree, parent_is_port}
use Rattle.cxl_model.specs.Counts.{is_under}
use Rattle.cxl_model.specs.declared.request.Request.{Request}
use Rattle.cxl_model.proofs.Under.{under_root, under_step, under_self, under_later}
use Rattle.cxl_legal.specs.Used.{is_used}
use Rattle.cxl_plan.specs.inner.Uses.{tree_alone, used_nodes}
use Rattle.cxl_plan.proofs.Finding.{find_here, find_none, find_filtered}
use Rattle.cxl_plan.proofs.Tables.{used_within}

module _ (nodes : List Node) (request : Request) (items : List ℕ) (is : items ≡ used_nodes nodes request) where
  pub all_inside : All (λ n. n < length nodes) items
  all_inside = subst (λ (xs : List ℕ). All (λ n. n < length nodes) xs) (sym is) (used_within nodes request)

  all_used : All (λ n. is_used (tree_alone nodes) request n ≡ true) items
  all_used = subst (λ (xs : List ℕ). All (λ n. is_used (tree_alone nodes) request n ≡ true) xs) (sym is) (filter_passes (is_used (tree_alone nodes) request) (range_with_len 0 (length nodes)))

  pub item_inside : (k : ℕ) → k < length items → get_or items k 0 < length nodes
  item_inside k below = all_inside k 0 below

  pub item_used : (k : ℕ) → k < length items → is_used (tree_alone nodes) request (get_or items k 0) ≡ true
  item_used k below = all_used k 0 below

  module _ (p : ℕ → Bool) (weaker : (n : ℕ) → p n ≡ true → is_used (tree_alone nodes) request n ≡ true) where
    over_items : find p items ≡ find p (range_with_len 0 (length nodes))
    over_items = ap (find p) is ∙ find_filtered p (is_used (tree_alone nodes) request) weaker (range_with_len 0 (length nodes))

    -- the first item that passes is the least node that does
    pub least_item : (k : ℕ) → k < length items → ((j : ℕ) → j < k → p (get_or items j 0) ≡ false) → p (get_or items k 0) ≡ true → Some (get_or items k 0) ≡ find p (range_with_len 0 (length nodes))
    least_item k below before here = sym (find_here p items k below before here) ∙ over_items

    -- where no item passes, no node does
    pub no_item : (k : ℕ) → length items ≤ k → ((j : ℕ) → j < k → p (get_or items j 0) ≡ false) → None ≡ find p (range_with_len 0 (length nodes))
    no_item k past none = sym (find_none p items (λ j below. none j (omega arith))) ∙ over_items

-- ---- where a used node stands

-- a number that passes stands somewhere, and before each greater one
pub record StandsAt (xs : List ℕ) (m : ℕ) : Type 0 where
  pub place : ℕ
  pub within : place < length xs
  pub here : get_or xs place 0 ≡ m
  pub before : (i : ℕ) → i < length xs → m < get_or xs i 0 → place < i

stands_first : (a : ℕ) (xs : List ℕ) → StandsAt (a ∷ xs) a
stands_first a xs = record { place = 0; within = omega arith; here = refl; before = before }
  where
    before : (i : ℕ) → i < length (a ∷ xs) → a < get_or (a ∷ xs) i 0 → 0 < i
    before zero within less = absurd (omega arith)
    before (suc i) within less = omega arith

stands_later : (a m : ℕ) (xs : List ℕ) → a < m → StandsAt xs m → StandsAt (a ∷ xs) m
stands_later a m xs low at = record { place = suc at.place; within = let w = at.within in omega arith; here = at.here; before = before }
  where
    before : (i : ℕ) → i < length (a ∷ xs) → m < get_or (a ∷ xs) i 0 → suc at.place < i
    before zero within less = absurd (omega arith)
    before (suc i) within less = let rest = at.before i (omega arith) less in omega arith

pub stands : (q : ℕ → Bool) (a k m : ℕ) → a ≤ m → m < a + k → q m ≡ true → StandsAt (filter q (range_with_len a k)) m
stands q a zero m from below passes = absurd (omega arith)
stands q a (suc k) m from below passes =
    elim (cases_eq a m) [
      | inl same ↦ let here : q a ≡ true = ap q same ∙ passes in rw here (subst (λ (n : ℕ). StandsAt (a ∷ filter q (range_with_len (a + 1) k)) n) same (stands_first a (filter q (range_with_len (a + 1) k))))
      | inr other ↦
          let rest = stands q (a + 1) k m (omega arith) (omega arith) passes in
          elim (cases_Bool (q a)) [
            | inl yes_a ↦ rw yes_a (stands_later a m (filter q (range_with_len (a + 1) k)) (omega arith) rest)
            | inr not_a ↦ rw not_a rest
          ]
    ]

pub stands_in : (nodes : List Node) (request : Request) (items : List ℕ) → items ≡ used_nodes nodes request → (n : ℕ) → n < length nodes → is_used (tree_alone nodes) request n ≡ true → StandsAt items n
stands_in nodes request items is n below used =
    subst (λ (xs : List ℕ). StandsAt xs n) (sym is) (stands (is_used (tree_alone nodes) request) 0 (length nodes) n (omega arith) (omega arith) used)

-- a port, or the node itself
under_endpoint : {nodes : List Node} → KnownTree nodes → (n : ℕ) → is_port_at nodes n ≡ false → (m : ℕ) → is_under nodes n m ≡ true → m ≡ n
under_endpoint {nodes} known n no_port =
    up_tree known (λ m. is_under nodes n m ≡ true → m ≡ n)
    (λ m none under. eqb-true m n (sym (under_root known n m none) ∙ under))
    (λ m p some rest under.
    elim (or_cases (m == n) (is_under nodes n p.node) (sym (under_step known n m p some) ∙ under)) [
      | inl here ↦ eqb-true m n here
      | inr higher ↦ let same : p.node ≡ n = rest higher in absurd (false≢true (sym no_port ∙ ap (is_port_at nodes) (sym same) ∙ (parent_is_port known m p some).1))
    ])

module _ (nodes : List Node) (known : KnownTree nodes) (request : Request) (named : All (λ m. is_endpoint_at nodes m ≡ true) request.endpoints) where
  -- a used node is one of the tree
  pub used_below : (n : ℕ) → is_used (tree_alone nodes) request n ≡ true → n < length nodes
  used_below n used =
      let some = Any-from_list_any (is_under nodes n) request.endpoints used in
      let low = under_later known n some.1 some.4 in
      let endpoint : is_endpoint_at nodes some.1 ≡ true = subst (λ (m : ℕ). is_endpoint_at nodes m ≡ true) some.3 (named some.0 some.1 some.2) in
      let inside = endpoint_within nodes some.1 endpoint in
      omega arith

  pub used_stands : (items : List ℕ) → items ≡ used_nodes nodes request → (n : ℕ) → is_used (tree_alone nodes) request n ≡ true → StandsAt items n
  used_stands items is n used =
      let below = used_below n used in
      subst (λ (xs : List ℕ). StandsAt xs n) (sym is) (stands (is_used (tree_alone nodes) request) 0 (length nodes) n (omega arith) (omega arith) used)

  -- an endpoint that is asked for is used
  pub asked_used : (m : ℕ) → Contains request.endpoints m → is_used (tree_alone nodes) request m ≡ true
  asked_used m asked = list_any-from_Any (is_under nodes m) request.endpoints (asked.0, m, asked.1, asked.2, under_self known m)

  pub asked_endpoint : (m : ℕ) → Contains request.endpoints m → is_endpoint_at nodes m ≡ true
  asked_endpoint m asked = subst (λ (k : ℕ). is_endpoint_at nodes k ≡ true) asked.2 (named asked.0 m asked.1)

  -- a used endpoint is asked for
  pub used_asked : (n : ℕ) → is_endpoint_at nodes n ≡ true → is_used (tree_alone nodes) request n ≡ true → Contains request.endpoints n
  used_asked n endpoint used =
      let some = Any-from_list_any (is_under nodes n) request.endpoints used in
      let same : some.1 ≡ n = under_endpoint known n (no_port n endpoint) some.1 some.4 in
      subst (Contains request.endpoints) same (some.0, some.2, some.3)
    where
      no_port : (k : ℕ) → is_endpoint_at nodes k ≡ true → is_port_at nodes k ≡ false
      no_port k is = go (slice_get nodes k) is
        where
          go : (o : Option Node) → option_map_or (λ node. is_endpoint node.kind) o false ≡ true → option_map_or (λ node. not (is_endpoint node.kind)) o false ≡ false
          go None h = refl
          go (Some node) h = ap not h

-- ---- the end of all

pub floor_more : (f : ℕ → ℕ) (i old new limit : ℕ) → new ≡ max (f i) old → f i ≤ limit
    → ((k : ℕ) → k < i → f k ≤ old) × ((bound : ℕ) → ((k : ℕ) → k < i → f k ≤ bound) → old ≤ bound) × (old ≤ limit)
    → ((k : ℕ) → k < i + 1 → f k ≤ new) × ((bound : ℕ) → ((k : ℕ) → k < i + 1 → f k ≤ bound) → new ≤ bound) × (new ≤ limit)
floor_more f i old new limit is low known = (each, least, omega (arith, known.2))
  where
    each : (k : ℕ) → k < i + 1 → f k ≤ new
    each k below =
        elim (cases_eq k i) [
          | inl same ↦ let e = ap f same in omega arith
          | inr other ↦ let before = known.0 k (omega arith) in omega arith
        ]

    least : (bound : ℕ) → ((k : ℕ) → k < i + 1 → f k ≤ bound) → new ≤ bound
    least bound all =
        let here = all i (omega arith) in
        let before = known.1 bound (λ k below. all k (omega arith)) in
        omega arith
