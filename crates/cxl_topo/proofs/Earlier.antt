-- Searches over the nodes before one of them.
use Rattle.std.proofs.Common.{◌≡◌, ℕ, zero, suc, ◌+◌, ◌<◌, ◌≤◌, Bool, true, false, List, [], ◌∷◌, take, Option, Some, None, is_some, refl, sym, ap, subst, ◌∙◌, inl, inr, arith}
use Rattle.std.specs.Prelude.{slice_get, position}
use Rattle.std.specs.List.{position_from}
use Rattle.std.specs.Option.{option_map_or}
use Rattle.std.proofs.lemmas.Bool.{cases_Bool, cases_lt, false≢true}
use Rattle.std.proofs.lemmas.Option.{none-some}
use Rattle.std.proofs.lemmas.Iterator.Adapters.{position_from-zero}
use Rattle.cxl_topo.specs.declared.node.Node.{Node}
use Rattle.cxl_topo.specs.Tree.{holds_at}

-- ---- what a search finds

-- a node that passes stands at the place
pub record PassesAt (test : Node → Bool) (nodes : List Node) (i : ℕ) : Type 0 where
  pub node : Node
  pub there : slice_get nodes i ≡ Some node
  pub passes : test node ≡ true

finds_from : (test : Node → Bool) (nodes : List Node) (start i : ℕ) → position_from test start nodes ≡ Some i → (k : ℕ) × (start + k ≡ i) × PassesAt test nodes k
finds_from test [] start i e = absurd (none-some i e)
finds_from test (node ∷ nodes) start i e =
    elim (cases_Bool (test node)) [
      | inl p ↦
          let here : ◌≡◌ {A = Option ℕ} (Some start) (Some i) = rw p at e in
          (0, start_is start i here, record { node = node; there = refl; passes = p })
      | inr p ↦
          let later = finds_from test nodes (start + 1) i (rw p at e) in
          let same = later.1 in
          (suc later.0, omega arith, record { node = later.2.node; there = later.2.there; passes = later.2.passes })
    ]
  where
    start_is : (a b : ℕ) → ◌≡◌ {A = Option ℕ} (Some a) (Some b) → a + 0 ≡ b
    start_is a b e = let same : a ≡ b = cc in omega arith

pub finds : (test : Node → Bool) (nodes : List Node) (i : ℕ) → position test nodes ≡ Some i → PassesAt test nodes i
finds test nodes i e =
    let at = finds_from test nodes 0 i (sym (position_from-zero test nodes) ∙ e) in
    let same : at.0 ≡ i = omega (arith, at.1) in
    subst (PassesAt test nodes) same at.2

found_from : (test : Node → Bool) (nodes : List Node) (start i : ℕ) (node : Node) → slice_get nodes i ≡ Some node → test node ≡ true → is_some (position_from test start nodes) ≡ true
found_from test [] start i node e p = absurd (none-some node e)
found_from test (own ∷ nodes) start zero node e p =
    let same : own ≡ node = cc in
    rw (same, p)
found_from test (own ∷ nodes) start (suc i) node e p =
    elim (cases_Bool (test own)) [
      | inl q ↦ rw q
      | inr q ↦ rw q (found_from test nodes (start + 1) i node e p)
    ]

-- a search finds something where a node passes
pub found : (test : Node → Bool) (nodes : List Node) (i : ℕ) (node : Node) → slice_get nodes i ≡ Some node → test node ≡ true → is_some (position test nodes) ≡ true
found test nodes i node e p = ap is_some (position_from-zero test nodes) ∙ found_from test nodes 0 i node e p

-- and it finds the least such place
pub record FindsAtMost (place : Option ℕ) (i : ℕ) : Type 0 where
  pub least : ℕ
  pub is : place ≡ Some least
  pub within : least ≤ i

least_from : (test : Node → Bool) (nodes : List Node) (start i : ℕ) (node : Node) → slice_get nodes i ≡ Some node → test node ≡ true → FindsAtMost (position_from test start nodes) (start + i)
least_from test [] start i node e p = absurd (none-some node e)
least_from test (own ∷ nodes) start zero node e p =
    let same : own ≡ node = cc in
    record { least = start; is = rw (same, p) refl; within = omega arith }
least_from test (own ∷ nodes) start (suc i) node e p =
    elim (cases_Bool (test own)) [
      | inl q ↦ record { least = start; is = rw q refl; within = omega arith }
      | inr q ↦
          let later = least_from test nodes (start + 1) i node e p in
          let within = later.within in
          record { least = later.least; is = rw q later.is; within = omega arith }
    ]

pub finds_least : (test : Node → Bool) (nodes : List Node) (i : ℕ) (node : Node) → slice_get nodes i ≡ Some node → test node ≡ true → FindsAtMost (position test nodes) i
finds_least test nodes i node e p =
    let one = least_from test nodes 0 i node e p in
    let within = one.within in
    record { least = one.least; is = position_from-zero test nodes ∙ one.is; within = omega arith }

-- ---- the earlier nodes

pub earlier_get : (nodes : List Node) (k i : ℕ) → i < k → slice_get (take k nodes) i ≡ slice_get nodes i
earlier_get nodes zero i lt = absurd (omega arith)
earlier_get [] (suc k) i lt = refl
earlier_get (node ∷ nodes) (suc k) zero lt = refl
earlier_get (node ∷ nodes) (suc k) (suc i) lt = earlier_get nodes k i (omega arith)

pub later_none : (nodes : List Node) (k i : ℕ) → k ≤ i → slice_get (take k nodes) i ≡ None
later_none nodes zero i le = refl
later_none [] (suc k) i le = refl
later_none (node ∷ nodes) (suc k) zero le = absurd (omega arith)
later_none (node ∷ nodes) (suc k) (suc i) le = later_none nodes k i (omega arith)

pub earlier_holds : (nodes : List Node) (k i : ℕ) (test : Node → Bool) → i < k → holds_at (take k nodes) i test ≡ holds_at nodes i test
earlier_holds nodes k i test lt = ap (λ (o : Option Node). option_map_or test o false) (earlier_get nodes k i lt)

-- a search over the earlier nodes finds something where an earlier node passes
pub found_earlier : (test : Node → Bool) (nodes : List Node) (k i : ℕ) (node : Node) → i < k → slice_get nodes i ≡ Some node → test node ≡ true → is_some (position test (take k nodes)) ≡ true
found_earlier test nodes k i node lt e p = found test (take k nodes) i node (earlier_get nodes k i lt ∙ e) p

-- and what it finds is earlier
pub record PassesBefore (test : Node → Bool) (nodes : List Node) (k : ℕ) : Type 0 where
  pub place : ℕ
  pub earlier : place < k
  pub at : PassesAt test nodes place

pub finds_earlier : (test : Node → Bool) (nodes : List Node) (k : ℕ) → is_some (position test (take k nodes)) ≡ true → PassesBefore test nodes k
finds_earlier test nodes k e = go (position test (take k nodes)) refl e
  where
    go : (o : Option ℕ) → position test (take k nodes) ≡ o → is_some o ≡ true → PassesBefore test nodes k
    go None e s = absurd (false≢true s)
    go (Some i) e s =
        let at = finds test (take k nodes) i e in
        elim (cases_lt i k) [
          | inl lt ↦ record { place = i; earlier = lt; at = record { node = at.node; there = sym (earlier_get nodes k i lt) ∙ at.there; passes = at.passes } }
          | inr le ↦ absurd (none-some at.node (sym (later_none nodes k i le) ∙ at.there))
        ]
