-- The nodes that a request uses, and the list of their rows.
use Rattle.std.proofs.Common.{◌≡◌, ℕ, zero, suc, ◌<◌, ◌⊎◌, Bool, true, false, cond, not, List, [], ◌∷◌, length, get_or, map, Option, Some, refl, sym, ap, ◌∙◌, subst, inl, inr, arith}
use Rattle.std.specs.Prelude.{slice_get, AllPairs, Contains, filter}
use Rattle.std.specs.Option.{option_map, option_map_or}
use Rattle.std.specs.List.{range_with_len}
use Rattle.std.proofs.lemmas.Bool.{cases_lt, cases_Bool, and_parts, and_from, false≢true, not-true, not_from_false}
use Rattle.std.proofs.lemmas.Option.{slice_get_past, slice_get-map, slice_get-get_or, none-some}
use Rattle.std.proofs.lemmas.List.{length-map, get_or-map}
use Rattle.std.proofs.lemmas.List.Elements.{All-contains, All-map, filter_passes}
use Rattle.std.proofs.lemmas.List.Folds.{Any-from_list_any}
use Rattle.std.proofs.lemmas.List.FromFn.{length-range_with_len, get_or-range_with_len}
use Rattle.std.proofs.lemmas.List.Kept.{AllPairs-filter}
use Rattle.cxl_enc.proofs.Lists.{contains_at}
use Rattle.cxl_enc.proofs.Numbers.{numbers_rise}
use Rattle.cxl_topo.specs.declared.node.Node.{Node}
use Rattle.cxl_topo.specs.Kinds.{is_endpoint}
use Rattle.cxl_topo.specs.Tree.{forwards_at, is_endpoint_at, is_port_at}
use Rattle.cxl_window.specs.Fields.{WindowFields}
use Rattle.cxl_topo.proofs.Trees.{KnownTree, port_no_endpoint}
use Rattle.cxl_model.specs.declared.request.Request.{Request}
use Rattle.cxl_model.specs.declared.plan.Row.{Row}
use Rattle.cxl_model.specs.System.{System}
use Rattle.cxl_model.specs.Counts.{is_under}
use Rattle.cxl_model.specs.Plans.{IsUsed, AreRowsOf}
use Rattle.cxl_legal.specs.Used.{AreEndpoints, is_used}
use Rattle.cxl_legal.specs.Stated.{has_row, stated_row, stated_rows}
use Rattle.cxl_legal.proofs.FittingRows.{StandApart, used_is, used_from}
use Rattle.cxl_legal.proofs.RowsTrees.{on_path}

-- ---- lists

-- an element that passes is kept
pub filter_keeps : {X : Type 0} (p : X → Bool) (xs : List X) (k : ℕ) (x : X) → slice_get xs k ≡ Some x → p x ≡ true → (j : ℕ) × (slice_get (filter p xs) j ≡ Some x)
filter_keeps p [] k x here passes = absurd (none-some x here)
filter_keeps p (y ∷ ys) zero x here passes =
    let same : y ≡ x = cc in
    let own : p y ≡ true = ap p same ∙ passes in
    (zero, ap (λ b. slice_get (cond b (y ∷ filter p ys) (filter p ys)) zero) own ∙ here)
filter_keeps p (y ∷ ys) (suc k) x here passes =
    let rest = filter_keeps p ys k x here passes in
    elim (cases_Bool (p y)) [
      | inl here_too ↦ (suc rest.0, ap (λ b. slice_get (cond b (y ∷ filter p ys) (filter p ys)) (suc rest.0)) here_too ∙ rest.1)
      | inr dropped ↦ (rest.0, ap (λ b. slice_get (cond b (y ∷ filter p ys) (filter p ys)) rest.0) dropped ∙ rest.1)
    ]

pub number_at : (n k : ℕ) → k < n → slice_get (range_with_len 0 n) k ≡ Some k
number_at n k low =
    let long = length-range_with_len 0 n in
    slice_get-get_or (range_with_len 0 n) k 0 (omega arith) ∙ ap (λ (x : ℕ). Some x) (get_or-range_with_len 0 n k 0 low ∙ omega arith)

-- ---- kinds

pub port_within : (nodes : List Node) (n : ℕ) (p : Node → Bool) → option_map_or p (slice_get nodes n) false ≡ true → n < length nodes
port_within nodes n p is =
    elim (cases_lt n (length nodes)) [
      | inl low ↦ low
      | inr past ↦ absurd (false≢true (sym (ap (λ (o : Option Node). option_map_or p o false) (slice_get_past nodes n past)) ∙ is))
    ]

-- ---- used nodes

-- a used node is a requested endpoint or a port
pub used_kind : (s : System) (request : Request) (n : ℕ) → KnownTree s.nodes → AreEndpoints s request → is_used s request n ≡ true
    → (Contains request.endpoints n × (is_endpoint_at s.nodes n ≡ true)) ⊎ ((is_port_at s.nodes n ≡ true) × (is_endpoint_at s.nodes n ≡ false))
used_kind s request n known named is =
    let some = Any-from_list_any (is_under s.nodes n) request.endpoints is in
    let there : Contains request.endpoints some.1 = (some.0, some.2, some.3) in
    elim (on_path known n some.1 some.4) [
      | inl same ↦
          let own : Contains request.endpoints n = subst (Contains request.endpoints) same there in
          inl (own, All-contains (λ m. is_endpoint_at s.nodes m ≡ true) request.endpoints n named own)
      | inr port ↦ inr (port, port_no_endpoint s.nodes n port)
    ]

pub used_within : (s : System) (request : Request) (n : ℕ) → KnownTree s.nodes → AreEndpoints s request → is_used s request n ≡ true → n < length s.nodes
used_within s request n known named is =
    elim (used_kind s request n known named is) [
      | inl endpoint ↦ port_within s.nodes n (λ node. is_endpoint node.kind) endpoint.1
      | inr port ↦ port_within s.nodes n (λ node. not (is_endpoint node.kind)) port.0
    ]

-- ---- rows

-- the row is that of a node that has one
abbrev pub IsStated : System → Request → WindowFields → ℕ → Row → Type 0
IsStated s request w base row = (n : ℕ) × (has_row s request n ≡ true) × (stated_row s request w base n ≡ row)

pub row_is : (s : System) (request : Request) (w : WindowFields) (base : ℕ) (row : Row) → Contains (stated_rows s request w base) row → IsStated s request w base row
row_is s request w base row there =
    let kept : List ℕ = filter (has_row s request) (range_with_len 0 (length s.nodes)) in
    All-contains (IsStated s request w base) (stated_rows s request w base) row
    (All-map (IsStated s request w base) (stated_row s request w base) kept (λ k d within. (get_or kept k d, filter_passes (has_row s request) (range_with_len 0 (length s.nodes)) k d within, refl)))
    there

pub row_there : (s : System) (request : Request) (w : WindowFields) (base n : ℕ) → n < length s.nodes → has_row s request n ≡ true → Contains (stated_rows s request w base) (stated_row s request w base n)
row_there s request w base n low has =
    let kept = filter_keeps (has_row s request) (range_with_len 0 (length s.nodes)) n n (number_at (length s.nodes) n low) has in
    contains_at (stated_rows s request w base) kept.0 (stated_row s request w base n)
    (slice_get-map (stated_row s request w base) (filter (has_row s request) (range_with_len 0 (length s.nodes))) kept.0 ∙ ap (option_map (stated_row s request w base)) kept.1)

pub rows_rise : (s : System) (request : Request) (w : WindowFields) (base : ℕ) → AllPairs (λ (row next : Row). row.node < next.node) (stated_rows s request w base)
rows_rise s request w base i j d less within =
    let kept : List ℕ = filter (has_row s request) (range_with_len 0 (length s.nodes)) in
    let long : length (map (stated_row s request w base) kept) ≡ length kept = length-map kept (stated_row s request w base) in
    let rises : get_or kept i 0 < get_or kept j 0 = AllPairs-filter (λ a b. a < b) (has_row s request) (range_with_len 0 (length s.nodes)) (numbers_rise (length s.nodes)) i j 0 less (omega arith) in
    let first : (get_or (stated_rows s request w base) i d).node ≡ get_or kept i 0 = ap (λ (row : Row). row.node) (get_or-map (stated_row s request w base) kept i 0 d (omega arith)) in
    let next : (get_or (stated_rows s request w base) j d).node ≡ get_or kept j 0 = ap (λ (row : Row). row.node) (get_or-map (stated_row s request w base) kept j 0 d (omega arith)) in
    omega arith

pub rows_apart : (s : System) (request : Request) (w : WindowFields) (base : ℕ) → StandApart (stated_rows s request w base)
rows_apart s request w base i j d less within e = let rises = rows_rise s request w base i j d less within in omega (arith, e)

pub rows_of : (s : System) (request : Request) (w : WindowFields) (base : ℕ) → KnownTree s.nodes → AreEndpoints s request → AreRowsOf s request (stated_rows s request w base)
rows_of s request w base known named = record {
  rising = rows_rise s request w base;
  used = λ row there.
      let is = row_is s request w base row there in
      let parts = and_parts (is_used s request is.0) (not (forwards_at s.nodes is.0)) is.1 in
      let node : is.0 ≡ row.node = ap (λ (x : Row). x.node) is.2 in
      (subst (IsUsed s request) node (used_from s request is.0 parts.0), subst (λ (n : ℕ). forwards_at s.nodes n ≡ false) node (not-true (forwards_at s.nodes is.0) parts.1));
  all = λ n used own.
      let is = used_is s request n used in
      let has : has_row s request n ≡ true = and_from (is_used s request n) (not (forwards_at s.nodes n)) is (not_from_false (forwards_at s.nodes n) own) in
      (stated_row s request w base n, row_there s request w base n (used_within s request n known named is) has, refl);
}
