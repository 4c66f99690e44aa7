-- A set with a legal plan has no more endpoints than lead to the window.
use Rattle.std.proofs.Common.{◌≡◌, ℕ, ◌+◌, ◌*◌, ◌/◌, ◌%◌, ◌<◌, ◌≤◌, Bool, true, false, not, ◌&&◌, ◌||◌, cond, List, [], ◌∷◌, length, get_or, filter, Option, Some, None, refl, sym, ap, ◌∙◌, subst, inl, inr, arith}
use Rattle.std.specs.Prelude.{◌==◌, All, Contains}
use Rattle.std.specs.Option.{option_map_or}
use Rattle.std.specs.List.{list_any, list_all, range_with_len}
use Rattle.std.proofs.Math.Nat.{mod-eq_of_lt}
use Rattle.std.proofs.lemmas.Nat.{le-div}
use Rattle.std.proofs.lemmas.Bool.{cases_lt, and_parts, and_from, eqb-true, false≢true}
use Rattle.std.proofs.lemmas.List.FromFn.{get_or-range_with_len, length-range_with_len}
use Rattle.std.proofs.lemmas.List.Sums.{AllPass-from_list_all}
use Rattle.cxl_enc.specs.Limits.{unit}
use Rattle.cxl_enc.proofs.Lists.{is_in, in_is, list_any-weaker}
use Rattle.cxl_enc.proofs.Tests.{and_true, asked_or}
use Rattle.cxl_topo.specs.Tree.{is_bridge_at, is_endpoint_at, uid_at}
use Rattle.cxl_topo.proofs.Trees.{KnownTree, endpoint_within}
use Rattle.cxl_window.specs.Fields.{WindowFields}
use Rattle.cxl_model.specs.System.{System}
use Rattle.cxl_model.specs.Counts.{is_under}
use Rattle.cxl_model.specs.Rules.{are_distinct}
use Rattle.cxl_model.proofs.Distinct.{distinct_test}
use Rattle.cxl_model.proofs.Sums.{one, total, length-filter-total, total-same, exchange, once, total_each, length_total, once_below}
use Rattle.cxl_model.proofs.Under.{under_self, under_top}
use Rattle.cxl_legal.specs.Used.{is_used}
use Rattle.cxl_legal.specs.Sizes.{IsSizeFor}
use Rattle.cxl_legal.specs.Windows.{is_used_bridge, is_target, has_used_bridges}
use Rattle.cxl_legal.proofs.UsedNodes.{used_by, used_root}
use Rattle.cxl_pick.specs.declared.want.Want.{Want}
use Rattle.cxl_pick.specs.Picking.{asked}
use Rattle.cxl_reason.specs.Reasons.{has_kind, is_below, lies_below, leads_there, count_there, HasCodes}

-- ---- numbers that are listed

both_listed : (p : ℕ → Bool) (m : ℕ) (xs : List ℕ) → (is_in m xs && p m) ≡ list_any (λ e. (e == m) && p m) xs
both_listed p m [] = refl
both_listed p m (x ∷ xs) = joined (x == m) (is_in m xs) (p m) ∙ ap (λ b. ((x == m) && p m) || b) (both_listed p m xs)
  where
    joined : (a b c : Bool) → ((a || b) && c) ≡ ((a && c) || (b && c))
    joined true true true = refl
    joined true true false = refl
    joined true false true = refl
    joined true false false = refl
    joined false b c = refl

once_listed : (p : ℕ → Bool) (xs : List ℕ) → are_distinct xs ≡ true → (m : ℕ) → one (is_in m xs && p m) ≡ total (λ e. one ((e == m) && p m)) xs
once_listed p xs distinct m = ap one (both_listed p m xs) ∙ sym (once (λ e. (e == m) && p m) same xs distinct)
  where
    same : (a b : ℕ) → ((a == m) && p m) ≡ true → ((b == m) && p m) ≡ true → a ≡ b
    same a b first second = eqb-true a m (and_parts (a == m) (p m) first).0 ∙ sym (eqb-true b m (and_parts (b == m) (p m) second).0)

-- of numbers that differ and are below n, as many pass a test as of the numbers below n that are listed
listed_total : (n : ℕ) (p : ℕ → Bool) (xs : List ℕ) → are_distinct xs ≡ true → All (λ x. x < n) xs
    → total (λ m. one (is_in m xs && p m)) (range_with_len 0 n) ≡ total (λ x. one (p x)) xs
listed_total n p xs distinct within =
    total-same (λ m. one (is_in m xs && p m)) (λ m. total (λ e. one ((e == m) && p m)) xs) (once_listed p xs distinct) (range_with_len 0 n)
    ∙ exchange (λ m e. one ((e == m) && p m)) (range_with_len 0 n) xs
    ∙ total_each (λ e. total (λ m. one ((e == m) && p m)) (range_with_len 0 n)) (λ e. one (p e)) xs (λ k d inside. once_below p n (get_or xs k d) (within k d inside))

-- they are as many as the numbers below n that are listed
listed_count : (n : ℕ) (xs : List ℕ) → are_distinct xs ≡ true → All (λ x. x < n) xs → length (filter (λ m. is_in m xs) (range_with_len 0 n)) ≡ length xs
listed_count n xs distinct within =
    length-filter-total (λ m. is_in m xs) (range_with_len 0 n)
    ∙ total-same (λ m. one (is_in m xs)) (λ m. one (is_in m xs && true)) (λ m. ap one (sym (and_true (is_in m xs)))) (range_with_len 0 n)
    ∙ listed_total n (λ m. true) xs distinct within
    ∙ length_total xs

-- no more pass a test than a weaker one
fewer_pass : (p q : ℕ → Bool) → ((x : ℕ) → p x ≡ true → q x ≡ true) → (xs : List ℕ) → length (filter p xs) ≤ length (filter q xs)
fewer_pass p q weaker [] = omega arith
fewer_pass p q weaker (x ∷ xs) = step (p x) (q x) (weaker x) (fewer_pass p q weaker xs)
  where
    step : (a b : Bool) → (a ≡ true → b ≡ true) → length (filter p xs) ≤ length (filter q xs) → length (cond a (x ∷ filter p xs) (filter p xs)) ≤ length (cond b (x ∷ filter q xs) (filter q xs))
    step true true both less = omega (arith, less)
    step true false both less = absurd (false≢true (both refl))
    step false true both less = omega (arith, less)
    step false false both less = less

few_enough : (n : ℕ) (p : ℕ → Bool) (xs : List ℕ) → are_distinct xs ≡ true → All (λ x. x < n) xs → ((x : ℕ) → is_in x xs ≡ true → p x ≡ true) → length xs ≤ length (filter p (range_with_len 0 n))
few_enough n p xs distinct within each =
    let all = listed_count n xs distinct within in
    let less = fewer_pass (λ m. is_in m xs) p each (range_with_len 0 n) in
    omega (arith, all, less)

-- ---- the window's bridges

passes_at : (p : ℕ → Bool) (n k : ℕ) → k < n → list_all p (range_with_len 0 n) ≡ true → p k ≡ true
passes_at p n k within all =
    let long = length-range_with_len 0 n in
    let own : k ≡ 0 + k = omega arith in
    ap p (own ∙ sym (get_or-range_with_len 0 n k 0 within))
    ∙ AllPass-from_list_all p (range_with_len 0 n) all k 0 (omega (arith, within, long))

-- a used bridge is a target
used_target : (s : System) (want : Want) (w : WindowFields) (set : List ℕ) → has_used_bridges s (asked want set) w ≡ true → (b : ℕ) → b < length s.nodes → is_bridge_at s.nodes b ≡ true → is_used s (asked want set) b ≡ true → is_target s w b ≡ true
used_target s want w set bridges b within bridge used =
    let both = and_parts (list_all (is_used_bridge s (asked want set)) w.targets) (list_all (λ n. not (is_bridge_at s.nodes n && is_used s (asked want set) n) || is_target s w n) (range_with_len 0 (length s.nodes))) bridges in
    asked_or (is_bridge_at s.nodes b && is_used s (asked want set) b) (is_target s w b)
    (passes_at (λ n. not (is_bridge_at s.nodes n && is_used s (asked want set) n) || is_target s w n) (length s.nodes) b within both.1)
    (and_from (is_bridge_at s.nodes b) (is_used s (asked want set) b) bridge used)

-- what stands under a target lies below the window
below_target : (s : System) (w : WindowFields) (b m : ℕ) → KnownTree s.nodes → is_target s w b ≡ true → is_under s.nodes b m ≡ true → lies_below s w m ≡ true
below_target s w b m known target under = go (uid_at s.nodes b) refl target
  where
    go : (o : Option ℕ) → uid_at s.nodes b ≡ o → option_map_or (λ uid. list_any (λ t. t == uid) w.targets) o false ≡ true → lies_below s w m ≡ true
    go None at none = absurd (false≢true none)
    go (Some uid) at listed =
        list_any-weaker (λ t. t == uid) (λ t. is_below s.nodes t m)
        (λ t same.
        ap (λ (u : ℕ). is_below s.nodes u m) (eqb-true t uid same)
        ∙ ap (λ (o : Option ℕ). option_map_or (λ c. is_under s.nodes c m) o false) ((known.laws.bridges uid b).1 at)
        ∙ under) w.targets listed

-- ---- the set

module _ (s : System) (want : Want) (w : WindowFields) (set : List ℕ) (known : KnownTree s.nodes) (codes : HasCodes s want w set) where
  endpoint_of : (m : ℕ) → Contains set m → is_endpoint_at s.nodes m ≡ true
  endpoint_of m there = subst (λ (k : ℕ). is_endpoint_at s.nodes k ≡ true) there.2 (codes.named there.0 m there.1)

  leads : (m : ℕ) → Contains set m → leads_there s want.kind w m ≡ true
  leads m there =
      let endpoint = endpoint_of m there in
      let within = endpoint_within s.nodes m endpoint in
      let used = used_by s (asked want set) m m there (under_self known m) in
      let root = used_root s (asked want set) known m within used in
      let target = used_target s want w set codes.bridges root.bridge root.within root.is root.used in
      let under = (under_top known root.bridge (known.tree.bridges root.bridge root.is) m).1 root.root in
      and_from (is_endpoint_at s.nodes m && has_kind s want.kind m) (lies_below s w m)
      (and_from (is_endpoint_at s.nodes m) (has_kind s want.kind m) endpoint (codes.kind m there))
      (below_target s w root.bridge m known target under)

  pub as_many : want.ways ≤ count_there s want.kind w
  as_many =
      let all = few_enough (length s.nodes) (leads_there s want.kind w) set (distinct_test set codes.distinct) (λ i d within. endpoint_within s.nodes (get_or set i d) (codes.named i d within)) (λ m in_set. leads m (in_is set m in_set)) in
      let count = codes.count in
      omega (arith, all, count)

-- ---- sizes

at_least : (n d : ℕ) → 0 < n → n % d ≡ 0 → d ≤ n
at_least n d some even =
    elim (cases_lt n d) [
      | inl less ↦ let own = mod-eq_of_lt less in absurd (omega (arith, some, even, own))
      | inr more ↦ more
    ]

-- a size for so many ways has some bytes for each
pub some_share : (size ways : ℕ) → 0 < ways → IsSizeFor size ways → 0 < size / ways
some_share size ways some legal =
    let low = at_least size (unit * ways) legal.some legal.even in
    le-div 1 size ways some (omega (arith, low))
