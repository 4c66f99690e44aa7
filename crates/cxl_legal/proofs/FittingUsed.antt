-- The endpoints of a legal plan's range are those of its request, and the nodes to which the range leads are the used ones.
use Rattle.std.proofs.Common.{◌≡◌, ◌≢◌, ℕ, ◌*◌, ◌<◌, Bool, true, false, not, ◌&&◌, ◌||◌, List, [], ◌∷◌, length, get_or, Option, Some, None, refl, sym, ap, ◌∙◌, subst, inl, inr, arith}
use Rattle.std.specs.Prelude.{◌==◌, All, AllPairs, filter, IsTrue}
use Rattle.std.specs.Option.{option_map_or}
use Rattle.std.specs.List.{list_any, range_with_len}
use Rattle.std.proofs.lemmas.Bool.{cases_Bool, and_parts, and_from, eqb-true, false_from_ne_true, false≢true, not_from_false}
use Rattle.std.proofs.lemmas.List.Folds.{Any-from_list_any}
use Rattle.cxl_topo.specs.declared.node.Node.{Node}
use Rattle.cxl_topo.specs.Tree.{forwards_at, is_endpoint_at}
use Rattle.cxl_regs.specs.declared.reading.Range.{Range}
use Rattle.cxl_window.specs.Fields.{WindowFields}
use Rattle.cxl_model.specs.declared.plan.Row.{Row}
use Rattle.cxl_model.specs.declared.request.Request.{Request}
use Rattle.cxl_model.specs.System.{System, IsSystem}
use Rattle.cxl_model.specs.Ranges.{IsCommittedRange, serves, window_for, ways_above, range_ways, first_decoder}
use Rattle.cxl_model.specs.Rules.{are_distinct, lands_on}
use Rattle.cxl_model.specs.Accepted.{IsWhole}
use Rattle.cxl_model.specs.Counts.{is_under, is_endpoint_of, endpoints_of, endpoints_under}
use Rattle.cxl_model.specs.Plans.{with_rows}
use Rattle.cxl_enc.specs.Codes.{is_ways}
use Rattle.cxl_enc.proofs.Ways.{some_ways}
use Rattle.cxl_enc.proofs.Lists.{list_any-weaker, none_filtered, some_filtered}
use Rattle.cxl_enc.proofs.Tests.{same_test, and_true}
use Rattle.cxl_topo.proofs.Trees.{KnownTree, forwards_no_endpoint, endpoint_within}
use Rattle.cxl_regs.specs.Reading.{decoder_ways}
use Rattle.cxl_regs.specs.declared.decoder.Decoder.{Decoder}
use Rattle.cxl_regs.proofs.DecoderRanges.{decoder_ways_known}
use Rattle.cxl_model.proofs.Sums.{one, total, length-filter-total, total-same, exchange, once, total_each, length_total, once_below}
use Rattle.cxl_model.proofs.Under.{under_endpoint}
use Rattle.cxl_model.proofs.RangeRules.{RangesRise}
use Rattle.cxl_model.proofs.RangeCounts.{numbers, count_of, count_under as count_of_under}
use Rattle.cxl_model.proofs.Distinct.{distinct_test}
use Rattle.cxl_legal.specs.Used.{HasBytePorts, AreEndpoints, request_ways, is_used, count_under}
use Rattle.cxl_legal.specs.Stated.{has_row}
use Rattle.cxl_legal.proofs.FittingRows.{Rowed, serves_row}

-- ---- sums over numbers that are listed

-- a number that is listed, with a test that it passes
both_listed : (p : ℕ → Bool) (m : ℕ) (xs : List ℕ) → (list_any (λ e. e == m) xs && p m) ≡ list_any (λ e. (e == m) && p m) xs
both_listed p m [] = refl
both_listed p m (x ∷ xs) = joined (x == m) (list_any (λ e. e == m) xs) (p m) ∙ ap (λ b. ((x == m) && p m) || b) (both_listed p m xs)
  where
    joined : (a b c : Bool) → ((a || b) && c) ≡ ((a && c) || (b && c))
    joined true true true = refl
    joined true true false = refl
    joined true false true = refl
    joined true false false = refl
    joined false b c = refl

once_listed : (p : ℕ → Bool) (xs : List ℕ) → are_distinct xs ≡ true → (m : ℕ) → one (list_any (λ e. e == m) xs && p m) ≡ total (λ e. one ((e == m) && p m)) xs
once_listed p xs distinct m = ap one (both_listed p m xs) ∙ sym (once (λ e. (e == m) && p m) same xs distinct)
  where
    same : (a b : ℕ) → ((a == m) && p m) ≡ true → ((b == m) && p m) ≡ true → a ≡ b
    same a b first second = eqb-true a m (and_parts (a == m) (p m) first).0 ∙ sym (eqb-true b m (and_parts (b == m) (p m) second).0)

-- of numbers that differ and are below n, as many pass a test as of the numbers below n that are listed
pub listed_total : (n : ℕ) (p : ℕ → Bool) (xs : List ℕ) → are_distinct xs ≡ true → All (λ x. x < n) xs
    → total (λ m. one (list_any (λ e. e == m) xs && p m)) (range_with_len 0 n) ≡ total (λ x. one (p x)) xs
listed_total n p xs distinct within =
    total-same (λ m. one (list_any (λ e. e == m) xs && p m)) (λ m. total (λ e. one ((e == m) && p m)) xs) (once_listed p xs distinct) (range_with_len 0 n)
    ∙ exchange (λ m e. one ((e == m) && p m)) (range_with_len 0 n) xs
    ∙ total_each (λ e. total (λ m. one ((e == m) && p m)) (range_with_len 0 n)) (λ e. one (p e)) xs (λ k d inside. once_below p n (get_or xs k d) (within k d inside))

-- and there are as many of them as pass the test of being listed
pub listed_length : (n : ℕ) (p : ℕ → Bool) (xs : List ℕ) → are_distinct xs ≡ true → All (λ x. x < n) xs → ((m : ℕ) → p m ≡ list_any (λ e. e == m) xs)
    → length (filter p (range_with_len 0 n)) ≡ length xs
listed_length n p xs distinct within same =
    length-filter-total p (range_with_len 0 n)
    ∙ total-same (λ m. one (p m)) (λ m. one (list_any (λ e. e == m) xs && true)) (λ m. ap one (same m ∙ sym (and_true (list_any (λ e. e == m) xs)))) (range_with_len 0 n)
    ∙ listed_total n (λ m. true) xs distinct within
    ∙ length_total xs

-- ---- the image of a legal plan

-- what the law of counts says
pub record CountLaw : Type 0 where
  pub under : (s : System) (r : Range) (w : WindowFields) (n : ℕ) → IsSystem s → IsWhole s r → window_for s r ≡ Some w → lands_on s r n ≡ true
      → length (endpoints_under s r n) * ways_above s r n * w.ways ≡ range_ways s r
  pub none : (s : System) (r : Range) (n : ℕ) → IsSystem s → IsWhole s r → lands_on s r n ≡ false → endpoints_under s r n ≡ []
  pub all : (s : System) (r : Range) → IsSystem s → IsWhole s r → IsCommittedRange s r → length (endpoints_of s r) ≡ range_ways s r

-- rows that are committed, so that their range is whole in this window
pub record Planned (s : System) (request : Request) (w : WindowFields) (r : Range) (rows : List Row) : Type 0 where
  pub rise : RangesRise
  pub law : CountLaw
  pub known : KnownTree s.nodes
  pub ports : HasBytePorts s.nodes
  pub named : AreEndpoints s request
  pub distinct : AllPairs (λ a b. a ≢ b) request.endpoints
  pub rowed : Rowed s request r rows
  pub system : IsSystem (with_rows s rows)
  pub whole : IsWhole (with_rows s rows) r
  pub window : window_for (with_rows s rows) r ≡ Some w
  pub committed : IsCommittedRange (with_rows s rows) r

-- ---- its endpoints

pub endpoint_own : {nodes : List Node} → KnownTree nodes → (m : ℕ) → is_endpoint_at nodes m ≡ true → forwards_at nodes m ≡ false
endpoint_own {nodes} known m is = false_from_ne_true (forwards_at nodes m) (λ forwards. false≢true (sym (forwards_no_endpoint known m forwards) ∙ is))

-- a used endpoint is requested
pub used_endpoint : {s : System} {request : Request} {w : WindowFields} {r : Range} {rows : List Row} → Planned s request w r rows → (m : ℕ) → is_endpoint_at s.nodes m ≡ true
    → is_used s request m ≡ list_any (λ e. e == m) request.endpoints
used_endpoint {s} {request} plan m is =
    same_test (is_used s request m) (list_any (λ e. e == m) request.endpoints)
    (list_any-weaker (is_under s.nodes m) (λ e. e == m) (λ e under. sym (under_endpoint plan.known m e is) ∙ under) request.endpoints)
    (list_any-weaker (λ e. e == m) (is_under s.nodes m) (λ e same. under_endpoint plan.known m e is ∙ same) request.endpoints)

pub is_requested : {s : System} {request : Request} {w : WindowFields} {r : Range} {rows : List Row} → Planned s request w r rows → (m : ℕ) → list_any (λ e. e == m) request.endpoints ≡ true
    → is_endpoint_at s.nodes m ≡ true
is_requested {s} {request} plan m any =
    let some = Any-from_list_any (λ e. e == m) request.endpoints any in
    let same : get_or request.endpoints some.0 some.1 ≡ m = some.3 ∙ eqb-true some.1 m some.4 in
    subst (λ (e : ℕ). is_endpoint_at s.nodes e ≡ true) same (plan.named some.0 some.1 some.2)

-- the endpoints of the range are the requested ones
pub endpoint_is : {s : System} {request : Request} {w : WindowFields} {r : Range} {rows : List Row} → Planned s request w r rows → (m : ℕ)
    → is_endpoint_of (with_rows s rows) r m ≡ list_any (λ e. e == m) request.endpoints
endpoint_is {s} {request} {w} {r} {rows} plan m =
    same_test (is_endpoint_of (with_rows s rows) r m) (list_any (λ e. e == m) request.endpoints) to from
  where
    to : is_endpoint_of (with_rows s rows) r m ≡ true → list_any (λ e. e == m) request.endpoints ≡ true
    to is =
        let parts = and_parts (is_endpoint_at s.nodes m) (serves (with_rows s rows) r m) is in
        let row : has_row s request m ≡ true = sym (serves_row s request r rows plan.rowed m) ∙ parts.1 in
        sym (used_endpoint plan m parts.0) ∙ (and_parts (is_used s request m) (not (forwards_at s.nodes m)) row).0

    from : list_any (λ e. e == m) request.endpoints ≡ true → is_endpoint_of (with_rows s rows) r m ≡ true
    from any =
        let endpoint = is_requested plan m any in
        let row : has_row s request m ≡ true =
        and_from (is_used s request m) (not (forwards_at s.nodes m)) (used_endpoint plan m endpoint ∙ any) (not_from_false (forwards_at s.nodes m) (endpoint_own plan.known m endpoint)) in
        and_from (is_endpoint_at s.nodes m) (serves (with_rows s rows) r m) endpoint (serves_row s request r rows plan.rowed m ∙ row)

-- of them as many pass a test as of those
pub count_is : {s : System} {request : Request} {w : WindowFields} {r : Range} {rows : List Row} → Planned s request w r rows → (p : ℕ → Bool)
    → count_of (with_rows s rows) r p ≡ total (λ m. one (p m)) request.endpoints
count_is {s} {request} {w} {r} {rows} plan p =
    total-same (λ m. one (is_endpoint_of (with_rows s rows) r m && p m)) (λ m. one (list_any (λ e. e == m) request.endpoints && p m)) (λ m. ap (λ b. one (b && p m)) (endpoint_is plan m)) (numbers s)
    ∙ listed_total (length s.nodes) p request.endpoints (distinct_test request.endpoints plan.distinct)
    (λ k d within. endpoint_within s.nodes (get_or request.endpoints k d) (plan.named k d within))

pub under_is_count : {s : System} {request : Request} {w : WindowFields} {r : Range} {rows : List Row} → Planned s request w r rows → (n : ℕ)
    → length (endpoints_under (with_rows s rows) r n) ≡ count_under s request n
under_is_count {s} {request} {w} {r} {rows} plan n =
    count_of_under (with_rows s rows) r n ∙ count_is plan (is_under s.nodes n) ∙ sym (length-filter-total (is_under s.nodes n) request.endpoints)

-- as many ways as endpoints
pub ways_are : {s : System} {request : Request} {w : WindowFields} {r : Range} {rows : List Row} → Planned s request w r rows → request_ways request ≡ range_ways (with_rows s rows) r
ways_are {s} {request} {w} {r} {rows} plan =
    sym (listed_length (length s.nodes) (is_endpoint_of (with_rows s rows) r) request.endpoints (distinct_test request.endpoints plan.distinct)
    (λ k d within. endpoint_within s.nodes (get_or request.endpoints k d) (plan.named k d within)) (endpoint_is plan))
    ∙ plan.law.all (with_rows s rows) r plan.system plan.whole plan.committed

pub range_ways_known : (s : System) (r : Range) → IsTrue (is_ways (range_ways s r))
range_ways_known s r = go (first_decoder s r)
  where
    go : (o : Option Decoder) → IsTrue (is_ways (option_map_or decoder_ways o 1))
    go None = refl
    go (Some d) = decoder_ways_known d

pub ways_known : {s : System} {request : Request} {w : WindowFields} {r : Range} {rows : List Row} → Planned s request w r rows → IsTrue (is_ways (request_ways request))
ways_known {s} {request} {w} {r} {rows} plan = subst (λ (n : ℕ). IsTrue (is_ways n)) (sym (ways_are plan)) (range_ways_known (with_rows s rows) r)

pub some_requested : {s : System} {request : Request} {w : WindowFields} {r : Range} {rows : List Row} → Planned s request w r rows → 0 < request_ways request
some_requested {s} {request} plan = some_ways (request_ways request) (ways_known plan)

-- ---- its nodes

-- the requested endpoints under a node to which the range leads, times the ways above it and the window's, are the request's ways
pub even_at : {s : System} {request : Request} {w : WindowFields} {r : Range} {rows : List Row} → Planned s request w r rows → (n : ℕ) → lands_on (with_rows s rows) r n ≡ true
    → count_under s request n * ways_above (with_rows s rows) r n * w.ways ≡ request_ways request
even_at {s} {request} {w} {r} {rows} plan n lands =
    ap (λ (k : ℕ). k * ways_above (with_rows s rows) r n * w.ways) (sym (under_is_count plan n))
    ∙ plan.law.under (with_rows s rows) r w n plan.system plan.whole plan.window lands
    ∙ sym (ways_are plan)

pub used_lands : {s : System} {request : Request} {w : WindowFields} {r : Range} {rows : List Row} → Planned s request w r rows → (n : ℕ) → is_used s request n ≡ true
    → lands_on (with_rows s rows) r n ≡ true
used_lands {s} {request} {w} {r} {rows} plan n used =
    elim (cases_Bool (lands_on (with_rows s rows) r n)) [
      | inl lands ↦ lands
      | inr other ↦
          let none : count_under s request n ≡ 0 = sym (under_is_count plan n) ∙ ap (λ (ms : List ℕ). length ms) (plan.law.none (with_rows s rows) r n plan.system plan.whole other) in
          let some : 0 < count_under s request n = some_filtered (is_under s.nodes n) request.endpoints used in
          absurd (omega (arith, none, some))
    ]

pub lands_used : {s : System} {request : Request} {w : WindowFields} {r : Range} {rows : List Row} → Planned s request w r rows → (n : ℕ) → lands_on (with_rows s rows) r n ≡ true
    → is_used s request n ≡ true
lands_used {s} {request} {w} {r} {rows} plan n lands =
    elim (cases_Bool (is_used s request n)) [
      | inl used ↦ used
      | inr unused ↦
          let none : count_under s request n ≡ 0 = none_filtered (is_under s.nodes n) request.endpoints unused in
          let ways : 0 * ways_above (with_rows s rows) r n * w.ways ≡ request_ways request = ap (λ (k : ℕ). k * ways_above (with_rows s rows) r n * w.ways) (sym none) ∙ even_at plan n lands in
          let some = some_requested plan in
          let zero_is : 0 * ways_above (with_rows s rows) r n * w.ways ≡ 0 = zero_times (ways_above (with_rows s rows) r n) w.ways in
          absurd (omega (arith, ways, some, zero_is))
    ]
  where
    zero_times : (a b : ℕ) → 0 * a * b ≡ 0
    zero_times a b = grind arith
