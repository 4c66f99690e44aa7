-- A trail has room for what an opening sends, and tells where it had none.
use Rattle.std.proofs.Common.{◌≡◌, ℕ, zero, suc, ◌+◌, ◌-◌, ◌≤◌, min, not, List, [], ◌∷◌, ◌++◌, length, take, replicate, Option, Some, refl, sym, ap, ◌∙◌, arith}
use Rattle.std.specs.List.{range_with_len}
use Rattle.std.proofs.Math.Seq.{take-nil}
use Rattle.std.proofs.lemmas.List.{append-nil, length-replicate, replicate_more}
use Rattle.std.proofs.lemmas.List.Filters.{length-filter_both}
use Rattle.std.proofs.lemmas.List.FromFn.{length-range_with_len}
use Rattle.cxl_bus.specs.Failed.{place_limit, HasFailedAt}
use Rattle.cxl_enc.specs.Counters.{next_count}
use Rattle.cxl_model.specs.System.{System, IsSystem}
use Rattle.cxl_opening.specs.Opening.{endpoints_in, IsHalfEnabled}
use Rattle.cxl_topo.specs.Tree.{is_endpoint_at}
use Rattle.cxl_topo.specs.declared.node.Node.{Node}
use Rattle.cxl_held.specs.Trails.{Trailed, room, trailed_state}

-- ---- where it had none

-- one place more, where there is room for it
place_more : (limit k place : ℕ) → k ≤ limit → replicate (min (k + 1) limit) place ≡ replicate k place ++ take (limit - length (replicate k place)) (place ∷ [])
place_more limit k place few = go (limit - length (replicate k place)) refl
  where
    long : length (replicate k place) ≡ k
    long = length-replicate k place

    go : (left : ℕ) → left ≡ limit - length (replicate k place) → replicate (min (k + 1) limit) place ≡ replicate k place ++ take left (place ∷ [])
    go zero is =
        let all : min (k + 1) limit ≡ k = let e = long in omega (arith, is, e, few) in
        ap (λ (n : ℕ). replicate n place) all ∙ sym (append-nil (replicate k place))
    go (suc left) is =
        let more : min (k + 1) limit ≡ k + 1 = let e = long in omega (arith, is, e, few) in
        ap (λ (n : ℕ). replicate n place) more ∙ sym (replicate_more k place) ∙ ap (λ (xs : List ℕ). replicate k place ++ place ∷ xs) (sym (take-nil left))

-- a call that finds the trail full failed behind all that was sent
pub fails_full : (bus next : Trailed) → length bus.trail ≡ room → bus.overruns ≤ place_limit
    → next ≡ record bus { overruns = min (bus.overruns + 1) place_limit; faults = next_count bus.faults } → HasFailedAt (trailed_state bus) (trailed_state next) (0 ∷ [])
fails_full bus next full counted is =
    let all : room ≡ length bus.trail + 0 = omega (arith, full) in
    ap (λ (b : Trailed). Some (replicate b.overruns room)) is ∙ ap (λ (places : List ℕ). Some places) (place_more place_limit bus.overruns room counted)
    ∙ ap (λ (place : ℕ). Some (replicate bus.overruns room ++ take (place_limit - length (replicate bus.overruns room)) (place ∷ []))) all

-- ---- what an opening sends

-- there are no more endpoints than nodes
few_endpoints : (nodes : List Node) → length (endpoints_in nodes) ≤ length nodes
few_endpoints nodes =
    let numbers = range_with_len 0 (length nodes) in
    let all = length-filter_both (is_endpoint_at nodes) (λ (n : ℕ). not (is_endpoint_at nodes n)) (λ _. refl) numbers in
    let long = length-range_with_len 0 (length nodes) in
    omega (arith, all, long)

-- the one place that is told is behind all the words that there is room for
told_full : (k n : ℕ) → replicate k room ≡ n ∷ [] → n ≡ room
told_full zero n is = cc
told_full (suc k) n is = cc

-- no call fails while the endpoints are let decode
pub never_full : (s : System) (old new : Trailed) → IsSystem s → IsHalfEnabled s (trailed_state old) (trailed_state new) → ⊥
never_full s old new system half =
    let told : replicate new.overruns room ≡ (0 + half.n) ∷ [] = some_same half.fails.at in
    let full = told_full new.overruns (0 + half.n) told in
    let some = half.part in
    let few = few_endpoints s.nodes in
    let fewer = system.tree.few_nodes in
    omega (arith, full, some, few, fewer)
  where
    some_same : {xs ys : List ℕ} → ◌≡◌ {A = Option (List ℕ)} (Some xs) (Some ys) → xs ≡ ys
    some_same is = cc
