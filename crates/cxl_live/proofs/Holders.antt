-- The region that a search by base finds.
use Rattle.std.proofs.Common.{◌≡◌, ℕ, ◌-◌, ◌<◌, ◌≤◌, Bool, true, false, cond, ltb, List, [], ◌∷◌, length, get_or, Some, None, inl, inr, refl, sym, ap, ◌∙◌, subst, arith}
use Rattle.std.specs.Prelude.{All, position, slice_get}
use Rattle.std.specs.List.{position_or_len}
use Rattle.std.specs.List.Sorted.{IsPartitionPoint}
use Rattle.std.proofs.lemmas.Bool.{cases_lt, cases_order, cases_Bool, lt-ltb, le-ltb, false≢true}
use Rattle.std.proofs.lemmas.List.{get_or_default}
use Rattle.std.proofs.lemmas.List.Sums.{position_or_len_is}
use Rattle.std.proofs.lemmas.Option.{slice_get-get_or, get_or_from_slice_get, slice_get_within, same_Some}
use Rattle.cxl_model.specs.declared.found.Found.{Found}
use Rattle.cxl_machine.specs.Machine.{has_host}
use Rattle.cxl_live.specs.declared.ordering.BaseAt.{BaseAt}
use Rattle.cxl_live.specs.Apart.{LieApart}
use Rattle.cxl_live.specs.ByBase.{AreByBase}
use Rattle.cxl_live.proofs.Hosts.{host_from, host_below, host_within}
use Rattle.cxl_live.proofs.Bases.{all_bases, each_base}

-- ---- the first place that passes a test

module _ {X : Type 0} (p : X → Bool) where
  pub passes_nowhere : (xs : List X) → ((k : ℕ) (x : X) → slice_get xs k ≡ Some x → p x ≡ false) → position p xs ≡ None
  passes_nowhere [] none = refl
  passes_nowhere (x ∷ xs) none =
      let all : position_or_len p (x ∷ xs) ≡ length (x ∷ xs) =
      position_or_len_is p (x ∷ xs) (length (x ∷ xs)) x (omega arith) (λ k low. none k (get_or (x ∷ xs) k x) (slice_get-get_or (x ∷ xs) k x low)) (λ low. absurd (omega (arith, low))) in
      ap (λ (n : ℕ). cond (ltb n (length (x ∷ xs))) (Some n) None) all ∙ ap (λ (b : Bool). cond b (Some (length (x ∷ xs))) None) (le-ltb (length (x ∷ xs)) (length (x ∷ xs)) (omega arith))

  pub passes_here : (xs : List X) (i : ℕ) (x : X) → slice_get xs i ≡ Some x → p x ≡ true → ((k : ℕ) (y : X) → slice_get xs k ≡ Some y → p y ≡ true → k ≡ i) → position p xs ≡ Some i
  passes_here xs i x there passes alone =
      let low : i < length xs = slice_get_within xs i x there in
      let before : (k : ℕ) → k < i → p (get_or xs k x) ≡ false = λ k less.
      elim (cases_Bool (p (get_or xs k x))) [
        | inl holds ↦
            let same = alone k (get_or xs k x) (slice_get-get_or xs k x (omega (arith, less, low))) holds in
            absurd (omega (arith, same, less))
        | inr misses ↦ misses
      ] in
      let here : position_or_len p xs ≡ i = position_or_len_is p xs i x (omega (arith, low)) before (λ _. ap p (get_or_from_slice_get xs i x x there) ∙ passes) in
      ap (λ (n : ℕ). cond (ltb n (length xs)) (Some n) None) here ∙ ap (λ (b : Bool). cond b (Some i) None) (lt-ltb i (length xs) low)

-- ---- the search

-- so many bases of the regions are no greater than an address
pub record AreReached (regions : List Found) (bases : List BaseAt) (h reached : ℕ) : Type 0 where
  pub order : AreByBase regions bases
  pub bound : reached ≤ length bases
  pub point : IsPartitionPoint (λ (own : BaseAt). own.base ≤ h) (λ (own : BaseAt). h < own.base) bases reached

pub are_reached : (regions : List Found) (bases given : List BaseAt) (h reached : ℕ) → AreByBase regions bases → given ≡ bases → reached ≤ length given
    → IsPartitionPoint (λ (own : BaseAt). own.base ≤ h) (λ (own : BaseAt). h < own.base) given reached → AreReached regions bases h reached
are_reached regions bases given h reached order same bound point = record {
  order = order;
  bound = subst (λ (xs : List BaseAt). reached ≤ length xs) same bound;
  point = subst (λ (xs : List BaseAt). IsPartitionPoint (λ (own : BaseAt). own.base ≤ h) (λ (own : BaseAt). h < own.base) xs reached) same point;
}

module _ (regions : List Found) (bases : List BaseAt) (h reached : ℕ) (are : AreReached regions bases h reached) where
  -- no base is low enough
  pub held_by_none : reached ≡ 0 → position (λ (found : Found). has_host found h) regions ≡ None
  held_by_none none =
      let above : All (λ (own : BaseAt). h < own.base) bases = λ k d low. are.point.1 k d (omega (arith, none)) low in
      passes_nowhere (λ (found : Found). has_host found h) regions (λ k found there.
      elim (cases_Bool (has_host found h)) [
        | inl holds ↦
            let from = host_from found h holds in
            let past = each_base regions bases are.order (λ (own : BaseAt). h < own.base) above k found there in
            absurd (omega (arith, from, past))
        | inr misses ↦ misses
      ])

  module _ (some : 0 < reached) (entry : BaseAt) (is : entry ≡ get_or bases (reached - 1) entry) where
    -- the region of the last base that is low enough
    abbrev IsOf : BaseAt → Type 0
    IsOf own = (found : Found) × (slice_get regions own.place ≡ Some found) × (found.base ≡ own.base)

    last : (found : Found) × (slice_get regions entry.place ≡ Some found) × (found.base ≡ entry.base)
    last =
        let all : All IsOf bases = all_bases regions bases are.order IsOf (λ k found there. (found, there, refl)) in
        let low = are.bound in
        subst IsOf (sym is) (all (reached - 1) entry (omega (arith, some, low)))

    pub last_within : entry.place < length regions
    last_within = slice_get_within regions entry.place last.0 last.1

    last_from : entry.base ≤ h
    last_from = subst (λ (own : BaseAt). own.base ≤ h) (sym is) (are.point.0 (reached - 1) entry (omega arith) (omega (arith, some)))

    -- no base that is low enough is above it
    lower : All (λ (own : BaseAt). own.base ≤ h → own.base ≤ entry.base) bases
    lower k d within from =
        elim (cases_lt k reached) [
          | inl less ↦
              let low = are.bound in
              let rises = are.order.rising k (reached - 1) entry (omega (arith, less)) (omega (arith, some, low)) in
              let mine : (get_or bases (reached - 1) entry).base ≡ entry.base = ap (λ (own : BaseAt). own.base) (sym is) in
              let own : (get_or bases k entry).base ≡ (get_or bases k d).base = ap (λ (own : BaseAt). own.base) (get_or_default bases k entry d within) in
              omega (arith, rises, mine, own)
          | inr past ↦
              let above = are.point.1 k d past within in
              absurd (omega (arith, above, from))
        ]

    module _ (found : Found) (read : found ≡ get_or regions entry.place found) where
      there : slice_get regions entry.place ≡ Some found
      there = slice_get-get_or regions entry.place found last_within ∙ ap Some (sym read)

      base_is : found.base ≡ entry.base
      base_is = ap (λ (own : Found). own.base) (same_Some found last.0 (sym there ∙ last.1)) ∙ last.2

      pub found_from : found.base ≤ h
      found_from =
          let from = last_from in
          let same = base_is in
          omega (arith, from, same)

      -- where none holds the base of another, whatever region holds the address is that one
      alone : LieApart regions → (k : ℕ) (other : Found) → slice_get regions k ≡ Some other → has_host other h ≡ true → k ≡ entry.place
      alone apart k other at has =
          let below = host_below other h has in
          let under = each_base regions bases are.order (λ (own : BaseAt). own.base ≤ h → own.base ≤ entry.base) lower k other at (host_from other h has) in
          let same = base_is in
          let high = last_from in
          let both : has_host other found.base ≡ true = host_within other found.base (omega (arith, under, same)) (omega (arith, below, same, high)) in
          let inside : k < length regions = slice_get_within regions k other at in
          let its : get_or regions k other ≡ other = get_or_from_slice_get regions k other other at in
          let own : get_or regions entry.place other ≡ found = get_or_from_slice_get regions entry.place found other there in
          let clash : has_host (get_or regions k other) (get_or regions entry.place other).base ≡ false → k ≡ entry.place = λ misses.
          absurd (false≢true (sym (subst (λ (a : Found). has_host a found.base ≡ false) its (subst (λ (b : Found). has_host (get_or regions k other) b.base ≡ false) own misses)) ∙ both)) in
          elim (cases_order k entry.place) [
            | inl equal ↦ equal
            | inr differs ↦ elim differs [
              | inl before ↦ clash (apart k entry.place other before last_within).0
              | inr after ↦ clash (apart entry.place k other after inside).1
            ]
          ]

      pub held_here : LieApart regions → h - found.base < found.size → position (λ (own : Found). has_host own h) regions ≡ Some entry.place
      held_here apart within =
          let from = found_from in
          passes_here (λ (own : Found). has_host own h) regions entry.place found there (host_within found h from (omega (arith, from, within))) (alone apart)

      pub held_nowhere : LieApart regions → found.size ≤ h - found.base → position (λ (own : Found). has_host own h) regions ≡ None
      held_nowhere apart past = passes_nowhere (λ (own : Found). has_host own h) regions (λ k other at.
          elim (cases_Bool (has_host other h)) [
            | inl holds ↦
                let it : other ≡ found = same_Some other found (sym at ∙ ap (slice_get regions) (alone apart k other at holds) ∙ there) in
                let has : has_host found h ≡ true = subst (λ (own : Found). has_host own h ≡ true) it holds in
                let from = host_from found h has in
                let below = host_below found h has in
                absurd (omega (arith, from, below, past))
            | inr misses ↦ misses
          ])
