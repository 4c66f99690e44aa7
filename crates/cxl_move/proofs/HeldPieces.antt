-- The pieces of a region, by going through the places of media.
use Rattle.std.proofs.Common.{◌≡◌, ℕ, ◌+◌, ◌<◌, ◌≤◌, ◌==◌, true, eqb, List, [], ◌∷◌, ◌++◌, length, get_or, Option, Some, None, sym, ap, subst, ◌∙◌, inl, inr, arith}
use Rattle.std.specs.Prelude.{Contains}
use Rattle.std.specs.List.{IsDistinct, list_any}
use Rattle.std.specs.List.Sorted.{IsPermutation, IsSorted}
use Rattle.std.specs.Ordering.{nat_cmp}
use Rattle.std.proofs.lemmas.Bool.{cases_lt, eq-eqb, eqb-true, false_from_ne_true}
use Rattle.std.specs.Cmp.{nat_eq_equiv}
use Rattle.std.proofs.lemmas.List.{get_or_past}
use Rattle.std.proofs.lemmas.List.Folds.{Any-from_list_any, list_any_at}
use Rattle.std.proofs.lemmas.List.Elements.{Contains-push, Contains-push_cases, Contains-append_left}
use Rattle.std.proofs.lemmas.List.Sorted.{IsNonDecreasingBy-from_sort, IsPermutation-sym, Contains-permutation}
use Rattle.std.proofs.lemmas.Map.Keys.{IsDistinct-push, IsDistinct-from_apart, IsDistinct-IsPermutation, IsStrictlyIncreasing-from_distinct}
use Rattle.std.proofs.lemmas.Option.{none-some, same_Some}
use Rattle.cxl_enc.proofs.Lists.{contains_none, in_is}
use Rattle.cxl_window.specs.Fields.{WindowFields}
use Rattle.cxl_media.specs.Blocks.{Key, Blocks}
use Rattle.cxl_media.specs.Roll.{key_at_place, IsRoll}
use Rattle.cxl_model.specs.declared.found.Found.{Found}
use Rattle.cxl_move.specs.Sides.{IsPieceAt, AreHeld}
use Rattle.cxl_move.specs.inner.Steps.{HasPieceAt}

-- what the laws of pieces say of one region
pub record OneToOne (found : Found) (w : WindowFields) : Type 0 where
  pub one : (n endpoint block other place : ℕ) → IsPieceAt found w n endpoint block → IsPieceAt found w n other place → (endpoint ≡ other) × (block ≡ place)
  pub apart : (n other endpoint block : ℕ) → IsPieceAt found w n endpoint block → IsPieceAt found w other endpoint block → n ≡ other

-- the piece is carried to the block that stands at one of the first places
pub record IsAtPlace (found : Found) (w : WindowFields) (roll : List (Option Key)) (i n : ℕ) : Type 0 where
  pub k : ℕ
  pub key : Key
  pub before : k < i
  pub told : key_at_place roll k ≡ Some key
  pub at : IsPieceAt found w n key.0 key.1

-- these are the pieces of the blocks at the first places, each once
pub record AreListed (found : Found) (w : WindowFields) (roll : List (Option Key)) (i : ℕ) (pieces : List ℕ) : Type 0 where
  pub each : (n : ℕ) → Contains pieces n → IsAtPlace found w roll i n
  pub all : (n : ℕ) → IsAtPlace found w roll i n → Contains pieces n
  pub distinct : IsDistinct eqb pieces

module _ (found : Found) (w : WindowFields) (roll : List (Option Key)) where
  later_place : (i n : ℕ) → IsAtPlace found w roll i n → IsAtPlace found w roll (i + 1) n
  later_place i n at = record { k = at.k; key = at.key; before = let before = at.before in omega (arith, before); told = at.told; at = at.at }

  -- nothing more at a place
  pub listed_none : (i : ℕ) (pieces : List ℕ) → AreListed found w roll i pieces → ((n : ℕ) → HasPieceAt found w (key_at_place roll i) n → ⊥) → AreListed found w roll (i + 1) pieces
  listed_none i pieces before none = record {
    each = λ n there. later_place i n (before.each n there);
    all = λ n at.
        elim (cases_lt at.k i) [
          | inl less ↦ before.all n (record { k = at.k; key = at.key; before = less; told = at.told; at = at.at })
          | inr past ↦ let last : at.k ≡ i = let below = at.before in omega (arith, below, past) in absurd (none n (record { key = at.key; there = ap (key_at_place roll) (sym last) ∙ at.told; at = at.at }))
        ];
    distinct = before.distinct;
  }

  -- a number that one of them equals
  equal_is : (ns : List ℕ) (n : ℕ) → list_any (eqb n) ns ≡ true → Contains ns n
  equal_is ns n any =
      let some = Any-from_list_any (eqb n) ns any in
      in_is ns n (list_any_at (λ m. m == n) ns some.0 some.1 some.2 (eq-eqb (get_or ns some.0 some.1) n (some.3 ∙ sym (eqb-true n some.1 some.4))))

  -- a piece more
  pub listed_more : (blocks : Blocks) → IsRoll roll blocks → OneToOne found w → (i : ℕ) (pieces : List ℕ) (n : ℕ) → AreListed found w roll i pieces → HasPieceAt found w (key_at_place roll i) n → AreListed found w roll (i + 1) (pieces ++ n ∷ [])
  listed_more blocks is_roll laws i pieces n before has = record {
    each = λ m there.
        elim (Contains-push_cases pieces n m there) [
          | inl old ↦ later_place i m (before.each m old)
          | inr is ↦ subst (IsAtPlace found w roll (i + 1)) is (record { k = i; key = has.key; before = omega arith; told = has.there; at = has.at })
        ];
    all = λ m place.
        elim (cases_lt place.k i) [
          | inl less ↦ Contains-append_left pieces (n ∷ []) m (before.all m (record { k = place.k; key = place.key; before = less; told = place.told; at = place.at }))
          | inr past ↦
              let last : place.k ≡ i = let below = place.before in omega (arith, below, past) in
              let same : place.key ≡ has.key = same_Some place.key has.key (sym place.told ∙ ap (key_at_place roll) last ∙ has.there) in
              let number : m ≡ n = laws.apart m n has.key.0 has.key.1 (subst (λ (k : Key). IsPieceAt found w m k.0 k.1) same place.at) has.at in
              subst (Contains (pieces ++ n ∷ [])) (sym number) (Contains-push pieces n)
        ];
    distinct =
        IsDistinct-push nat_eq_equiv pieces n before.distinct (false_from_ne_true (list_any (eqb n) pieces) (λ any.
        let there = equal_is pieces n any in
        let place = before.each n there in
        let same = laws.one n place.key.0 place.key.1 has.key.0 has.key.1 place.at has.at in
        let key_is : place.key ≡ has.key = λ k. (same.0 k, same.1 k) in
        let once : place.k ≡ i = is_roll.once place.k i has.key (place.told ∙ ap (λ (k : Key). Some k) key_is) has.there in
        let below = place.before in omega (arith, below, once)));
  }

  place_within : (k : ℕ) (key : Key) → key_at_place roll k ≡ Some key → k < length roll
  place_within k key is =
      elim (cases_lt k (length roll)) [
        | inl within ↦ within
        | inr past ↦ absurd (none-some key (sym (get_or_past roll k None past) ∙ is))
      ]

  -- all of them, in order
  pub held_all : (blocks : Blocks) → IsRoll roll blocks → (i : ℕ) (pieces sorted : List ℕ) → length roll ≤ i → AreListed found w roll i pieces → IsPermutation pieces sorted → IsSorted nat_cmp sorted → AreHeld found w blocks sorted
  held_all blocks is_roll i pieces sorted past listed moved order = record {
    rising =
        IsStrictlyIncreasing-from_distinct sorted (IsNonDecreasingBy-from_sort (λ x. x) sorted order)
        (IsDistinct-IsPermutation eqb nat_eq_equiv.symm pieces sorted moved listed.distinct);
    exact = λ n. (
      λ there.
          let place = listed.each n (Contains-permutation sorted pieces n (IsPermutation-sym pieces sorted moved) there) in
          record { endpoint = place.key.0; block = place.key.1; at = place.at; there = is_roll.held place.k place.key place.told },
      λ has.
          let place = is_roll.all (has.endpoint, has.block) has.there in
          let within = place_within place.0 (has.endpoint, has.block) place.1 in
          Contains-permutation pieces sorted n moved
          (listed.all n (record { k = place.0; key = (has.endpoint, has.block); before = omega (arith, within, past); told = place.1; at = has.at })),
    );
  }

  pub listed_first : (pieces : List ℕ) → pieces ≡ [] → AreListed found w roll 0 pieces
  listed_first pieces none =
      subst (AreListed found w roll 0) (sym none)
      (record { each = λ n there. absurd (contains_none n there); all = λ n at. absurd (let before = at.before in omega arith); distinct = IsDistinct-from_apart eqb [] (λ i j d less within. absurd (omega arith)) })
