-- How many records of a type there are after one more.
use Rattle.std.proofs.Common.{◌≡◌, ℕ, zero, suc, ◌+◌, ◌<◌, ◌≤◌, true, false, cond, eqb, leb, List, [], ◌∷◌, ◌++◌, slice_index_or, slice_set, refl, sym, ap, subst, ◌∙◌, inl, inr, arith}
use Rattle.std.proofs.lemmas.Bool.{eqb-true, eqb-false, eq-eqb, ne_eqb, le-leb, leb-true, cases_Bool}
use Rattle.std.proofs.lemmas.List.Sums.{sum_by_push, sum_by-append}
use Rattle.cxl_table.specs.declared.cedt.Record.{Record}
use Rattle.cxl_table.specs.Records.{kind_of, count_of, is_kind_full, HasFewOfEach}
use Rattle.cxl_cedt.specs.inner.Counted.{IsCounted}

-- one more record counts where it is of the type
abbrev pub one_of : ℕ → Record → ℕ
one_of kind r = cond (eqb (kind_of r) kind) 1 0

pub count_of-push : (kind : ℕ) (xs : List Record) (y : Record) → count_of kind (xs ++ y ∷ []) ≡ count_of kind xs + one_of kind y
count_of-push kind xs y = sum_by_push (one_of kind) xs y

pub count_of-append : (kind : ℕ) (xs ys : List Record) → count_of kind (xs ++ ys) ≡ count_of kind xs + count_of kind ys
count_of-append kind xs ys = sum_by-append (one_of kind) xs ys

pub one_of_same : (kind : ℕ) (r : Record) → kind_of r ≡ kind → one_of kind r ≡ 1
one_of_same kind r e = rw (eq-eqb (kind_of r) kind e) refl

one_of_other : (kind : ℕ) (r : Record) → (kind_of r ≡ kind → ⊥) → one_of kind r ≡ 0
one_of_other kind r e = rw (ne_eqb (kind_of r) kind e) refl

-- fewer than 64 where there is room
pub room_at : (kind k : ℕ) (xs : List Record) → k ≤ 2 → kind ≡ k → is_kind_full kind xs ≡ false → count_of k xs ≤ 64 → count_of k xs < 64
room_at kind k xs judged same room few =
    let judged_so : leb k 2 ≡ true = le-leb k 2 judged in
    let room_so : is_kind_full k xs ≡ false = subst (λ (x : ℕ). is_kind_full x xs ≡ false) same room in
    let other : eqb (count_of k xs) 64 ≡ false = rw judged_so at room_so in
    let ne : count_of k xs ≡ 64 → ⊥ = eqb-false _ _ other in
    omega arith

-- there is room where one more of the type makes few
pub room_from : (kind : ℕ) (xs : List Record) → (kind ≤ 2 → count_of kind xs < 64) → is_kind_full kind xs ≡ false
room_from kind xs h =
    elim (cases_Bool (leb kind 2)) [
      | inl judged ↦
          let lt : count_of kind xs < 64 = h (leb-true kind 2 judged) in
          rw judged (ne_eqb (count_of kind xs) 64 (λ e. absurd (omega (arith, e))))
      | inr other ↦ rw other refl
    ]

few_of : (k : ℕ) (xs : List Record) (y : Record) → k ≤ 2 → is_kind_full (kind_of y) xs ≡ false → count_of k xs ≤ 64 → count_of k (xs ++ y ∷ []) ≤ 64
few_of k xs y judged room few =
    elim (cases_Bool (eqb (kind_of y) k)) [
      | inl same ↦
          let lt = room_at (kind_of y) k xs judged (eqb-true _ _ same) room few in
          let one = one_of_same k y (eqb-true _ _ same) in
          omega (arith, count_of-push k xs y)
      | inr other ↦
          let none = one_of_other k y (eqb-false _ _ other) in
          omega (arith, count_of-push k xs y)
    ]

pub few_push : (xs : List Record) (y : Record) → is_kind_full (kind_of y) xs ≡ false → HasFewOfEach xs → HasFewOfEach (xs ++ y ∷ [])
few_push xs y room few = record {
  chbs = few_of 0 xs y (omega arith) room few.chbs;
  cfmws = few_of 1 xs y (omega arith) room few.cfmws;
  cxims = few_of 2 xs y (omega arith) room few.cxims;
}

-- the count of a type after one more record, which is of type k
counted : (k kind : ℕ) (xs : List Record) (y : Record) → kind_of y ≡ k → count_of kind xs + cond (eqb k kind) 1 0 ≡ count_of kind (xs ++ y ∷ [])
counted k kind xs y of_k = sym (count_of-push kind xs y ∙ ap (λ (x : ℕ). count_of kind xs + cond (eqb x kind) 1 0) of_k)

same_three : {a a' b b' c c' : ℕ} → a ≡ a' → b ≡ b' → c ≡ c' → ◌≡◌ {A = List ℕ} (a ∷ b ∷ c ∷ []) (a' ∷ b' ∷ c' ∷ [])
same_three p q r = cc

-- of three numbers one is raised
one_raised : (k a b c : ℕ) → k ≤ 2 → slice_set (a ∷ b ∷ c ∷ []) k (slice_index_or (a ∷ b ∷ c ∷ []) k 0 + 1) ≡ (a + cond (eqb k 0) 1 0) ∷ (b + cond (eqb k 1) 1 0) ∷ (c + cond (eqb k 2) 1 0) ∷ []
one_raised zero a b c judged = same_three refl (omega arith) (omega arith)
one_raised (suc zero) a b c judged = same_three (omega arith) refl (omega arith)
one_raised (suc (suc zero)) a b c judged = same_three (omega arith) (omega arith) refl
one_raised (suc (suc (suc k))) a b c judged = absurd (omega arith)

pub counted_push : (k : ℕ) (xs ys : List Record) (y : Record) (counts : List ℕ) → k ≤ 2 → kind_of y ≡ k → ys ≡ xs ++ y ∷ [] → is_kind_full (kind_of y) xs ≡ false → IsCounted xs counts
    → IsCounted ys (slice_set counts k (slice_index_or counts k 0 + 1))
counted_push k xs ys y counts judged of_k is room before =
    subst (λ (l : List Record). IsCounted l (slice_set counts k (slice_index_or counts k 0 + 1))) (sym is) (record {
      counted = ap (λ (l : List ℕ). slice_set l k (slice_index_or l k 0 + 1)) before.counted ∙ one_raised k (count_of 0 xs) (count_of 1 xs) (count_of 2 xs) judged ∙ same_three (counted k 0 xs y of_k) (counted k 1 xs y of_k) (counted k 2 xs y of_k);
      few = few_push xs y room before.few;
    })
