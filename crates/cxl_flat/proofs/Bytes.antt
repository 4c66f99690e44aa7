-- The bytes of a region that holds none, which are zeros, and those behind a store: those stored, and each other as it was.
use Rattle.std.proofs.Common.{◌≡◌, ◌≢◌, ℕ, zero, suc, ◌+◌, ◌-◌, ◌*◌, ◌/◌, ◌%◌, ◌<◌, ◌≤◌, ◌⊎◌, Bool, true, false, cond, List, length, Option, Some, inl, inr, refl, sym, ap, ◌∙◌, subst, arith}
use Rattle.std.specs.Prelude.{slice_index, unwrap_or, replicate, fold, nat_le, nat_lt, ◌&&◌}
use Rattle.std.specs.List.{range_with_len}
use Rattle.std.specs.Ordering.{nat_cmp, eq_by_cmp}
use Rattle.std.specs.Cmp.{nat_cmp_total, Equal-is}
use Rattle.std.specs.FinMap as fin
use Rattle.std.specs.FinMap.{get-empty, get-insert, nat_cmp-IsAntisymmetric}
use Rattle.std.proofs.lemmas.Cmp.{eq_by_cmp_equiv}
use Rattle.std.proofs.lemmas.Bool.{cases_lt, cond-true, cond-false, false≢true, lt-ltb, le-ltb, le-leb, lt-leb}
use Rattle.std.proofs.lemmas.List.{get_or-replicate}
use Rattle.std.proofs.lemmas.List.FromFn.{get_or-map-range_with_len}
use Rattle.cxl_model.specs.Contents.{Contents, content_at}
use Rattle.cxl_move.specs.Bytes.{byte_after, piece_after, written}

-- ---- no piece

pub zero_content : (i : ℕ) → content_at fin.empty i ≡ 0
zero_content i =
    ap (λ (o : Option (List ℕ)). slice_index (unwrap_or o (replicate 256 0)) (i % 256)) (get-empty {X = List ℕ} nat_cmp (i / 256)) ∙ get_or-replicate 256 (i % 256) 0 0 (omega arith)

-- ---- a piece that is put

module _ (contents : Contents) (n : ℕ) (piece : List ℕ) where
  other_piece : (k : ℕ) → k ≢ n → fin.get (fin.insert contents n piece) k ≡ fin.get contents k
  other_piece k apart = get-insert {X = List ℕ} nat_cmp_total contents n piece k ∙ go (eq_by_cmp nat_cmp k n) refl
    where
      go : (b : Bool) → eq_by_cmp nat_cmp k n ≡ b → cond b (Some piece) (fin.get contents k) ≡ fin.get contents k
      go true same = absurd (apart (nat_cmp-IsAntisymmetric k n ((Equal-is (nat_cmp k n)).0 same)))
      go false differ = refl

  that_piece : fin.get (fin.insert contents n piece) n ≡ Some piece
  that_piece = get-insert {X = List ℕ} nat_cmp_total contents n piece n ∙ go (eq_by_cmp nat_cmp n n) refl
    where
      go : (b : Bool) → eq_by_cmp nat_cmp n n ≡ b → cond b (Some piece) (fin.get contents n) ≡ Some piece
      go true same = refl
      go false differ = absurd (false≢true (sym differ ∙ (eq_by_cmp_equiv nat_cmp_total).refl n))

-- ---- pieces that are put in a row

module _ (f : ℕ → List ℕ) where
  abbrev put_all : Contents → ℕ → ℕ → Contents
  put_all contents from n = fold (λ after i. fin.insert after i (f i)) contents (range_with_len from n)

  beside : (from n : ℕ) (contents : Contents) (k : ℕ) → (k < from) ⊎ (from + n ≤ k) → fin.get (put_all contents from n) k ≡ fin.get contents k
  beside from zero contents k apart = refl
  beside from (suc n) contents k (inl low) =
      beside (from + 1) n (fin.insert contents from (f from)) k (inl (omega (arith, low))) ∙ other_piece contents from (f from) k (λ same. omega (arith, low, same))
  beside from (suc n) contents k (inr past) =
      beside (from + 1) n (fin.insert contents from (f from)) k (inr (omega (arith, past))) ∙ other_piece contents from (f from) k (λ same. omega (arith, past, same))

  inside : (from n : ℕ) (contents : Contents) (k : ℕ) → from ≤ k → k < from + n → fin.get (put_all contents from n) k ≡ Some (f k)
  inside from zero contents k above below = absurd (omega (arith, above, below))
  inside from (suc n) contents k above below =
      elim (cases_lt from k) [
        | inl later ↦ inside (from + 1) n (fin.insert contents from (f from)) k (omega (arith, later)) (omega (arith, below))
        | inr upto ↦
            let here : from ≡ k = omega (arith, above, upto) in
            beside (from + 1) n (fin.insert contents from (f from)) k (inl (omega (arith, upto)))
            ∙ subst (λ (j : ℕ). fin.get (fin.insert contents from (f from)) j ≡ Some (f j)) here (that_piece contents from (f from))
      ]

-- ---- a store

module _ (contents : Contents) (offset : ℕ) (bytes : List ℕ) where
  byte_in : (i : ℕ) → offset ≤ i → i < offset + length bytes → byte_after contents offset bytes i ≡ slice_index bytes (i - offset)
  byte_in i from below =
      let test : (nat_le offset i && nat_lt i (offset + length bytes)) ≡ true = ap (λ (b : Bool). b && nat_lt i (offset + length bytes)) (le-leb offset i from) ∙ lt-ltb i (offset + length bytes) below in
      cond-true (nat_le offset i && nat_lt i (offset + length bytes)) (slice_index bytes (i - offset)) (content_at contents i) test

  byte_out : (i : ℕ) → (i < offset) ⊎ (offset + length bytes ≤ i) → byte_after contents offset bytes i ≡ content_at contents i
  byte_out i apart = cond-false (nat_le offset i && nat_lt i (offset + length bytes)) (slice_index bytes (i - offset)) (content_at contents i) (test apart)
    where
      test : (i < offset) ⊎ (offset + length bytes ≤ i) → (nat_le offset i && nat_lt i (offset + length bytes)) ≡ false
      test (inl before) = ap (λ (b : Bool). b && nat_lt i (offset + length bytes)) (lt-leb offset i before)
      test (inr past) = ap (λ (b : Bool). b && nat_lt i (offset + length bytes)) (le-leb offset i (omega (arith, past))) ∙ le-ltb i (offset + length bytes) past

  abbrev first : ℕ
  first = offset / 256

  abbrev count : ℕ
  count = (offset + length bytes - 1) / 256 + 1 - offset / 256

  abbrev in_piece : Option (List ℕ) → ℕ → ℕ
  in_piece piece i = slice_index (unwrap_or piece (replicate 256 0)) (i % 256)

  untouched : (i : ℕ) → (i / 256 < first) ⊎ (first + count ≤ i / 256) → (i < offset) ⊎ (offset + length bytes ≤ i) → content_at (written contents offset bytes) i ≡ byte_after contents offset bytes i
  untouched i beyond apart =
      ap (λ (o : Option (List ℕ)). in_piece o i) (beside (piece_after contents offset bytes) first count contents (i / 256) beyond) ∙ sym (byte_out i apart)

  read_after : (i : ℕ) → content_at (written contents offset bytes) i ≡ byte_after contents offset bytes i
  read_after i =
      elim (cases_lt (i / 256) first) [
        | inl low ↦ untouched i (inl low) (inl (omega (arith, low)))
        | inr from ↦
            elim (cases_lt (i / 256) (first + count)) [
              | inl below ↦
                  let whole : 256 * (i / 256) + i % 256 ≡ i = omega arith in
                  ap (λ (o : Option (List ℕ)). in_piece o i) (inside (piece_after contents offset bytes) first count contents (i / 256) from below)
                  ∙ get_or-map-range_with_len (byte_after contents offset bytes) (256 * (i / 256)) 256 (i % 256) (256 * (i / 256) + i % 256) 0 (omega arith) refl
                  ∙ ap (byte_after contents offset bytes) whole
              | inr past ↦
                  elim (cases_lt i offset) [
                    | inl before ↦ untouched i (inr past) (inl before)
                    | inr behind ↦ untouched i (inr past) (inr (omega (arith, past, behind)))
                  ]
            ]
      ]

  -- the bytes that were stored
  pub stored_there : (k : ℕ) → k < length bytes → content_at (written contents offset bytes) (offset + k) ≡ slice_index bytes k
  stored_there k below =
      let along : offset + k - offset ≡ k = omega arith in
      read_after (offset + k) ∙ byte_in (offset + k) (omega arith) (omega (arith, below)) ∙ ap (λ (j : ℕ). slice_index bytes j) along

  -- and each other
  pub others_stay : (i : ℕ) → (i < offset) ⊎ (offset + length bytes ≤ i) → content_at (written contents offset bytes) i ≡ content_at contents i
  others_stay i apart = read_after i ∙ byte_out i apart
