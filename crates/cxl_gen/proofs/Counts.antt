-- How many records of each type a generated table has, and how many bytes.
use Rattle.std.proofs.Common.{◌≡◌, ℕ, ◌+◌, ◌*◌, ◌≤◌, suc, zero, [], ◌∷◌, ◌++◌, cond, ◌==◌, refl, arith}
use Rattle.std.specs.Prelude.{map, sum_by}
use Rattle.std.specs.List.{range_with_len}
use Rattle.std.proofs.lemmas.List.Sums.{sum_by-append, sum_by-cons}
use Rattle.cxl_enc.specs.Limits.{file_limit}
use Rattle.cxl_table.specs.declared.cedt.Record.{Record}
use Rattle.cxl_table.specs.Records.{kind_of, record_length, table_length, HasFewOfEach}
use Rattle.cxl_gen.specs.Made.{made_chbs, made_cxims, made_window, made_records}

-- a sum over items that all add the same
module _ {X : Type 0} (g : X → ℕ) (f : ℕ → X) (k : ℕ) (each : (i : ℕ) → g (f i) ≡ k) where
  pub mapped_sum : (a n : ℕ) → sum_by g (map f (range_with_len a n)) ≡ n * k
  mapped_sum a zero = omega arith
  mapped_sum a (suc n) =
      let rest = mapped_sum (a + 1) n in let one = each a in
      omega (arith, sum_by-cons g (f a) (map f (range_with_len (a + 1) n)), rest, one)

-- a sum over the records, of which those of one type all add the same
module _ (g : Record → ℕ) (bridge map_of window : ℕ) (bridges : (i : ℕ) → g (made_chbs i) ≡ bridge) (maps : (i : ℕ) → g (made_cxims i) ≡ map_of) (windows : (i : ℕ) → g (made_window i) ≡ window) where
  record_sum : (n : ℕ) → sum_by g (made_records n) ≡ 2 * n * bridge + 3 * map_of + n * window
  record_sum n =
      let front = map made_chbs (range_with_len 0 (2 * n)) in
      let middle = map made_cxims (1 ∷ 3 ∷ 5 ∷ []) in
      let one = maps 1 in let three = maps 3 in let five = maps 5 in
      let last = made_cxims 5 ∷ [] in let two_last = made_cxims 3 ∷ made_cxims 5 ∷ [] in
      omega (
        arith,
        sum_by-append g (front ++ middle) (map made_window (range_with_len 0 n)),
        sum_by-append g front middle,
        mapped_sum g made_chbs bridge bridges 0 (2 * n),
        mapped_sum g made_window window windows 0 n,
        sum_by-cons g (made_cxims 1) two_last,
        sum_by-cons g (made_cxims 3) last,
        sum_by-cons g (made_cxims 5) [],
      )

pub few_records : (n : ℕ) → n ≤ 32 → HasFewOfEach (made_records n)
few_records n few = record {
  chbs = omega (arith, record_sum (λ r. cond (kind_of r == 0) 1 0) 1 0 0 (λ i. refl) (λ i. refl) (λ i. refl) n);
  cfmws = omega (arith, record_sum (λ r. cond (kind_of r == 1) 1 0) 0 0 1 (λ i. refl) (λ i. refl) (λ i. refl) n);
  cxims = omega (arith, record_sum (λ r. cond (kind_of r == 2) 1 0) 0 1 0 (λ i. refl) (λ i. refl) (λ i. refl) n);
}

pub few_bytes : (n : ℕ) → n ≤ 32 → table_length (made_records n) ≤ file_limit
few_bytes n few = omega (arith, record_sum record_length 32 16 44 (λ i. refl) (λ i. refl) (λ i. refl) n)
