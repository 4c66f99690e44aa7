-- Counts of numbers that follow each other.
use Rattle.std.proofs.Common.{◌≡◌, ℕ, zero, suc, ◌+◌, ◌<◌, ◌≤◌, Bool, true, false, cond, count_by, refl, ap, ◌∙◌, arith}
use Rattle.std.specs.List.{range_with_len}
use Rattle.std.proofs.lemmas.List.Sums.{sum_by-append, sum_by-cons, count_by-le-length}
use Rattle.std.proofs.lemmas.List.FromFn.{length-range_with_len}
use Rattle.cxl_enc.proofs.Numbers.{numbers_append}

module _ (p : ℕ → Bool) where
  pub count_more : (a m n : ℕ) → count_by p (range_with_len a (m + n)) ≡ count_by p (range_with_len a m) + count_by p (range_with_len (a + m) n)
  count_more a m n = ap (count_by p) (numbers_append a m n) ∙ sum_by-append (λ (x : ℕ). cond (p x) 1 0) (range_with_len a m) (range_with_len (a + m) n)

  pub count_all : (a n : ℕ) → ((k : ℕ) → a ≤ k → k < a + n → p k ≡ true) → count_by p (range_with_len a n) ≡ n
  count_all a zero each = refl
  count_all a (suc n) each =
      let here : p a ≡ true = each a (omega arith) (omega arith) in
      let more = count_all (a + 1) n (λ k from below. each k (omega arith) (omega arith)) in
      sum_by-cons (λ (x : ℕ). cond (p x) 1 0) a (range_with_len (a + 1) n)
      ∙ ap (λ (b : Bool). cond b 1 0 + count_by p (range_with_len (a + 1) n)) here ∙ omega (arith, more)

  pub count_none : (a n : ℕ) → ((k : ℕ) → a ≤ k → k < a + n → p k ≡ false) → count_by p (range_with_len a n) ≡ 0
  count_none a zero each = refl
  count_none a (suc n) each =
      let here : p a ≡ false = each a (omega arith) (omega arith) in
      let more = count_none (a + 1) n (λ k from below. each k (omega arith) (omega arith)) in
      sum_by-cons (λ (x : ℕ). cond (p x) 1 0) a (range_with_len (a + 1) n)
      ∙ ap (λ (b : Bool). cond b 1 0 + count_by p (range_with_len (a + 1) n)) here ∙ omega (arith, more)

  pub count_few : (a n : ℕ) → count_by p (range_with_len a n) ≤ n
  count_few a n = omega (arith, count_by-le-length p (range_with_len a n), length-range_with_len a n)
