-- Each code stands for its own number of ways or granularity, so the tables can be read backwards.
use Rattle.std.proofs.Common.{◌≡◌, ◌≤◌, ℕ, zero, suc, true, false, ltb, leb, ◌*◌, ◌^◌, cond, eqb, Option, Some, None, refl, sym, subst, arith}
use Rattle.std.proofs.lemmas.Bool.{le-ltb, le-leb, eqb-true, false≢true}
use Rattle.std.specs.Prelude.{IsTrue, is_some, IfSome}
use Rattle.std.proofs.lemmas.Option.{same_Some}
use Rattle.cxl_enc.specs.Codes.{ways_of, granularity_of, code_in_table, gran_code_in_table, is_ways, third_of, bits_of}

-- a value is there
abbrev IsNothing : Option ℕ → Type 0
IsNothing None = Unit {0}
IsNothing (Some b) = ⊥

no_some : (b : ℕ) → ◌≡◌ {A = Option ℕ} None (Some b) → ⊥
no_some b e = subst IsNothing e tt

-- no code from 11 on, and no granularity code from 7 on
past_ways : (code w : ℕ) → 11 ≤ code → ways_of code ≡ Some w → ⊥
past_ways code w past e =
    let low : ltb code 5 ≡ false = le-ltb code 5 (omega arith) in
    let high : ltb code 11 ≡ false = le-ltb code 11 past in
    let from : leb 8 code ≡ true = le-leb 8 code (omega arith) in
    no_some w (rw (low, from, high) at e)

pub past_granularity : (code b : ℕ) → 7 ≤ code → granularity_of code ≡ Some b → ⊥
past_granularity code b past e = let high : ltb code 7 ≡ false = le-ltb code 7 past in no_some b (rw high at e)

pub code_is : (code w : ℕ) → ways_of code ≡ Some w → code_in_table w ≡ Some code
code_is zero w e = subst (λ (v : ℕ). code_in_table v ≡ Some 0) (same_Some 1 w e) refl
code_is (suc zero) w e = subst (λ (v : ℕ). code_in_table v ≡ Some 1) (same_Some 2 w e) refl
code_is (suc (suc zero)) w e = subst (λ (v : ℕ). code_in_table v ≡ Some 2) (same_Some 4 w e) refl
code_is (suc (suc (suc zero))) w e = subst (λ (v : ℕ). code_in_table v ≡ Some 3) (same_Some 8 w e) refl
code_is (suc (suc (suc (suc zero)))) w e = subst (λ (v : ℕ). code_in_table v ≡ Some 4) (same_Some 16 w e) refl
code_is (suc (suc (suc (suc (suc zero))))) w e = absurd (no_some w e)
code_is (suc (suc (suc (suc (suc (suc zero)))))) w e = absurd (no_some w e)
code_is (suc (suc (suc (suc (suc (suc (suc zero))))))) w e = absurd (no_some w e)
code_is (suc (suc (suc (suc (suc (suc (suc (suc zero)))))))) w e = subst (λ (v : ℕ). code_in_table v ≡ Some 8) (same_Some 3 w e) refl
code_is (suc (suc (suc (suc (suc (suc (suc (suc (suc zero))))))))) w e = subst (λ (v : ℕ). code_in_table v ≡ Some 9) (same_Some 6 w e) refl
code_is (suc (suc (suc (suc (suc (suc (suc (suc (suc (suc zero)))))))))) w e = subst (λ (v : ℕ). code_in_table v ≡ Some 10) (same_Some 12 w e) refl
code_is (suc (suc (suc (suc (suc (suc (suc (suc (suc (suc (suc n))))))))))) w e = absurd (past_ways (suc (suc (suc (suc (suc (suc (suc (suc (suc (suc (suc n))))))))))) w (omega arith) e)

pub gran_code_is : (code b : ℕ) → granularity_of code ≡ Some b → gran_code_in_table b ≡ Some code
gran_code_is zero b e = subst (λ (v : ℕ). gran_code_in_table v ≡ Some 0) (same_Some 256 b e) refl
gran_code_is (suc zero) b e = subst (λ (v : ℕ). gran_code_in_table v ≡ Some 1) (same_Some 512 b e) refl
gran_code_is (suc (suc zero)) b e = subst (λ (v : ℕ). gran_code_in_table v ≡ Some 2) (same_Some 1024 b e) refl
gran_code_is (suc (suc (suc zero))) b e = subst (λ (v : ℕ). gran_code_in_table v ≡ Some 3) (same_Some 2048 b e) refl
gran_code_is (suc (suc (suc (suc zero)))) b e = subst (λ (v : ℕ). gran_code_in_table v ≡ Some 4) (same_Some 4096 b e) refl
gran_code_is (suc (suc (suc (suc (suc zero))))) b e = subst (λ (v : ℕ). gran_code_in_table v ≡ Some 5) (same_Some 8192 b e) refl
gran_code_is (suc (suc (suc (suc (suc (suc zero)))))) b e = subst (λ (v : ℕ). gran_code_in_table v ≡ Some 6) (same_Some 16384 b e) refl
gran_code_is (suc (suc (suc (suc (suc (suc (suc n))))))) b e = absurd (past_granularity (suc (suc (suc (suc (suc (suc (suc n))))))) b (omega arith) e)

-- a look-up that finds something was found by one of its tests
module _ (P : ℕ → ℕ → Type 0) where
  -- the first test, or the others
  found : (w n code : ℕ) (others : Option ℕ) → P n code → IfSome others (λ c. P w c) → IfSome (cond (eqb w n) (Some code) others) (λ c. P w c)
  found w n code others first rest =
      elim (eqb w n) as (λ b. eqb w n ≡ b → IfSome (cond b (Some code) others) (λ c. P w c)) [
        | true ↦ λ e. subst (λ (v : ℕ). P v code) (sym (eqb-true w n e)) first
        | false ↦ λ e. rest
      ] refl

pub code_found : (w : ℕ) → IfSome (code_in_table w) (λ code. ways_of code ≡ Some w)
code_found w =
    let P : ℕ → ℕ → Type 0 = λ v code. ways_of code ≡ Some v in
    found P w 1 0 _ refl (found P w 2 1 _ refl (found P w 4 2 _ refl (found P w 8 3 _ refl
    (found P w 16 4 _ refl (found P w 3 8 _ refl (found P w 6 9 _ refl (found P w 12 10 _ refl tt)))))))

pub gran_code_found : (b : ℕ) → IfSome (gran_code_in_table b) (λ code. granularity_of code ≡ Some b)
gran_code_found b =
    let P : ℕ → ℕ → Type 0 = λ v code. granularity_of code ≡ Some v in
    found P b 256 0 _ refl (found P b 512 1 _ refl (found P b 1024 2 _ refl (found P b 2048 3 _ refl
    (found P b 4096 4 _ refl (found P b 8192 5 _ refl (found P b 16384 6 _ refl tt))))))

-- ways are the product of their factors
pub record Factored (w : ℕ) : Type 0 where
  pub product : w ≡ third_of w * 2 ^ bits_of w
  pub few : bits_of w ≤ 4

by_code : (code w : ℕ) → ways_of code ≡ Some w → Factored w
by_code zero w e = subst Factored (same_Some 1 w e) (record { product = refl; few = omega arith })
by_code (suc zero) w e = subst Factored (same_Some 2 w e) (record { product = refl; few = omega arith })
by_code (suc (suc zero)) w e = subst Factored (same_Some 4 w e) (record { product = refl; few = omega arith })
by_code (suc (suc (suc zero))) w e = subst Factored (same_Some 8 w e) (record { product = refl; few = omega arith })
by_code (suc (suc (suc (suc zero)))) w e = subst Factored (same_Some 16 w e) (record { product = refl; few = omega arith })
by_code (suc (suc (suc (suc (suc zero))))) w e = absurd (no_some w e)
by_code (suc (suc (suc (suc (suc (suc zero)))))) w e = absurd (no_some w e)
by_code (suc (suc (suc (suc (suc (suc (suc zero))))))) w e = absurd (no_some w e)
by_code (suc (suc (suc (suc (suc (suc (suc (suc zero)))))))) w e = subst Factored (same_Some 3 w e) (record { product = refl; few = omega arith })
by_code (suc (suc (suc (suc (suc (suc (suc (suc (suc zero))))))))) w e = subst Factored (same_Some 6 w e) (record { product = refl; few = omega arith })
by_code (suc (suc (suc (suc (suc (suc (suc (suc (suc (suc zero)))))))))) w e = subst Factored (same_Some 12 w e) (record { product = refl; few = omega arith })
by_code (suc (suc (suc (suc (suc (suc (suc (suc (suc (suc (suc n))))))))))) w e = absurd (past_ways (suc (suc (suc (suc (suc (suc (suc (suc (suc (suc (suc n))))))))))) w (omega arith) e)

by_found : (w : ℕ) (found_code : Option ℕ) → IsTrue (is_some found_code) → IfSome found_code (λ code. ways_of code ≡ Some w) → Factored w
by_found w (Some code) known is = by_code code w is
by_found w None known is = absurd (false≢true known)

pub factored : (w : ℕ) → IsTrue (is_ways w) → Factored w
factored w known = by_found w (code_in_table w) known (code_found w)
