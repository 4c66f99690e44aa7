-- Numbers of ways that stand in the table.
use Rattle.std.proofs.Common.{◌≡◌, ℕ, true, false, if◌then◌else◌, Option, Some, refl, sym, subst, None, ◌<◌, ◌≤◌, ◌-◌, ◌*◌, ◌^◌, ◌&&◌, arith, Bool, inl, inr, ◌∙◌, ◌%◌, eqb, ltb, leb}
use Rattle.std.specs.Prelude.{◌==◌, IsTrue, is_some, nat_lt, nat_le}
use Rattle.std.proofs.lemmas.Bool.{eqb-true, false≢true, agree_below_at, cases_lt, le-ltb, le-leb, cases_eq, ne_eqb, cond_both, cases_Bool, ltb-true, and_parts}
use Rattle.std.proofs.lemmas.Option.{none-some, same_Some}
use Rattle.std.proofs.Math.Pow.{pow_mono}
use Rattle.std.specs.Option.{unwrap_or}
use Rattle.cxl_enc.specs.Codes.{is_ways, ways_of, third_of}
use Rattle.cxl_enc.specs.Caps.{is_target_count}

ways_step : (P : ℕ → Type 0) (w n code : ℕ) (others : Option ℕ) → P n → (IsTrue (is_some others) → P w)
    → IsTrue (is_some (if w == n then Some code else others)) → P w
ways_step P w n code others first rest =
    elim (w == n) as (λ b. (w == n) ≡ b → IsTrue (is_some (if b then Some code else others)) → P w) [
      | true ↦ λ e known. subst P (sym (eqb-true w n e)) first
      | false ↦ λ e known. rest known
    ] refl

pub each_ways : (P : ℕ → Type 0) (w : ℕ) → IsTrue (is_ways w) → P 1 → P 2 → P 4 → P 8 → P 16 → P 3 → P 6 → P 12 → P w
each_ways P w known p1 p2 p4 p8 p16 p3 p6 p12 =
    ways_step P w 1 0 _ p1 (ways_step P w 2 1 _ p2 (ways_step P w 4 2 _ p4 (ways_step P w 8 3 _ p8
    (ways_step P w 16 4 _ p16 (ways_step P w 3 8 _ p3 (ways_step P w 6 9 _ p6 (ways_step P w 12 10 None p12
    (λ none. absurd (false≢true none))))))))) known

pub some_ways : (w : ℕ) → IsTrue (is_ways w) → 0 < w
some_ways w known =
    each_ways (λ n. 0 < n) w known (omega arith) (omega arith) (omega arith) (omega arith) (omega arith) (omega arith) (omega arith) (omega arith)

pub few_ways : (w : ℕ) → IsTrue (is_ways w) → w ≤ 16
few_ways w known =
    each_ways (λ n. n ≤ 16) w known (omega arith) (omega arith) (omega arith) (omega arith) (omega arith) (omega arith) (omega arith) (omega arith)

-- each code below 11 stands for ways of the table, and the others count as one way
abbrev has_known_ways : ℕ → Bool
has_known_ways code = is_ways (unwrap_or (ways_of code) 1)

pub known_ways : (code : ℕ) → has_known_ways code ≡ true
known_ways code =
    elim (cases_lt code 11) [
      | inl below ↦ agree_below_at has_known_ways (λ n. true) 11 code refl below
      | inr past ↦
          let low : nat_lt code 5 ≡ false = le-ltb code 5 (omega arith) in
          let from : nat_le 8 code ≡ true = le-leb 8 code (omega arith) in
          let high : nat_lt code 11 ≡ false = le-ltb code 11 past in
          rw (low, from, high) refl
    ]

pub each_count : (P : ℕ → Type 0) (p : ℕ) → is_target_count p ≡ true → P 1 → P 2 → P 4 → P 8 → P p
each_count P p is p1 p2 p4 p8 =
    elim (cases_eq p 1) [
      | inl e ↦ subst P (sym e) p1
      | inr n1 ↦ elim (cases_eq p 2) [
        | inl e ↦ subst P (sym e) p2
        | inr n2 ↦ elim (cases_eq p 4) [
          | inl e ↦ subst P (sym e) p4
          | inr n4 ↦ elim (cases_eq p 8) [
            | inl e ↦ subst P (sym e) p8
            | inr n8 ↦ absurd (false≢true (sym (none n1 n2 n4 n8) ∙ is))
          ]
        ]
      ]
    ]
  where
    none : (p ≡ 1 → ⊥) → (p ≡ 2 → ⊥) → (p ≡ 4 → ⊥) → (p ≡ 8 → ⊥) → is_target_count p ≡ false
    none n1 n2 n4 n8 = rw (ne_eqb p 1 n1, ne_eqb p 2 n2, ne_eqb p 4 n4, ne_eqb p 8 n8) refl

pub count_is_ways : (p : ℕ) → is_target_count p ≡ true → is_ways p ≡ true
count_is_ways p known = each_count (λ n. is_ways n ≡ true) p known refl refl refl refl

pub some_third : (n : ℕ) → 0 < third_of n
some_third n = cond_both (eqb (n % 3) 0) 3 1 (λ third. 0 < third) (λ e. omega arith) (λ e. omega arith)

-- a code stands for 16 ways at the most
pub ways_few : (code n : ℕ) → ways_of code ≡ Some n → n ≤ 16
ways_few code n e =
    elim (cases_Bool (ltb code 5)) [
      | inl low ↦
          let is : 2 ^ code ≡ n = same_Some (2 ^ code) n (rw low at e) in
          let le : code ≤ 4 = omega (arith, ltb-true code 5 low) in
          let top : 2 ^ code ≤ 2 ^ 4 = pow_mono le in
          omega arith
      | inr high ↦ elim (cases_Bool (leb 8 code && ltb code 11)) [
        | inl there ↦
            let is : 3 * 2 ^ (code - 8) ≡ n = same_Some (3 * 2 ^ (code - 8)) n (rw (high, there) at e) in
            let below = ltb-true code 11 (and_parts (leb 8 code) (ltb code 11) there).1 in
            let le : code - 8 ≤ 2 = omega arith in
            let top : 2 ^ (code - 8) ≤ 2 ^ 2 = pow_mono le in
            omega arith
        | inr none ↦ absurd (none-some n (rw (high, none) at e))
      ]
    ]
