-- The codes of ways, target lists as numbers, and multiples of 256 MiB.
use Rattle.std.proofs.Common.{◌≡◌, ℕ, suc, ◌-◌, ◌*◌, ◌%◌, ◌^◌, ◌<◌, ◌≤◌, Bool, true, false, cond, List, [], ◌∷◌, length, Some, refl, lit≤, arith}
use Rattle.std.specs.Prelude.{All}
use Rattle.std.proofs.Math.Nat.{pow-succ'}
use Rattle.std.proofs.lemmas.List.Elements.{All-head, All-tail}
use Rattle.cxl_enc.specs.Codes.{ways_of, code_in_table, is_ways}
use Rattle.cxl_enc.specs.Caps.{is_target_count}
use Rattle.cxl_enc.proofs.Ways.{each_ways, each_count}
use Rattle.cxl_legal.specs.Stated.{targets_word}

-- ---- ways

-- ways with their code, of four bits, which stands for them
pub record HasCode (p : ℕ) : Type 0 where
  pub code : ℕ
  pub is : code_in_table p ≡ Some code
  pub back : ways_of code ≡ Some p
  pub small : code < 16

pub code_of : (p : ℕ) → is_ways p ≡ true → HasCode p
code_of p known =
    each_ways HasCode p known
    (record { code = 0; is = refl; back = refl; small = omega arith })
    (record { code = 1; is = refl; back = refl; small = omega arith })
    (record { code = 2; is = refl; back = refl; small = omega arith })
    (record { code = 3; is = refl; back = refl; small = omega arith })
    (record { code = 4; is = refl; back = refl; small = omega arith })
    (record { code = 8; is = refl; back = refl; small = omega arith })
    (record { code = 9; is = refl; back = refl; small = omega arith })
    (record { code = 10; is = refl; back = refl; small = omega arith })

-- the code of a number of ports is its exponent
pub record HasExponent (p : ℕ) : Type 0 where
  pub code : ℕ
  pub is : code_in_table p ≡ Some code
  pub power : 2 ^ code ≡ p
  pub small : code ≤ 3

pub exponent_of : (p : ℕ) → is_target_count p ≡ true → HasExponent p
exponent_of p known =
    each_count HasExponent p known
    (record { code = 0; is = refl; power = refl; small = omega arith })
    (record { code = 1; is = refl; power = refl; small = omega arith })
    (record { code = 2; is = refl; power = refl; small = omega arith })
    (record { code = 3; is = refl; power = refl; small = omega arith })

-- ---- target lists

word_small : (ports : List ℕ) → All (λ port. port < 256) ports → targets_word ports < 256 ^ length ports
word_small [] small = omega arith
word_small (port ∷ ports) small =
    let first : port < 256 = All-head (λ (x : ℕ). x < 256) port ports small in
    let rest : targets_word ports < 256 ^ length ports = word_small ports (All-tail (λ (x : ℕ). x < 256) port ports small) in
    let power : 256 ^ suc (length ports) ≡ 256 * 256 ^ length ports = pow-succ' 256 (length ports) in
    omega arith

-- one of at most eight ports has 64 bits
pub word_wide : (ports : List ℕ) → All (λ port. port < 256) ports → is_target_count (length ports) ≡ true → targets_word ports < 2 ^ 64
word_wide ports small count =
    let word = word_small ports small in
    let wide : 256 ^ length ports ≤ 2 ^ 64 = each_count (λ n. 256 ^ n ≤ 2 ^ 64) (length ports) count (lit≤ tt) (lit≤ tt) (lit≤ tt) (lit≤ tt) in
    omega arith

-- ---- multiples of 256 MiB

pub of_ways : (size p : ℕ) → is_ways p ≡ true → size % (2 ^ 28 * p) ≡ 0 → size % 2 ^ 28 ≡ 0
of_ways size p known =
    each_ways (λ n. size % (2 ^ 28 * n) ≡ 0 → size % 2 ^ 28 ≡ 0) p known
    (λ e. omega arith) (λ e. omega arith) (λ e. omega arith) (λ e. omega arith) (λ e. omega arith) (λ e. omega arith) (λ e. omega arith) (λ e. omega arith)

pub of_step : (w base : ℕ) (three : Bool) → w ≤ base → w % 2 ^ 28 ≡ 0 → (base - w) % cond three (3 * 2 ^ 28) (2 ^ 28) ≡ 0 → base % 2 ^ 28 ≡ 0
of_step w base true from aligned step = omega arith
of_step w base false from aligned step = omega arith
