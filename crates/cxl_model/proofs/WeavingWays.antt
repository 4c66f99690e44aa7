-- Numbers of ways that divide each other.
use Rattle.std.proofs.Common.{◌≡◌, ℕ, ◌*◌, ◌%◌, ◌≤◌, Bool, true, not, ◌&&◌, ◌||◌, refl, sym, ap, ◌∙◌}
use Rattle.std.specs.Prelude.{◌==◌, nat_le, IsTrue}
use Rattle.std.proofs.lemmas.Bool.{and_parts, leb-true}
use Rattle.std.proofs.Math.Nat.{mul-mod_right}
use Rattle.cxl_enc.specs.Codes.{is_ways, bits_of}
use Rattle.cxl_enc.proofs.Ways.{each_ways}
use Rattle.cxl_num.specs.Interleave.{ways_by}

-- ---- one divides another

-- ways b have no fewer bits than ways a where these divide them, and by the third of these they are at most 16
abbrev goes_into : ℕ → ℕ → Bool
goes_into a b = not (b % a == 0) || (nat_le (bits_of a) (bits_of b) && nat_le (ways_by (a % 3 == 0) (bits_of b)) 16)

goes : (a b : ℕ) → IsTrue (is_ways a) → IsTrue (is_ways b) → goes_into a b ≡ true
goes a b a_known b_known =
    each_ways (λ x. goes_into x b ≡ true) a a_known
    (each_ways (λ y. goes_into 1 y ≡ true) b b_known refl refl refl refl refl refl refl refl)
    (each_ways (λ y. goes_into 2 y ≡ true) b b_known refl refl refl refl refl refl refl refl)
    (each_ways (λ y. goes_into 4 y ≡ true) b b_known refl refl refl refl refl refl refl refl)
    (each_ways (λ y. goes_into 8 y ≡ true) b b_known refl refl refl refl refl refl refl refl)
    (each_ways (λ y. goes_into 16 y ≡ true) b b_known refl refl refl refl refl refl refl refl)
    (each_ways (λ y. goes_into 3 y ≡ true) b b_known refl refl refl refl refl refl refl refl)
    (each_ways (λ y. goes_into 6 y ≡ true) b b_known refl refl refl refl refl refl refl refl)
    (each_ways (λ y. goes_into 12 y ≡ true) b b_known refl refl refl refl refl refl refl refl)

pub record Divides (a b : ℕ) : Type 0 where
  pub bits : bits_of a ≤ bits_of b
  pub few : ways_by (a % 3 == 0) (bits_of b) ≤ 16

divides_if : (a b : ℕ) → (b % a == 0) ≡ true → goes_into a b ≡ true → Divides a b
divides_if a b none into =
    let bits : Bool = nat_le (bits_of a) (bits_of b) in
    let few : Bool = nat_le (ways_by (a % 3 == 0) (bits_of b)) 16 in
    let parts = and_parts bits few (ap (λ (x : Bool). not x || (bits && few)) (sym none) ∙ into) in
    record { bits = leb-true (bits_of a) (bits_of b) parts.0; few = leb-true (ways_by (a % 3 == 0) (bits_of b)) 16 parts.1 }

pub divides : (a b x : ℕ) → IsTrue (is_ways a) → IsTrue (is_ways b) → b ≡ a * x → Divides a b
divides a b x a_known b_known product =
    let none : (b % a == 0) ≡ true = ap (λ (n : ℕ). n % a == 0) product ∙ ap (λ (n : ℕ). n == 0) (mul-mod_right a x) in
    divides_if a b none (goes a b a_known b_known)
