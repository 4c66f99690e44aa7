-- A name's number is the number of no other name, and has fewer than 128 bits.
use Rattle.std.proofs.Common.{◌≡◌, ℕ, zero, suc, ◌+◌, ◌-◌, ◌*◌, ◌^◌, ◌<◌, ◌≤◌, ◌==◌, true, List, [], ◌∷◌, length, drop, refl, ap, subst, ◌∙◌, arith}
use Rattle.std.specs.List.{list_all}
use Rattle.std.specs.Str.{bytes_eq}
use Rattle.std.proofs.lemmas.Bool.{and_parts}
use Rattle.std.proofs.lemmas.Bool.Decides.{nat_tests, same_from_decides, Decides-eqb, Decides-like}
use Rattle.std.proofs.lemmas.Slice.Eq.{bytes_eq-Decides}
use Rattle.cxl_enc.specs.Name.{IsName, is_name_byte}
use Rattle.cxl_topo.specs.Keys.{name_number, name_key, name_eq}

-- no byte of a name is zero
name_byte : (byte : ℕ) → is_name_byte byte ≡ true → (0 < byte) × (byte < 256)
name_byte byte is = grind (arith, nat_tests)

-- the numbers of names are apart, since neither name has zeros at its end
same_name : (a b : List ℕ) → list_all is_name_byte a ≡ true → list_all is_name_byte b ≡ true → name_number a ≡ name_number b → a ≡ b
same_name [] [] first second same = refl
same_name [] (y ∷ b) first second same =
    let own = name_byte y (and_parts (is_name_byte y) (list_all is_name_byte b) second).0 in
    absurd (omega (arith, own, same))
same_name (x ∷ a) [] first second same =
    let own = name_byte x (and_parts (is_name_byte x) (list_all is_name_byte a) first).0 in
    absurd (omega (arith, own, same))
same_name (x ∷ a) (y ∷ b) first second same =
    let one = and_parts (is_name_byte x) (list_all is_name_byte a) first in
    let other = and_parts (is_name_byte y) (list_all is_name_byte b) second in
    let heads : x ≡ y = omega (arith, name_byte x one.0, name_byte y other.0, same) in
    let tails : name_number a ≡ name_number b = omega (arith, name_byte x one.0, name_byte y other.0, same) in
    rw heads (ap (λ bytes. y ∷ bytes) (same_name a b one.1 other.1 tails))

-- two names are the same where their keys are
pub name_same : (a b : List ℕ) → IsName a → IsName b → bytes_eq a b ≡ name_eq (name_key a) (name_key b)
name_same a b first second =
    let numbers = Decides-like (name_number a == name_number b) (same_name a b first.each second.each) (ap name_number) (Decides-eqb (name_number a) (name_number b)) in
    same_from_decides (bytes_eq a b) (name_number a == name_number b) (bytes_eq-Decides a b) numbers

-- how many numbers so many bytes write
abbrev numbers : ℕ → ℕ
numbers zero = 1
numbers (suc n) = 256 * numbers n

numbers_up : (k n : ℕ) → numbers n ≤ numbers (k + n)
numbers_up zero n = let same : zero + n ≡ n = omega arith in rw same (omega arith)
numbers_up (suc k) n =
    let same : suc k + n ≡ suc (k + n) = omega arith in
    let less : numbers n ≤ numbers (k + n) = numbers_up k n in
    rw same (omega (arith, less))

within : (bytes : List ℕ) → list_all is_name_byte bytes ≡ true → name_number bytes < numbers (length bytes)
within [] each = omega arith
within (byte ∷ bytes) each =
    let parts = and_parts (is_name_byte byte) (list_all is_name_byte bytes) each in
    let rest : name_number bytes < numbers (length bytes) = within bytes parts.1 in
    omega (arith, name_byte byte parts.0, rest)

-- the bytes from one on write no higher number than all of them
less_from : (i : ℕ) (bytes : List ℕ) → name_number (drop i bytes) ≤ name_number bytes
less_from zero bytes = omega arith
less_from (suc i) [] = omega arith
less_from (suc i) (byte ∷ bytes) =
    let rest : name_number (drop i bytes) ≤ name_number bytes = less_from i bytes in
    omega (arith, rest)

-- so the number of a name, or of its last bytes, has room for one byte more
pub has_room : (i : ℕ) (bytes : List ℕ) → IsName bytes → name_number (drop i bytes) < 2 ^ 120
has_room i bytes name =
    let few = name.few in
    let long : (15 - length bytes) + length bytes ≡ 15 = omega arith in
    let all : numbers (length bytes) ≤ 2 ^ 120 = subst (λ n. numbers (length bytes) ≤ numbers n) long (numbers_up (15 - length bytes) (length bytes)) in
    omega (arith, within bytes name.each, all, less_from i bytes)
