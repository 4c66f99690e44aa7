-- The bytes that a line states by hexadecimal digits.
use Rattle.std.proofs.Common.{◌≡◌, ℕ, ◌+◌, ◌*◌, ◌%◌, ◌<◌, ◌≤◌, Bool, true, false, ◌==◌, ◌&&◌, nat_lt, List, [], ◌∷◌, length, Ok, IfOk, refl, arith}
use Rattle.std.specs.Prelude.{if◌then◌else◌, All}
use Rattle.std.specs.List.{list_all}
use Rattle.std.specs.Char.{digit_value, is_digit}
use Rattle.std.proofs.lemmas.Bool.Decides.{nat_tests}
use Rattle.std.proofs.lemmas.List.Elements.{All-nil, All-cons}
use Rattle.cxl_script.specs.declared.fault.Why.TheVariants as whys
use Rattle.cxl_script.specs.Reading.{bad, is_hex, hex_bytes, few_bytes, word_as_bytes, hex_bytes_in}
use Rattle.cxl_script.specs.Words.{Word}
use Rattle.cxl_script.proofs.ReadSteps.{kept, HaveBytes}

-- one to so many, each below 256
abbrev pub AreBytes : ℕ → List ℕ → Type 0
AreBytes most bytes = (1 ≤ length bytes) × (length bytes ≤ most) × All (λ byte. byte < 256) bytes

byte_below : (a b : ℕ) → is_digit a 16 ≡ true → is_digit b 16 ≡ true → 16 * digit_value a + digit_value b < 256
byte_below a b high low =
    let h : digit_value a < 16 = grind (arith, nat_tests) in
    let l : digit_value b < 16 = grind (arith, nat_tests) in
    omega arith

both-left : (p q : Bool) → (p && q) ≡ true → p ≡ true
both-left true q e = refl
both-left false q e = e

both-right : (p q : Bool) → (p && q) ≡ true → q ≡ true
both-right true q e = e
both-right false true e = refl
both-right false false e = e

abbrev are_digits : List ℕ → Bool
are_digits text = list_all (λ b. is_digit b 16) text

all_below : (text : List ℕ) → are_digits text ≡ true → All (λ byte. byte < 256) (hex_bytes text)
all_below [] e = All-nil (λ byte. byte < 256)
all_below (a ∷ []) e = All-nil (λ byte. byte < 256)
all_below (a ∷ b ∷ rest) e =
    let more = both-right (is_digit a 16) (are_digits (b ∷ rest)) e in
    All-cons (λ byte. byte < 256) (16 * digit_value a + digit_value b) (hex_bytes rest)
    (byte_below a b (both-left (is_digit a 16) (are_digits (b ∷ rest)) e) (both-left (is_digit b 16) (are_digits rest) more))
    (all_below rest (both-right (is_digit b 16) (are_digits rest) more))

some_bytes : (text : List ℕ) → 1 ≤ length text → (length text % 2 == 0) ≡ true → 1 ≤ length (hex_bytes text)
some_bytes [] some even = some
some_bytes (a ∷ []) some even = grind (arith, nat_tests)
some_bytes (a ∷ b ∷ rest) some even = omega arith

few : (most at : ℕ) (bytes : List ℕ) (over : Bool) → nat_lt most (length bytes) ≡ over → 1 ≤ length bytes → All (λ byte. byte < 256) bytes
    → IfOk (if over then bad at whys.Range else Ok bytes) (AreBytes most)
few most at bytes true e some below = tt
few most at bytes false e some below = (some, grind (arith, nat_tests), below)

read_as : (most at : ℕ) (text : List ℕ) (hex : Bool) → is_hex text ≡ hex → 1 ≤ length text
    → IfOk (if hex then few_bytes at most (hex_bytes text) else bad at whys.Hex) (AreBytes most)
read_as most at text false e some = tt
read_as most at text true e some =
    few most at (hex_bytes text) (nat_lt most (length (hex_bytes text))) refl
    (some_bytes text some (both-right (are_digits text) (length text % 2 == 0) e))
    (all_below text (both-left (are_digits text) (length text % 2 == 0) e))

pub stored : (most len : ℕ) (words : List Word) → HaveBytes words → IfOk (hex_bytes_in most len words) (λ r. AreBytes most r.0)
stored most len [] have = tt
stored most len (word ∷ words) have =
    kept (AreBytes most) (word_as_bytes most word) words (read_as most word.at word.text (is_hex word.text) refl have.0)
