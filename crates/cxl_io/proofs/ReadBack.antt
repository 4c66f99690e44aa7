-- A number that is printed is read as the same number.
use Rattle.std.proofs.Common.{◌≡◌, ◌≢◌, ℕ, zero, suc, ◌+◌, ◌-◌, ◌/◌, ◌%◌, ◌^◌, ◌<◌, ◌≤◌, Bool, false, not, cond, List, [], ◌∷◌, ◌++◌, length, drop, replicate, Ok, None, refl, ap, ◌∙◌, arith, eq-eqb, ne_eqb}
use Rattle.std.specs.Prelude.{codes, decimal}
use Rattle.std.specs.List.{prefix_len}
use Rattle.std.specs.Char.{is_digit}
use Rattle.std.specs.Fmt.{digit_glyph, digits, digits_onto}
use Rattle.std.specs.Str.Parse.{AllDigits, IsNumeral, digits_value}
use Rattle.std.proofs.lemmas.Bool.Decides.{nat_tests}
use Rattle.std.proofs.lemmas.Fmt.{digits_is_IsNumeral, decimal_is_IsNumeral}
use Rattle.cxl_io.specs.Numbers.{first_bad_place, number_in, number_of, is_hexadecimal}
use Rattle.cxl_io.specs.Printed.{hex_of, padded_hex}

passes_all : (base : ℕ) (ds : List ℕ) → AllDigits base ds → prefix_len (λ byte. not (not (is_digit byte base))) ds ≡ length ds
passes_all base [] all = refl
passes_all base (d ∷ ds) all = let rest = passes_all base ds all.1 in let h = all.0 in grind arith

-- digits have no bad byte
first_bad_place-none : (base : ℕ) (ds : List ℕ) → AllDigits base ds → first_bad_place base ds ≡ None
first_bad_place-none base ds all = let e = passes_all base ds all in grind arith

-- digits are read as their value
number_in-digits : (base start n : ℕ) (ds : List ℕ) → IsNumeral base ds → digits_value base ds ≡ n → n < 2 ^ 64 → number_in base start ds ≡ Ok n
number_in-digits base start n ds numeral value fits =
    let none = first_bad_place-none base ds numeral.1 in let some = numeral.0 in grind arith

-- decimal digits do not begin with `0x`
decimal_word : (ds : List ℕ) → AllDigits 10 ds → is_hexadecimal ds ≡ false
decimal_word [] all = refl
decimal_word (a ∷ []) all = grind arith
decimal_word (a ∷ b ∷ ds) all = let h = all.1.0 in grind arith

-- the first digit, before those that are written
digits_onto-one : (k n : ℕ) (rest : List ℕ) → n < 10 → digits_onto (suc k) 10 false n rest ≡ (48 + n) ∷ rest
digits_onto-one k n rest one =
    let none : n / 10 ≡ 0 = omega arith in
    let glyph : digit_glyph false (n % 10) ≡ 48 + n = grind (arith, nat_tests) in
    ap (λ (b : Bool). cond b (digit_glyph false (n % 10) ∷ rest) (digits_onto k 10 false (n / 10) (digit_glyph false (n % 10) ∷ rest))) (eq-eqb _ 0 none)
    ∙ ap (λ d. d ∷ rest) glyph

-- one digit of several, before those that are written
digits_onto-more : (k n : ℕ) (rest : List ℕ) → 10 ≤ n → digits_onto (suc k) 10 false n rest ≡ digits_onto k 10 false (n / 10) ((48 + n % 10) ∷ rest)
digits_onto-more k n rest more =
    let some : n / 10 ≢ 0 = omega arith in
    let glyph : digit_glyph false (n % 10) ≡ 48 + n % 10 = grind (arith, nat_tests) in
    ap (λ (b : Bool). cond b (digit_glyph false (n % 10) ∷ rest) (digits_onto k 10 false (n / 10) (digit_glyph false (n % 10) ∷ rest))) (ne_eqb _ 0 some)
    ∙ ap (λ d. digits_onto k 10 false (n / 10) (d ∷ rest)) glyph

-- a number of one digit
pub decimal-one : (n : ℕ) → n < 10 → decimal n ≡ (48 + n) ∷ []
unfolding digits
decimal-one n one = digits_onto-one 63 n [] one

-- a number of two digits
pub decimal-two : (n : ℕ) → 10 ≤ n → n < 100 → decimal n ≡ (48 + n / 10) ∷ (48 + n % 10) ∷ []
unfolding digits
decimal-two n some few = digits_onto-more 63 n [] some ∙ digits_onto-one 62 (n / 10) _ (omega arith)

-- a number of three digits
pub decimal-three : (n : ℕ) → 100 ≤ n → n < 1000 → decimal n ≡ (48 + n / 10 / 10) ∷ (48 + n / 10 % 10) ∷ (48 + n % 10) ∷ []
unfolding digits
decimal-three n some few =
    digits_onto-more 63 n [] (omega arith) ∙ digits_onto-more 62 (n / 10) _ (omega arith)
    ∙ digits_onto-one 61 (n / 10 / 10) _ (omega arith)

pub number_of-decimal : (n : ℕ) → n < 2 ^ 64 → number_of (decimal n) ≡ Ok n
number_of-decimal n fits =
    let r = decimal_is_IsNumeral n fits in
    ap (λ (hex : Bool). cond hex (number_in 16 2 (drop 2 (decimal n))) (number_in 10 0 (decimal n))) (decimal_word (decimal n) r.0.1)
    ∙ number_in-digits 10 0 n (decimal n) r.0 r.1 fits

-- zeros in front change no value
behind_zeros : (k n : ℕ) (ds : List ℕ) → IsNumeral 16 ds → digits_value 16 ds ≡ n → IsNumeral 16 (replicate k 48 ++ ds) × (digits_value 16 (replicate k 48 ++ ds) ≡ n)
behind_zeros zero n ds numeral value = (numeral, value)
behind_zeros (suc k) n ds numeral value =
    let rest = behind_zeros k n ds numeral value in
    ((omega arith, (omega arith, rest.0.1)), rest.1)

pub number_of-padded_hex : (n width : ℕ) → n < 2 ^ 64 → number_of (codes "0x" ++ padded_hex n width) ≡ Ok n
number_of-padded_hex n width fits =
    let r = digits_is_IsNumeral 16 false (omega arith) (omega arith) n (omega arith) in
    let padded = behind_zeros (width - length (hex_of n)) n (hex_of n) r.0 r.1 in
    number_in-digits 16 2 n (padded_hex n width) padded.0 padded.1 fits

-- a number has a digit, so one digit at the least pads nothing
pub padded_hex-one : (n : ℕ) → n < 2 ^ 64 → padded_hex n 1 ≡ hex_of n
padded_hex-one n fits =
    let some = (digits_is_IsNumeral 16 false (omega arith) (omega arith) n (omega arith)).0.0 in
    let none : 1 - length (hex_of n) ≡ 0 = omega arith in
    ap (λ k. replicate k 48 ++ hex_of n) none
