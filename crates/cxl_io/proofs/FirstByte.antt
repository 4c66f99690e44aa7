-- The first byte that passes a test, as a search finds it.
use Rattle.std.proofs.Common.{◌≡◌, ℕ, ◌<◌, Bool, List, length, Option, Some, None, arith}
use Rattle.std.proofs.lemmas.Bool.{false_from_ne_true}
use Rattle.std.proofs.lemmas.Bool.Decides.{nat_tests}
use Rattle.std.proofs.lemmas.List.Sums.{position_or_len_is}
use Rattle.std.specs.List.{position}
use Rattle.memchr.specs.Find.{IsFirstByte}

pub first_byte : (p : ℕ → Bool) (bytes : List ℕ) (r : Option ℕ) → IsFirstByte p bytes r → r ≡ position p bytes
first_byte p bytes None nowhere =
    let end = position_or_len_is p bytes (length bytes) 0 (omega arith) (λ k below. false_from_ne_true _ (nowhere k (omega arith) below)) (λ past. absurd (omega arith)) in
    grind (arith, nat_tests)
first_byte p bytes (Some k) first =
    let within : k < length bytes = first.0.high in
    let place = position_or_len_is p bytes k 0 (omega arith) (λ j below. false_from_ne_true _ (first.0.before j (omega arith) below)) (λ _. first.1) in
    grind (arith, nat_tests)
