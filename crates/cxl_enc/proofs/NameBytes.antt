-- A name's bytes with zeros behind them.
use Rattle.std.proofs.Common.{◌≡◌, ℕ, ◌-◌, List, ◌++◌, length, take, drop, replicate, sym, ap, subst, ◌∙◌, ◌<◌, true, arith, [], ◌∷◌, refl}
use Rattle.std.proofs.lemmas.List.{take_at, drop-replicate}
use Rattle.std.specs.Char.{digit_value}
use Rattle.std.proofs.lemmas.Bool.Decides.{nat_tests}
use Rattle.std.proofs.lemmas.Str.Parse.{digit_from_value}
use Rattle.std.specs.List.{list_all}
use Rattle.std.specs.Str.Parse.{AllDigits}
use Rattle.std.proofs.lemmas.Bool.{and_from}
use Rattle.cxl_enc.specs.Name.{IsName, IsPadded, padded, is_name_byte}

pub padded_from_name : (bytes front zeros : List ℕ) → IsName bytes → front ≡ bytes → zeros ≡ replicate 15 0 → IsPadded (length bytes) (front ++ drop (length bytes) zeros)
padded_from_name bytes front zeros name front-is zeros-is =
    let room : List ℕ = front ++ drop (length bytes) zeros in
    let first : take (length bytes) room ≡ bytes = take_at front (drop (length bytes) zeros) (length bytes) (ap length front-is) ∙ front-is in
    let rest : drop (length bytes) zeros ≡ replicate (15 - length bytes) 0 = ap (drop (length bytes)) zeros-is ∙ drop-replicate (length bytes) 15 0 in
    let whole : room ≡ padded bytes = ap (λ (x : List ℕ). x ++ drop (length bytes) zeros) front-is ∙ ap (λ (x : List ℕ). bytes ++ x) rest in
    record {
      name = subst IsName (sym first) name;
      fits = name.few;
      zeros = whole ∙ ap padded (sym first);
    }

digit_named : (c : ℕ) → digit_value c < 10 → is_name_byte c ≡ true
digit_named c low = let range = digit_from_value c low in grind (arith, nat_tests)

pub digits_named : (ds : List ℕ) → AllDigits 10 ds → list_all is_name_byte ds ≡ true
digits_named [] all = refl
digits_named (d ∷ ds) all = and_from (is_name_byte d) (list_all is_name_byte ds) (digit_named d all.0) (digits_named ds all.1)
