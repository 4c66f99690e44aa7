-- Which XOR maps can be used, map by map.
use Rattle.std.proofs.Common.{◌≡◌, ℕ, suc, ◌-◌, ◌<◌, ◌≤◌, false, List, ◌∷◌, length, get_or, drop, sym, ap, ◌∙◌, arith}
use Rattle.std.specs.Prelude.{◌&&◌}
use Rattle.std.proofs.Math.Seq.{drop-cons}
use Rattle.std.proofs.lemmas.List.{drop_all}
use Rattle.cxl_num.specs.Maps.{is_usable_map, are_usable_from}

-- map i is there
pub are_usable_from-there : (maps : List ℕ) (gran bits i map : ℕ) → i < bits → i < length maps → map ≡ get_or maps i map
    → are_usable_from gran bits i (bits - i) (drop i maps) ≡ (is_usable_map gran bits i map && are_usable_from gran bits (suc i) (bits - suc i) (drop (suc i) maps))
are_usable_from-there maps gran bits i map inside there map-is =
    let more : bits - i ≡ suc (bits - suc i) = omega arith in
    let front : drop i maps ≡ map ∷ drop (suc i) maps =
    drop-cons maps i map there ∙ ap (λ (m : ℕ). m ∷ drop (suc i) maps) (sym map-is) in
    ap (λ (n : ℕ). are_usable_from gran bits i n (drop i maps)) more
    ∙ ap (λ (ms : List ℕ). are_usable_from gran bits i (suc (bits - suc i)) ms) front

-- map i is not there
pub are_usable_from-past : (maps : List ℕ) (gran bits i : ℕ) → i < bits → length maps ≤ i
    → are_usable_from gran bits i (bits - i) (drop i maps) ≡ false
are_usable_from-past maps gran bits i inside past =
    let more : bits - i ≡ suc (bits - suc i) = omega arith in
    ap (λ (n : ℕ). are_usable_from gran bits i n (drop i maps)) more
    ∙ ap (λ (ms : List ℕ). are_usable_from gran bits i (suc (bits - suc i)) ms) (drop_all i maps past)
