-- A function's values at numbers one after the other, and words read one after the other.
use Rattle.std.proofs.Common.{◌≡◌, ℕ, zero, suc, ◌+◌, ◌-◌, ◌*◌, ◌<◌, List, length, map, take, drop, get_or, refl, sym, ap, ◌∙◌, arith}
use Rattle.std.proofs.lemmas.List.{same_lists, get_or_default, drop-drop, drop-take}
use Rattle.std.specs.List.{range_with_len}
use Rattle.byteorder.specs.Endian.{little_number, IsRead}
use Rattle.byteorder.specs.Numbers.{little_from-take}
use Rattle.cxl_image.specs.Fields.{word_from, words_from}

pub range_at : {X : Type 0} (f : ℕ → X) (a n k : ℕ) (d : X) → k < n → get_or (map f (range_with_len a n)) k d ≡ f (a + k)
range_at f a zero k d h = absurd (omega arith)
range_at f a (suc n) zero d h = let e : a ≡ a + 0 = omega arith in ap f e
range_at f a (suc n) (suc k) d h =
    let e : (a + 1) + k ≡ a + suc k = omega arith in
    range_at f (a + 1) n k d (omega arith) ∙ ap f e

pub length-range : {X : Type 0} (f : ℕ → X) (a n : ℕ) → length (map f (range_with_len a n)) ≡ n
length-range f a zero = refl
length-range f a (suc n) = ap suc (length-range f (a + 1) n)

-- words that were read from a part of the bytes
pub words_read : (bytes words : List ℕ) (at n : ℕ) → n ≡ 32 → length words ≡ 8 → IsRead little_number 4 (take n (drop at bytes)) words → words ≡ words_from bytes at 8
unfolding word_from words_from
words_read bytes words at n is size read =
    same_lists words (words_from bytes at 8) size (λ k d h.
    let few : k < 8 = omega arith in
    let e : n ≡ 4 * k + (32 - 4 * k) = omega arith in
    let part : drop (4 * k) (take n (drop at bytes)) ≡ take (32 - 4 * k) (drop (4 * k) (drop at bytes)) =
    ap (λ (m : ℕ). drop (4 * k) (take m (drop at bytes))) e ∙ drop-take (4 * k) (32 - 4 * k) (drop at bytes) in
    let number : little_number 4 (drop (4 * k) (take n (drop at bytes))) ≡ word_from bytes (at + 4 * k) =
    ap (little_number 4) part ∙ little_from-take 0 4 (32 - 4 * k) (drop (4 * k) (drop at bytes)) (omega arith) ∙ ap (little_number 4) (drop-drop (4 * k) at bytes) in
    let there : get_or (words_from bytes at 8) k d ≡ word_from bytes (at + 4 * (0 + k)) = range_at (λ (j : ℕ). word_from bytes (at + 4 * j)) 0 8 k d few in
    let same : 0 + k ≡ k = omega arith in
    get_or_default words k d 0 h ∙ read k h ∙ number ∙ ap (λ (j : ℕ). word_from bytes (at + 4 * j)) (sym same) ∙ sym there)
