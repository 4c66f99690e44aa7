-- The bytes of a target list.
use Rattle.std.proofs.Common.{◌≡◌, ℕ, zero, suc, ◌+◌, ◌*◌, ◌/◌, ◌%◌, ◌^◌, ◌<◌, ◌≤◌, lit≤, List, map, length, Some, refl, sym, ap, ◌∙◌, arith}
use Rattle.std.specs.Prelude.{slice_get}
use Rattle.std.specs.List.{range_with_len}
use Rattle.std.proofs.lemmas.Nat.{pow-add, div_below}
use Rattle.std.proofs.lemmas.List.FromFn.{length-map-range_with_len, get_or-map-range_with_len}
use Rattle.std.proofs.lemmas.Option.{slice_get-get_or}
use Rattle.std.proofs.Math.Nat.{pow-suc, pow-le-pow_right}
use Rattle.cxl_regs.specs.declared.decoder.Decoder.{Decoder}
use Rattle.cxl_regs.specs.Reading.{decoder_ways, entry_at, entries_of}

-- so many bytes are eight times as many bits
pub bytes_as_bits : (n : ℕ) → 2 ^ (8 * n) ≡ 256 ^ n
bytes_as_bits zero = refl
bytes_as_bits (suc n) =
    let more : 8 * suc n ≡ 8 * n + 8 = omega arith in
    let split : 2 ^ (8 * n + 8) ≡ 2 ^ (8 * n) * 256 = pow-add 2 (8 * n) 8 in
    ap (λ (k : ℕ). 2 ^ k) more ∙ split ∙ ap (λ (p : ℕ). p * 256) (bytes_as_bits n) ∙ sym (pow-suc 256 n)

-- there are eight
pub past_list : (tail i : ℕ) → tail < 2 ^ 64 → 8 ≤ i → tail / 256 ^ i % 256 ≡ 0
past_list tail i wide past =
    let all : 256 ^ 8 ≤ 256 ^ i = pow-le-pow_right {n = 256} (lit≤ tt) past in
    let none : tail / 256 ^ i < 1 = div_below tail (256 ^ i) 1 (omega arith) (omega arith) in
    let zero_so : tail / 256 ^ i ≡ 0 = omega arith in
    rw zero_so refl

-- the port at an entry is one of those listed
pub listed_at : (d : Decoder) (i port : ℕ) → i < decoder_ways d → port ≡ entry_at d i → slice_get (entries_of d) i ≡ Some port
listed_at d i port below is =
    let ports : List ℕ = map (entry_at d) (range_with_len 0 (decoder_ways d)) in
    let count : length ports ≡ decoder_ways d = length-map-range_with_len (entry_at d) 0 (decoder_ways d) in
    slice_get-get_or ports i 0 (omega arith)
    ∙ ap (λ (p : ℕ). Some p) (get_or-map-range_with_len (entry_at d) 0 (decoder_ways d) i i 0 below (omega arith) ∙ sym is)
