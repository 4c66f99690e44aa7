-- The registers of a decoder come back from its words.
use Rattle.std.proofs.Common.{◌≡◌, ℕ, ◌+◌, ◌*◌, ◌/◌, ◌%◌, ◌^◌, ◌<◌, ◌≤◌, Bool, true, false, cond, refl, ap, ◌∙◌, eq-eqb, arith}
use Rattle.std.proofs.lemmas.Nat.{shr_high}
use Rattle.cxl_enc.specs.Caps.{bit_of}
use Rattle.cxl_regs.specs.declared.decoder.Decoder.{Decoder}
use Rattle.cxl_regs.specs.Registers.{IsDecoder}
use Rattle.cxl_regs.specs.Words.{words_of, control_of, top_bits, decoder_of, has_bit}

-- decoders with equal registers are equal
same_decoder : (a b : Decoder) → a.base ≡ b.base → a.size ≡ b.size → a.ways ≡ b.ways → a.gran ≡ b.gran → a.lock ≡ b.lock
    → a.commit ≡ b.commit → a.committed ≡ b.committed → a.error ≡ b.error → a.host_only ≡ b.host_only → a.tail ≡ b.tail → a ≡ b
same_decoder a b base size ways gran lock commit committed error host_only tail =
    λ i. record { base = base i; size = size i; ways = ways i; gran = gran i; lock = lock i; commit = commit i; committed = committed i; error = error i; host_only = host_only i; tail = tail i }

pub bit_of_le : (b : Bool) → bit_of b ≤ 1
bit_of_le true = omega arith
bit_of_le false = omega arith

-- the bit above a low part
field_bit : (k low rest n : ℕ) (b : Bool) → low < 2 ^ k → n ≡ low + 2 ^ k * (bit_of b + 2 * rest) → has_bit n k ≡ b
field_bit k low rest n true lt e =
    let high : n / 2 ^ k ≡ 1 + 2 * rest = ap (λ (x : ℕ). x / 2 ^ k) (e ∙ omega arith) ∙ shr_high (1 + 2 * rest) k low lt in
    rw high (eq-eqb _ _ (omega arith))
field_bit k low rest n false lt e =
    let high : n / 2 ^ k ≡ 2 * rest = ap (λ (x : ℕ). x / 2 ^ k) (e ∙ omega arith) ∙ shr_high (2 * rest) k low lt in
    rw high (grind arith)

-- a number of 64 bits is its two words, and its low word is its top bits where the others are clear
halves : (n : ℕ) → n / 2 ^ 32 * 2 ^ 32 + n % 2 ^ 32 ≡ n
halves n = omega arith

aligned : (n : ℕ) → n % 2 ^ 28 ≡ 0 → n / 2 ^ 32 * 2 ^ 32 + top_bits (n % 2 ^ 32) ≡ n
aligned n h = omega arith

tail_back : (endpoint : Bool) (n : ℕ) → (endpoint ≡ true → n % 2 ^ 28 ≡ 0)
    → n / 2 ^ 32 * 2 ^ 32 + cond endpoint (top_bits (n % 2 ^ 32)) (n % 2 ^ 32) ≡ n
tail_back true n h = aligned n (h refl)
tail_back false n h = halves n

-- the registers of a decoder come back from its words
pub decoder_of-words_of : (endpoint : Bool) (d : Decoder) → IsDecoder endpoint d → decoder_of (words_of d) endpoint ≡ d
unfolding decoder_of
decoder_of-words_of endpoint d is =
    let gran = is.gran in
    let ways = is.ways in
    let control : ℕ = control_of d in
    let b8 = bit_of_le d.lock in
    let b9 = bit_of_le d.commit in
    let b10 = bit_of_le d.committed in
    let b11 = bit_of_le d.error in
    let b12 = bit_of_le d.host_only in
    same_decoder (decoder_of (words_of d) endpoint) d
    (aligned d.base is.base.multiple)
    (aligned d.size is.size.multiple)
    (omega arith)
    (omega arith)
    (field_bit 8 (d.gran + 16 * d.ways) (bit_of d.commit + 2 * bit_of d.committed + 4 * bit_of d.error + 8 * bit_of d.host_only) (control_of d) d.lock (omega arith) (omega arith))
    (field_bit 9 (d.gran + 16 * d.ways + 256 * bit_of d.lock) (bit_of d.committed + 2 * bit_of d.error + 4 * bit_of d.host_only) (control_of d) d.commit (omega arith) (omega arith))
    (field_bit 10 (d.gran + 16 * d.ways + 256 * bit_of d.lock + 512 * bit_of d.commit) (bit_of d.error + 2 * bit_of d.host_only) (control_of d) d.committed (omega arith) (omega arith))
    (field_bit 11 (d.gran + 16 * d.ways + 256 * bit_of d.lock + 512 * bit_of d.commit + 1024 * bit_of d.committed) (bit_of d.host_only) (control_of d) d.error (omega arith) (omega arith))
    (field_bit 12 (d.gran + 16 * d.ways + 256 * bit_of d.lock + 512 * bit_of d.commit + 1024 * bit_of d.committed + 2048 * bit_of d.error) 0 (control_of d) d.host_only (omega arith) (omega arith))
    (tail_back endpoint d.tail is.skip)
