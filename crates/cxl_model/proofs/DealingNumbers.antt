-- The numbers of dealing: bits of ways, the granularity of a port, and the offset in a span.
use Rattle.std.proofs.Common.{◌≡◌, ℕ, zero, suc, ◌+◌, ◌*◌, ◌/◌, ◌%◌, ◌^◌, ◌<◌, ◌≤◌, Bool, true, not, ◌||◌, refl, sym, ap, ◌∙◌, arith}
use Rattle.std.specs.Prelude.{◌==◌, IsTrue}
use Rattle.std.proofs.Math.Pow.{pow_mono}
use Rattle.std.proofs.Math.Nat.{mul_comm, mul_assoc, div-div-eq-div-mul, mul-one, div-one, le-mul_of_pos_right}
use Rattle.std.proofs.lemmas.Nat.{pow-add, div-add-mod'}
use Rattle.std.proofs.lemmas.Bool.{eqb-true}
use Rattle.cxl_enc.specs.Codes.{is_ways, bits_of}
use Rattle.cxl_enc.proofs.Ways.{each_ways, some_ways}
use Rattle.cxl_num.specs.Interleave.{chunk_size}

-- ---- ways and bits

few_ways : (a : ℕ) → IsTrue (is_ways a) → a ≤ 16
few_ways a known =
    each_ways (λ n. n ≤ 16) a known (omega arith) (omega arith) (omega arith) (omega arith) (omega arith) (omega arith) (omega arith) (omega arith)

-- as many ways for each of those that b bits tell apart
many_ways : (a b : ℕ) → 0 < a → (least : ℕ) → least ≤ b → 2 ^ least ≤ a * 2 ^ b
many_ways a b some least many =
    let power : 2 ^ least ≤ 2 ^ b = pow_mono {i = least} {j = b} many in
    let all : 2 ^ b ≤ 2 ^ b * a = le-mul_of_pos_right (2 ^ b) some in
    let turned = mul_comm a (2 ^ b) in
    omega arith

-- 2 ^ b times as many ways have b bits more
abbrev has_bits_more : ℕ → ℕ → Bool
has_bits_more b a = not (is_ways (a * 2 ^ b)) || (bits_of (a * 2 ^ b) == bits_of a + b)

by_test : (a b : ℕ) → has_bits_more b a ≡ true → IsTrue (is_ways (a * 2 ^ b)) → bits_of (a * 2 ^ b) ≡ bits_of a + b
by_test a b test known =
    eqb-true (bits_of (a * 2 ^ b)) (bits_of a + b) (sym (ap (λ (x : Bool). not x || (bits_of (a * 2 ^ b) == bits_of a + b)) known) ∙ test)

pub bits_more : (a b : ℕ) → IsTrue (is_ways a) → IsTrue (is_ways (a * 2 ^ b)) → bits_of (a * 2 ^ b) ≡ bits_of a + b
bits_more a zero own known = by_test a 0 (each_ways (λ n. has_bits_more 0 n ≡ true) a own refl refl refl refl refl refl refl refl) known
bits_more a (suc zero) own known = by_test a 1 (each_ways (λ n. has_bits_more 1 n ≡ true) a own refl refl refl refl refl refl refl refl) known
bits_more a (suc (suc zero)) own known = by_test a 2 (each_ways (λ n. has_bits_more 2 n ≡ true) a own refl refl refl refl refl refl refl refl) known
bits_more a (suc (suc (suc zero))) own known = by_test a 3 (each_ways (λ n. has_bits_more 3 n ≡ true) a own refl refl refl refl refl refl refl refl) known
bits_more a (suc (suc (suc (suc zero)))) own known = by_test a 4 (each_ways (λ n. has_bits_more 4 n ≡ true) a own refl refl refl refl refl refl refl refl) known
bits_more a (suc (suc (suc (suc (suc b))))) own known =
    let few = few_ways (a * 2 ^ suc (suc (suc (suc (suc b))))) known in
    let many = many_ways a (suc (suc (suc (suc (suc b))))) (some_ways a own) 5 (omega arith) in
    absurd (omega (arith, few, many))

-- with a bit more there is more than one way
pub not_one : (a b all : ℕ) → 0 < a → 0 < b → all ≡ a * 2 ^ b → all ≡ 1 → ⊥
not_one a b all some more product one =
    let many = many_ways a b some 1 more in
    omega (arith, many)

-- ---- the granularity of a port

-- a chunk, the root's bits and those above are one granularity
pub granularity_above : (gran root above : ℕ) → chunk_size gran * 2 ^ root * 2 ^ above ≡ 256 * 2 ^ (gran + root + above)
granularity_above gran root above =
    ap (λ (x : ℕ). x * 2 ^ above) (mul_assoc 256 (2 ^ gran) (2 ^ root) ∙ ap (λ (x : ℕ). 256 * x) (sym (pow-add 2 gran root)))
    ∙ mul_assoc 256 (2 ^ (gran + root)) (2 ^ above)
    ∙ ap (λ (x : ℕ). 256 * x) (sym (pow-add 2 (gran + root) above))

-- the bits above a port, its own and those below it
pub bits_parts : (above own below : ℕ) → 2 ^ (above + own + below) ≡ 2 ^ below * (2 ^ above * 2 ^ own)
bits_parts above own below =
    pow-add 2 (above + own) below ∙ ap (λ (x : ℕ). x * 2 ^ below) (pow-add 2 above own) ∙ mul_comm (2 ^ above * 2 ^ own) (2 ^ below)

-- ---- the offset in a span

-- the same granularity on both sides
pub offset_same : (o g ways : ℕ) → o / (g * ways) * g + o % g ≡ o / g / ways * g + o % g
offset_same o g ways = ap (λ (x : ℕ). x * g + o % g) (sym (div-div-eq-div-mul o g ways))

-- in one way each byte follows the one before, whatever the granularity
pub offset_whole : (o g f : ℕ) → o / (g * 1) * g + o % g ≡ o / f / 1 * f + o % f
offset_whole o g f =
    ap (λ (x : ℕ). o / x * g + o % g) (mul-one g)
    ∙ div-add-mod' o g
    ∙ sym (ap (λ (x : ℕ). x * f + o % f) (div-one (o / f)) ∙ div-add-mod' o f)
