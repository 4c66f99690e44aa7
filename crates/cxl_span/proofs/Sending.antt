-- A committed decoder of an endpoint sends each address of its range into its span.
use Rattle.std.proofs.Common.{◌≡◌, ℕ, ◌+◌, ◌-◌, ◌*◌, ◌/◌, ◌%◌, ◌^◌, ◌<◌, ◌≤◌, true, Some, sym, ap, ◌∙◌, subst, arith}
use Rattle.std.specs.Prelude.{slice_get}
use Rattle.std.proofs.Math.Nat.{mul_comm, mul_assoc, mul-pos, add-mul, mul-le-mul_right, mod-lt, div-add-mod, div-lt_iff_lt-mul, one-mul}
use Rattle.std.proofs.lemmas.Nat.{pow-add, pow_pos}
use Rattle.std.proofs.lemmas.Option.{slice_get_within, get_or_from_slice_get}
use Rattle.std.proofs.lemmas.List.Elements.{All-get_or}
use Rattle.cxl_regs.specs.declared.decoder.Decoder.{Decoder}
use Rattle.cxl_regs.specs.Registers.{Registers, IsBlock, IsDecoder}
use Rattle.cxl_regs.specs.Reading.{decoder_ways, decoder_granularity, span_length, holds_address}
use Rattle.cxl_regs.proofs.DecoderRanges.{holds_parts}
use Rattle.cxl_span.specs.Spans.{span_start_of, endpoint_place_of}
use Rattle.cxl_span.specs.Breaches.{BlockKeeps}
use Rattle.cxl_span.proofs.Wholes.{ways_some, length_aligned, length_times_ways}

-- an address below the end of w shares of m chunks goes to a place below m chunks
below_share : (g w x m : ℕ) → 0 < g → 0 < g * w → x < m * g * w → x / (g * w) * g + x % g < m * g
below_share g w x m some_g some less =
    let bounded : x < m * (g * w) = subst (λ (y : ℕ). x < y) (mul_assoc m g w) less in
    let quotient : x / (g * w) < m = (div-lt_iff_lt-mul {k = g * w} {x = x} {y = m} some).1 bounded in
    let up : (x / (g * w) + 1) * g ≤ m * g = mul-le-mul_right g (omega arith) in
    let step : (x / (g * w) + 1) * g ≡ x / (g * w) * g + 1 * g = add-mul (x / (g * w)) 1 g in
    let one : 1 * g ≡ g = one-mul g in
    let rest : x % g < g = mod-lt x some_g in
    omega (arith, up, step, one, rest)

-- 256 MiB is a number of chunks
chunks : (gran : ℕ) → gran < 16 → 2 ^ 28 ≡ 2 ^ (20 - gran) * (256 * 2 ^ gran)
chunks gran few =
    let sum : 28 ≡ 20 - gran + (8 + gran) = omega arith in
    ap (λ (x : ℕ). 2 ^ x) sum ∙ pow-add 2 (20 - gran) (8 + gran) ∙ ap (λ (x : ℕ). 2 ^ (20 - gran) * x) (pow-add 2 8 gran)

-- so a share of whole 256 MiB holds_parts the place of each address
in_share : (gran w x share : ℕ) → gran < 16 → 0 < w → 0 < 256 * 2 ^ gran → 0 < 256 * 2 ^ gran * w → share % 2 ^ 28 ≡ 0 → x < share * w
    → x / (256 * 2 ^ gran * w) * (256 * 2 ^ gran) + x % (256 * 2 ^ gran) < share
in_share gran w x share few some_w some_g some aligned less =
    let g : ℕ = 256 * 2 ^ gran in
    let m : ℕ = share / 2 ^ 28 * 2 ^ (20 - gran) in
    let whole : share ≡ 2 ^ 28 * (share / 2 ^ 28) = omega (arith, div-add-mod share (2 ^ 28)) in
    let units : share ≡ m * g =
    whole ∙ mul_comm (2 ^ 28) (share / 2 ^ 28) ∙ ap (λ (x : ℕ). share / 2 ^ 28 * x) (chunks gran few) ∙ sym (mul_assoc (share / 2 ^ 28) (2 ^ (20 - gran)) g) in
    subst (λ (y : ℕ). x / (g * w) * g + x % g < y) (sym units) (below_share g w x m some_g some (subst (λ (y : ℕ). x < y * w) units less))

code_small : (block : Registers) (i : ℕ) (d : Decoder) → IsBlock block → slice_get block.decoders i ≡ Some d → d.gran < 16
code_small block i d is here =
    let each = All-get_or (IsDecoder block.endpoint) block.decoders i d (slice_get_within block.decoders i d here) is.each in
    subst (λ (x : Decoder). x.gran < 16) (get_or_from_slice_get block.decoders i d d here) each.gran

pub sent_below : (block : Registers) (ram pmem i h : ℕ) (d : Decoder) → IsBlock block → BlockKeeps block ram pmem → block.endpoint ≡ true
    → slice_get block.decoders i ≡ Some d → holds_address d h ≡ true
    → endpoint_place_of (span_start_of block.decoders i) d h < span_start_of block.decoders i + span_length d
sent_below block ram pmem i h d is keeps endpoint here held =
    let own = holds_parts d h held in
    let from = own.from in
    let below = own.below in
    let g : ℕ = decoder_granularity d in
    let w : ℕ = decoder_ways d in
    let x : ℕ = h - d.base in
    let some_w : 0 < w = ways_some d in
    let some_g : 0 < g = mul-pos (omega arith) (pow_pos d.gran) in
    let share : span_length d * w ≡ d.size = length_times_ways block ram pmem i d keeps endpoint here own.committed in
    let less : x < span_length d * w = omega (arith, share, below, from) in
    let inside : x / (g * w) * g + x % g < span_length d =
    in_share d.gran w x (span_length d) (code_small block i d is here) some_w some_g (mul-pos some_g some_w) (length_aligned block ram pmem i d keeps endpoint here own.committed) less in
    omega (arith, inside)
