-- Spans of an endpoint are whole units of 256 MiB, and stand at multiples of them.
use Rattle.std.proofs.Common.{◌≡◌, ℕ, zero, suc, ◌+◌, ◌-◌, ◌*◌, ◌/◌, ◌%◌, ◌^◌, ◌<◌, ◌≤◌, Bool, true, false, cond, List, [], ◌∷◌, take, length, get_or, Some, None, sum_by, refl, sym, ap, ◌∙◌, arith}
use Rattle.std.specs.Prelude.{slice_get, nat_lt, nat_le, unwrap_or, ◌&&◌}
use Rattle.std.proofs.lemmas.Nat.{pow_pos}
use Rattle.std.proofs.lemmas.Option.{slice_get_within, slice_get-get_or, get_or_from_slice_get}
use Rattle.std.proofs.lemmas.List.Elements.{All-get_or}
use Rattle.std.proofs.lemmas.List.Sums.{prefix_len-le-length}
use Rattle.std.proofs.Math.Nat.{mul-div_cancel_left}
use Rattle.cxl_enc.specs.Limits.{unit}
use Rattle.cxl_enc.proofs.Numbers.{some_factor}
use Rattle.cxl_regs.specs.declared.decoder.Decoder.{Decoder}
use Rattle.cxl_regs.specs.Registers.{Registers, IsBlock, IsDecoder}
use Rattle.cxl_regs.specs.Reading.{span_length, decoder_ways, committed_count}
use Rattle.cxl_span.specs.Spans.{span_step, span_start_of}
use Rattle.cxl_span.specs.Rules.{size_unit}
use Rattle.cxl_span.specs.Breaches.{BlockKeeps}
use Rattle.cxl_span.proofs.Sums.{taken_more}
use Rattle.cxl_span.proofs.KeptRules.{size_some, size_even}
use Rattle.cxl_span.proofs.Committed.{counted_is_committed, committed_is_counted}
use Rattle.cxl_span.proofs.SpanLaws.{start_here, taken_same}

positive_of : (a b : Bool) (m n : ℕ) → 0 < m → 0 < n → 0 < unwrap_or (cond a (Some m) (cond b (Some n) None)) 1
positive_of true b m n p q = p
positive_of false true m n p q = q
positive_of false false m n p q = omega arith

pub ways_some : (d : Decoder) → 0 < decoder_ways d
ways_some d =
    let power = pow_pos (d.ways - 8) in
    positive_of (nat_lt d.ways 5) (nat_le 8 d.ways && nat_lt d.ways 11) (2 ^ d.ways) (3 * 2 ^ (d.ways - 8)) (pow_pos d.ways) (omega (arith, power))

-- a share of so many whole units
share : (size w : ℕ) → 0 < w → size % (unit * w) ≡ 0 → size / w ≡ unit * (size / (unit * w))
share size w some even =
    let units : ℕ = unit * w in
    let q : ℕ = size / units in
    let some_units : 0 < units = omega arith in
    let parts : units * q + size % units ≡ size = omega arith in
    let whole : size ≡ w * (unit * q) = omega (arith, parts, even) in
    ap (λ (n : ℕ). n / w) whole ∙ mul-div_cancel_left (unit * q) some

pub length_units : (block : Registers) (ram pmem i : ℕ) (d : Decoder) → BlockKeeps block ram pmem → block.endpoint ≡ true
    → slice_get block.decoders i ≡ Some d → d.committed ≡ true → span_length d ≡ unit * (d.size / size_unit d)
length_units block ram pmem i d keeps endpoint here committed =
    share d.size (decoder_ways d) (ways_some d) (size_even block ram pmem i d keeps here committed endpoint)

pub length_aligned : (block : Registers) (ram pmem i : ℕ) (d : Decoder) → BlockKeeps block ram pmem → block.endpoint ≡ true
    → slice_get block.decoders i ≡ Some d → d.committed ≡ true → span_length d % unit ≡ 0
length_aligned block ram pmem i d keeps endpoint here committed =
    let units = length_units block ram pmem i d keeps endpoint here committed in
    let q : ℕ = d.size / size_unit d in
    let even : (unit * q) % unit ≡ 0 = omega arith in
    ap (λ (n : ℕ). n % unit) units ∙ even

-- the shares of all ways make the size
shares_whole : (size w : ℕ) → 0 < w → size % (unit * w) ≡ 0 → size / w * w ≡ size
shares_whole size w some even =
    let q : ℕ = size / (unit * w) in
    let unit_some : 0 < unit * w = omega arith in
    let parts : unit * w * q + size % (unit * w) ≡ size = omega arith in
    let one = share size w some even in
    let times : size / w * w ≡ unit * q * w = ap (λ (n : ℕ). n * w) one in
    omega (arith, times, parts, even)

pub length_times_ways : (block : Registers) (ram pmem i : ℕ) (d : Decoder) → BlockKeeps block ram pmem → block.endpoint ≡ true
    → slice_get block.decoders i ≡ Some d → d.committed ≡ true → span_length d * decoder_ways d ≡ d.size
length_times_ways block ram pmem i d keeps endpoint here committed =
    shares_whole d.size (decoder_ways d) (ways_some d) (size_even block ram pmem i d keeps here committed endpoint)

pub length_some : (block : Registers) (ram pmem i : ℕ) (d : Decoder) → BlockKeeps block ram pmem → block.endpoint ≡ true
    → slice_get block.decoders i ≡ Some d → d.committed ≡ true → 0 < span_length d
length_some block ram pmem i d keeps endpoint here committed =
    some_factor (span_length d) (decoder_ways d) d.size (length_times_ways block ram pmem i d keeps endpoint here committed)
    (size_some block ram pmem i d keeps here committed)

skip_aligned : (block : Registers) (i : ℕ) (d : Decoder) → IsBlock block → block.endpoint ≡ true → slice_get block.decoders i ≡ Some d → d.tail % unit ≡ 0
skip_aligned block i d is endpoint here =
    let each = All-get_or (IsDecoder block.endpoint) block.decoders i d (slice_get_within block.decoders i d here) is.each in
    ap (λ (x : Decoder). x.tail % unit) (sym (get_or_from_slice_get block.decoders i d d here)) ∙ each.skip endpoint

aligned_sum : (a b c : ℕ) → a % unit ≡ 0 → b % unit ≡ 0 → c % unit ≡ 0 → (a + (b + c)) % unit ≡ 0
aligned_sum a b c p q r = omega arith

taken_aligned_more : (block : Registers) (ram pmem : ℕ) → IsBlock block → BlockKeeps block ram pmem → block.endpoint ≡ true
    → (i : ℕ) (d : Decoder) → slice_get block.decoders i ≡ Some d → d.committed ≡ true
    → sum_by span_step (take i block.decoders) % unit ≡ 0 → sum_by span_step (take (i + 1) block.decoders) % unit ≡ 0
taken_aligned_more block ram pmem is keeps endpoint i d here committed so_far =
    ap (λ (n : ℕ). n % unit) (taken_more block.decoders i d here)
    ∙ aligned_sum (sum_by span_step (take i block.decoders)) d.tail (span_length d) so_far (skip_aligned block i d is endpoint here)
    (length_aligned block ram pmem i d keeps endpoint here committed)

-- the decoder at a place that is there
pub at_place : (decoders : List Decoder) (i : ℕ) → i < length decoders → (d : Decoder) × (slice_get decoders i ≡ Some d)
at_place [] i within = absurd (omega arith)
at_place (first ∷ rest) i within = (get_or (first ∷ rest) i first, slice_get-get_or (first ∷ rest) i first within)

aligned_two : (a b : ℕ) → a % unit ≡ 0 → b % unit ≡ 0 → (a + b) % unit ≡ 0
aligned_two a b p q = omega arith

-- what committed decoders skip and take is whole
pub taken_aligned : (block : Registers) (ram pmem : ℕ) → IsBlock block → BlockKeeps block ram pmem → block.endpoint ≡ true
    → (i : ℕ) → i ≤ committed_count block.decoders → sum_by span_step (take i block.decoders) % unit ≡ 0
taken_aligned block ram pmem is keeps endpoint zero counted = refl
taken_aligned block ram pmem is keeps endpoint (suc i) counted =
    let few = prefix_len-le-length (λ (x : Decoder). x.committed) block.decoders in
    let (d, here) = at_place block.decoders i (omega arith) in
    let next : suc i ≡ i + 1 = omega arith in
    ap (λ (n : ℕ). n % unit) (taken_same block.decoders (suc i) (i + 1) next)
    ∙ taken_aligned_more block ram pmem is keeps endpoint i d here (counted_is_committed block.decoders i d here (omega arith))
    (taken_aligned block ram pmem is keeps endpoint i (omega arith))

pub start_aligned : (block : Registers) (ram pmem i : ℕ) (d : Decoder) → IsBlock block → BlockKeeps block ram pmem → block.endpoint ≡ true
    → slice_get block.decoders i ≡ Some d → d.committed ≡ true → span_start_of block.decoders i % unit ≡ 0
start_aligned block ram pmem i d is keeps endpoint here committed =
    let counted = committed_is_counted block ram pmem keeps i d here committed in
    let taken = taken_aligned block ram pmem is keeps endpoint i (omega arith) in
    let skip = skip_aligned block i d is endpoint here in
    ap (λ (n : ℕ). n % unit) (start_here block.decoders i d here)
    ∙ aligned_two (sum_by span_step (take i block.decoders)) d.tail taken skip
