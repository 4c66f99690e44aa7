-- A region carries each piece of 256 bytes whole, to a block of 256 bytes.
use Rattle.std.proofs.Common.{◌≡◌, ℕ, ◌+◌, ◌-◌, ◌*◌, ◌/◌, ◌%◌, ◌^◌, ◌<◌, ◌≤◌, true, List, [], Some, sym, ap, ◌∙◌, subst, arith}
use Rattle.std.specs.Prelude.{slice_get, All}
use Rattle.std.proofs.Math.Nat.{mul_comm, mul_assoc, mul-add-mod_self_left, mul-mod_right, mod-lt, div-add-mod, div-lt_iff_lt-mul}
use Rattle.std.specs.Option.{option_map_or}
use Rattle.std.proofs.lemmas.Option.{slice_get_within, get_or_from_slice_get}
use Rattle.cxl_regs.specs.declared.decoder.Decoder.{Decoder}
use Rattle.cxl_regs.specs.Registers.{Registers, IsBlock}
use Rattle.cxl_span.specs.Spans.{span_start_of}
use Rattle.cxl_span.specs.Breaches.{BlockKeeps}
use Rattle.cxl_window.specs.Fields.{WindowFields}
use Rattle.cxl_num.specs.Interleave.{chunk_size}
use Rattle.cxl_topo.proofs.Trees.{KnownTree}
use Rattle.cxl_regs.proofs.DecoderRanges.{has_parts}
use Rattle.cxl_deal.specs.Weaves.{WeaveFields, IsWeave, weave_ways, dealt_chunk, dealt_slot, dealt_offset}
use Rattle.cxl_model.specs.declared.found.Found.{Found}
use Rattle.cxl_model.specs.declared.found.Place.{Place}
use Rattle.cxl_model.specs.System.{System, IsSystem, decoders_at, ram_at, pmem_at}
use Rattle.cxl_model.specs.Regions.{region_range, IsRegionIn, weave_fields, Carries}
use Rattle.cxl_model.specs.Bytes.{slot_length}
use Rattle.cxl_model.proofs.RangeServers.{in_block}
use Rattle.cxl_model.proofs.RangeRules.{block_keeps}
use Rattle.cxl_model.proofs.SpansNumbers.{digit_below, remainder_by}
use Rattle.cxl_model.proofs.SpansApart.{power}
use Rattle.cxl_model.proofs.SpansKinds.{of_place, endpoint_block}
use Rattle.cxl_model.proofs.SpansPlaces.{some_and}
use Rattle.cxl_model.proofs.Spans.{slot_place}
use Rattle.cxl_model.proofs.Carrying.{SpansWhole, Shares, shares, is_weave, carried}

-- ---- multiples of 256

-- the remainder by a multiple of n, and then by n
mod_again : (n q x : ℕ) → x % (n * q) % n ≡ x % n
mod_again n q x =
    sym (mul-add-mod_self_left n (q * (x / (n * q))) (x % (n * q)))
    ∙ ap (λ (y : ℕ). (y + x % (n * q)) % n) (sym (mul_assoc n q (x / (n * q))))
    ∙ ap (λ (y : ℕ). y % n) (div-add-mod x (n * q))

-- a multiple of 256 MiB is one of 256
of_unit : (x : ℕ) → x % 2 ^ 28 ≡ 0 → x % 256 ≡ 0
of_unit x is = sym (mod_again 256 (2 ^ 20) x) ∙ ap (λ (y : ℕ). y % 256) is

-- k bytes on in the same 256 is in the same chunk
in_chunk : (g x k : ℕ) → x % 256 + k < 256 → x % chunk_size g + k < chunk_size g
in_chunk g x k few =
    let some = power g in
    let split = remainder_by 256 (2 ^ g) x (omega arith) some in
    let below = digit_below 256 (x / 256 % 2 ^ g) (2 ^ g) (mod-lt (x / 256) some) (x % 256 + k) few in
    omega (arith, split, below)

-- and below the same multiple of 256
in_size : (x k size : ℕ) → x % 256 + k < 256 → size % 256 ≡ 0 → x < size → x + k < size
in_size x k size few whole below =
    let units : ℕ = size / 256 in
    let size_is : size ≡ 256 * units = sym (div-add-mod size 256) ∙ ap (λ (y : ℕ). 256 * units + y) whole ∙ omega arith in
    let x_is : x ≡ 256 * (x / 256) + x % 256 = sym (div-add-mod x 256) in
    let less : x / 256 < units = (div-lt_iff_lt-mul {k = 256} {x = x} {y = units} (omega arith)).1 (subst (λ (y : ℕ). x < y) (size_is ∙ mul_comm 256 units) below) in
    let up = digit_below 256 (x / 256) units less (x % 256 + k) few in
    omega (arith, size_is, x_is, up)

-- ---- the start of a span

-- what the law of spans says of their start
abbrev pub StartsAligned : Type 0
StartsAligned =
    (block : Registers) (ram pmem i : ℕ) (d : Decoder) → IsBlock block → BlockKeeps block ram pmem → block.endpoint ≡ true → slice_get block.decoders i ≡ Some d → d.committed ≡ true
    → span_start_of block.decoders i % 2 ^ 28 ≡ 0

block_there : (blocks : List Registers) (n : ℕ) (block : Registers) → All IsBlock blocks → slice_get blocks n ≡ Some block → IsBlock block
block_there blocks n block each at = subst IsBlock (get_or_from_slice_get blocks n block block at) (each n block (slice_get_within blocks n block at))

start_aligned : StartsAligned → (s : System) (w : WindowFields) (found : Found) → IsSystem s → IsRegionIn s w found → (slot : ℕ) (place : Place) → slice_get found.spans slot ≡ Some place → place.start % 2 ^ 28 ≡ 0
start_aligned aligned s w found system is slot place at =
    let n : ℕ = place.endpoint in
    let own = of_place s w (region_range found) place is.whole is.window (slot_place s w found is slot place at) in
    let in_own = in_block s n own.i own.d own.there in
    let block : Registers = in_own.block in
    let same : decoders_at s n ≡ block.decoders = ap (λ o. option_map_or (λ (b : Registers). b.decoders) o []) in_own.at in
    ap (λ (x : ℕ). x % 2 ^ 28) (own.start ∙ ap (λ (ds : List Decoder). span_start_of ds own.i) same)
    ∙ aligned block (ram_at s n) (pmem_at s n) own.i own.d (block_there s.blocks n block system.blocks in_own.at) (block_keeps s is.whole.blocks n block in_own.at)
    (endpoint_block s n block system in_own.at own.endpoint) in_own.there (has_parts (region_range found) own.d own.has).committed

-- ---- pieces

-- a host byte stands as far into a piece as its device byte into a block
pub carried_aligned : StartsAligned → (s : System) (w : WindowFields) (found : Found) (h endpoint dpa : ℕ) → IsSystem s → IsRegionIn s w found → Carries found w h endpoint dpa
    → dpa % 256 ≡ (h - found.base) % 256
carried_aligned aligned s w found h endpoint dpa system is carries =
    let weave : WeaveFields = weave_fields found w in
    let own = carried found w h endpoint dpa carries in
    let start : own.place.start % 256 ≡ 0 = of_unit own.place.start (start_aligned aligned s w found system is (dealt_slot weave h) own.place own.at) in
    let turn : ℕ = dealt_chunk weave h / weave_ways weave in
    let times : ℕ = 2 ^ found.gran * turn in
    let chunk : turn * chunk_size found.gran ≡ 256 * times = mul_comm turn (chunk_size found.gran) ∙ mul_assoc 256 (2 ^ found.gran) turn in
    let rest : ℕ = (h - found.base) % chunk_size found.gran in
    let units : ℕ = own.place.start / 256 in
    let start_is : own.place.start ≡ 256 * units = sym (div-add-mod own.place.start 256) ∙ ap (λ (y : ℕ). 256 * units + y) start ∙ omega arith in
    let byte = own.byte in
    let sum : dpa ≡ 256 * (units + times) + rest = omega (arith, byte, chunk, start_is) in
    ap (λ (x : ℕ). x % 256) sum ∙ mul-add-mod_self_left 256 (units + times) rest ∙ mod_again 256 (2 ^ found.gran) (h - found.base)

-- what the law of chunks says
pub record ChunksWhole : Type 0 where
  pub slot : (w : WeaveFields) (h d : ℕ) → IsWeave w → w.base ≤ h → (h - w.base) % chunk_size w.gran + d < chunk_size w.gran → dealt_slot w (h + d) ≡ dealt_slot w h
  pub offset : (w : WeaveFields) (h d : ℕ) → IsWeave w → w.base ≤ h → (h - w.base) % chunk_size w.gran + d < chunk_size w.gran → dealt_offset w (h + d) ≡ dealt_offset w h + d

size_aligned : (found : Found) → Shares found → found.size % 256 ≡ 0
size_aligned found own =
    let units : ℕ = slot_length found / 256 in
    let length_is : slot_length found ≡ 256 * units = sym (div-add-mod (slot_length found) 256) ∙ ap (λ (y : ℕ). 256 * units + y) (of_unit (slot_length found) own.aligned) ∙ omega arith in
    ap (λ (x : ℕ). x % 256) (sym own.all ∙ ap (λ (x : ℕ). x * found.ways) length_is ∙ mul_assoc 256 units found.ways) ∙ mul-mod_right 256 (units * found.ways)

-- the bytes of one piece are carried to bytes that follow each other
pub carried_together : ChunksWhole → SpansWhole → (s : System) (w : WindowFields) (found : Found) (h k endpoint dpa : ℕ) → IsSystem s → KnownTree s.nodes → IsRegionIn s w found
    → Carries found w h endpoint dpa → (h - found.base) % 256 + k < 256 → Carries found w (h + k) endpoint (dpa + k)
carried_together chunks spans s w found h k endpoint dpa system known is carries few =
    let weave : WeaveFields = weave_fields found w in
    let own = carried found w h endpoint dpa carries in
    let is_own = is_weave s w found system known is in
    let from = carries.from in
    let below = carries.below in
    let near = in_chunk found.gran (h - found.base) k few in
    let slot = chunks.slot weave h k is_own from near in
    let offset = chunks.offset weave h k is_own from near in
    let inside = in_size (h - found.base) k found.size few (size_aligned found (shares spans s w found system is)) (omega (arith, from, below)) in
    let byte = own.byte in
    record {
      from = omega (arith, from);
      below = omega (arith, inside, from);
      place = some_and (slice_get found.spans (dealt_slot weave (h + k))) own.place (λ (p : Place). (p.endpoint ≡ endpoint) × (p.start + dealt_offset weave (h + k) ≡ dpa + k))
          (ap (slice_get found.spans) slot ∙ own.at) (own.here, omega (arith, byte, offset));
    }
