-- What each rule says of a committed decoder of a block that keeps the rules.
use Rattle.std.proofs.Common.{◌≡◌, ℕ, ◌+◌, ◌%◌, ◌<◌, ◌≤◌, Bool, true, false, not, ◌&&◌, ◌||◌, take, Option, Some, sum_by, refl, sym, ap, ◌∙◌, arith}
use Rattle.std.specs.Prelude.{slice_get, ◌==◌, nat_lt}
use Rattle.std.proofs.lemmas.Bool.{eqb-true, eqb-false, ltb-false, or_parts, not-false}
use Rattle.cxl_enc.specs.declared.caps.MemKind.TheVariants.{Ram, Pmem}
use Rattle.cxl_enc.specs.Limits.{address_limit}
use Rattle.cxl_enc.proofs.Tests.{asked_not}
use Rattle.cxl_regs.specs.declared.decoder.Decoder.{Decoder}
use Rattle.cxl_regs.specs.Registers.{Registers}
use Rattle.cxl_regs.specs.Rules.{before}
use Rattle.cxl_regs.specs.Reading.{span_length}
use Rattle.cxl_span.specs.Spans.{span_step}
use Rattle.cxl_span.specs.Partitions.{lies_in}
use Rattle.cxl_span.specs.Rules.{breaks_rule, size_unit}
use Rattle.cxl_span.specs.Breaches.{BlockKeeps}
use Rattle.cxl_span.proofs.BreaksAt.{breaks_here, before_next}

kept_here : (rule : ℕ) (block : Registers) (ram pmem i : ℕ) (d : Decoder) → BlockKeeps block ram pmem → slice_get block.decoders i ≡ Some d
    → breaks_rule rule block ram pmem (before block.decoders i) (sum_by span_step (take i block.decoders) + d.tail) d ≡ false
kept_here rule block ram pmem i d keeps here = sym (breaks_here rule block ram pmem i d here) ∙ keeps.each rule i

-- with decoder b before it
kept_after : (rule : ℕ) (block : Registers) (ram pmem i j : ℕ) (b d : Decoder) → BlockKeeps block ram pmem → j ≡ i + 1
    → slice_get block.decoders i ≡ Some b → slice_get block.decoders j ≡ Some d
    → breaks_rule rule block ram pmem (Some b) (sum_by span_step (take j block.decoders) + d.tail) d ≡ false
kept_after rule block ram pmem i j b d keeps next at_b at_d =
    let below : before block.decoders j ≡ Some b = ap (before block.decoders) next ∙ before_next block.decoders i b at_b in
    ap (λ (o : Option Decoder). breaks_rule rule block ram pmem o (sum_by span_step (take j block.decoders) + d.tail) d) (sym below)
    ∙ kept_here rule block ram pmem j d keeps at_d

-- K2: the decoder before is committed
pub committed_before_one : (block : Registers) (ram pmem i j : ℕ) (b d : Decoder) → BlockKeeps block ram pmem → j ≡ i + 1
    → slice_get block.decoders i ≡ Some b → slice_get block.decoders j ≡ Some d → d.committed ≡ true → b.committed ≡ true
committed_before_one block ram pmem i j b d keeps next at_b at_d committed =
    not-false b.committed
    (or_parts (not b.committed) (not block.enabled)
    (asked_not d.committed (not b.committed || not block.enabled) (kept_after 2 block ram pmem i j b d keeps next at_b at_d) committed)).0

-- K7: the decoder before ends at or below the base
pub rises_from_one : (block : Registers) (ram pmem i j : ℕ) (b d : Decoder) → BlockKeeps block ram pmem → j ≡ i + 1
    → slice_get block.decoders i ≡ Some b → slice_get block.decoders j ≡ Some d → d.committed ≡ true → b.base + b.size ≤ d.base
rises_from_one block ram pmem i j b d keeps next at_b at_d committed =
    ltb-false d.base (b.base + b.size)
    (asked_not d.committed (nat_lt d.base (b.base + b.size)) (kept_after 7 block ram pmem i j b d keeps next at_b at_d) committed)

-- K6, part by part
size_parts : (block : Registers) (ram pmem i : ℕ) (d : Decoder) → BlockKeeps block ram pmem → slice_get block.decoders i ≡ Some d → d.committed ≡ true
    → ((d.size == 0) ≡ false) × (nat_lt address_limit (d.base + d.size) ≡ false) × ((block.endpoint && not (d.size % size_unit d == 0)) ≡ false)
size_parts block ram pmem i d keeps here committed =
    let all = asked_not d.committed ((d.size == 0) || nat_lt address_limit (d.base + d.size) || (block.endpoint && not (d.size % size_unit d == 0)))
    (kept_here 6 block ram pmem i d keeps here) committed in
    let last = or_parts ((d.size == 0) || nat_lt address_limit (d.base + d.size)) (block.endpoint && not (d.size % size_unit d == 0)) all in
    let first = or_parts (d.size == 0) (nat_lt address_limit (d.base + d.size)) last.0 in
    (first.0, first.1, last.1)

pub size_some : (block : Registers) (ram pmem i : ℕ) (d : Decoder) → BlockKeeps block ram pmem → slice_get block.decoders i ≡ Some d → d.committed ≡ true
    → 0 < d.size
size_some block ram pmem i d keeps here committed =
    let none = eqb-false d.size 0 (size_parts block ram pmem i d keeps here committed).0 in omega arith

pub size_ends : (block : Registers) (ram pmem i : ℕ) (d : Decoder) → BlockKeeps block ram pmem → slice_get block.decoders i ≡ Some d → d.committed ≡ true
    → d.base + d.size ≤ address_limit
size_ends block ram pmem i d keeps here committed = ltb-false address_limit (d.base + d.size) (size_parts block ram pmem i d keeps here committed).1

pub size_even : (block : Registers) (ram pmem i : ℕ) (d : Decoder) → BlockKeeps block ram pmem → slice_get block.decoders i ≡ Some d → d.committed ≡ true
    → block.endpoint ≡ true → d.size % size_unit d ≡ 0
size_even block ram pmem i d keeps here committed endpoint =
    eqb-true (d.size % size_unit d) 0
    (not-false (d.size % size_unit d == 0)
    (asked_not block.endpoint (not (d.size % size_unit d == 0)) (size_parts block ram pmem i d keeps here committed).2 endpoint))

-- K8: in ram or in pmem
pub in_ram_or_pmem : (block : Registers) (ram pmem i : ℕ) (d : Decoder) → BlockKeeps block ram pmem → slice_get block.decoders i ≡ Some d → d.committed ≡ true
    → block.endpoint ≡ true
    → (lies_in Ram ram pmem (sum_by span_step (take i block.decoders) + d.tail) (span_length d)
    || lies_in Pmem ram pmem (sum_by span_step (take i block.decoders) + d.tail) (span_length d)) ≡ true
in_ram_or_pmem block ram pmem i d keeps here committed endpoint =
    let start : ℕ = sum_by span_step (take i block.decoders) + d.tail in
    let inside : Bool = lies_in Ram ram pmem start (span_length d) || lies_in Pmem ram pmem start (span_length d) in
    not-false inside
    (asked_not (block.endpoint && d.committed) (not inside) (kept_here 8 block ram pmem i d keeps here) (rw (endpoint, committed) refl))
