-- An address is held by one decoder at the most, and a range is that of one at the most.
use Rattle.std.proofs.Common.{◌≡◌, ℕ, true, ◌&&◌, Some, inl, inr, arith}
use Rattle.std.specs.Prelude.{slice_get, ◌==◌}
use Rattle.std.proofs.lemmas.Bool.{cases_lt, eqb-true, and_parts}
use Rattle.cxl_regs.specs.declared.decoder.Decoder.{Decoder}
use Rattle.cxl_regs.specs.declared.reading.Range.{Range}
use Rattle.cxl_regs.specs.Registers.{Registers}
use Rattle.cxl_regs.specs.Reading.{holds_address, has_range}
use Rattle.cxl_regs.proofs.DecoderRanges.{Holds, holds_parts}
use Rattle.cxl_span.specs.Breaches.{BlockKeeps}
use Rattle.cxl_span.proofs.KeptRules.{size_some}
use Rattle.cxl_span.proofs.Committed.{ranges_rise}

same_place : (block : Registers) (ram pmem i j h : ℕ) (d e : Decoder) → BlockKeeps block ram pmem → slice_get block.decoders i ≡ Some d → slice_get block.decoders j ≡ Some e
    → Holds d h → Holds e h → i ≡ j
same_place block ram pmem i j h d e keeps at_d at_e one other =
    let a = one.from in
    let b = one.below in
    let c = other.from in
    let f = other.below in
    elim (cases_lt i j) [
      | inl below ↦ (let rise = ranges_rise block ram pmem keeps j e at_e other.committed i d at_d below in absurd (omega arith))
      | inr past ↦ elim (cases_lt j i) [
        | inl below ↦ (let rise = ranges_rise block ram pmem keeps i d at_d one.committed j e at_e below in absurd (omega arith))
        | inr none ↦ omega arith
      ]
    ]

pub one_of_address : (block : Registers) (ram pmem i j h : ℕ) (d e : Decoder) → BlockKeeps block ram pmem → slice_get block.decoders i ≡ Some d → slice_get block.decoders j ≡ Some e
    → holds_address d h ≡ true → holds_address e h ≡ true → i ≡ j
one_of_address block ram pmem i j h d e keeps at_d at_e one other =
    same_place block ram pmem i j h d e keeps at_d at_e (holds_parts d h one) (holds_parts e h other)

-- its first address is in a committed range
holds_base : (block : Registers) (ram pmem i : ℕ) (d : Decoder) (r : Range) → BlockKeeps block ram pmem → slice_get block.decoders i ≡ Some d → has_range r d ≡ true → Holds d r.base
holds_base block ram pmem i d r keeps at is =
    let parts = and_parts (d.committed && (d.base == r.base)) (d.size == r.size) is in
    let first = and_parts d.committed (d.base == r.base) parts.0 in
    let base = eqb-true d.base r.base first.1 in
    let some = size_some block ram pmem i d keeps at first.0 in
    record { committed = first.0; from = omega arith; below = omega arith }

pub one_of_range : (block : Registers) (ram pmem i j : ℕ) (r : Range) (d e : Decoder) → BlockKeeps block ram pmem → slice_get block.decoders i ≡ Some d → slice_get block.decoders j ≡ Some e
    → has_range r d ≡ true → has_range r e ≡ true → i ≡ j
one_of_range block ram pmem i j r d e keeps at_d at_e one other =
    same_place block ram pmem i j r.base d e keeps at_d at_e (holds_base block ram pmem i d r keeps at_d one) (holds_base block ram pmem j e r keeps at_e other)
