-- Decoders of a range, and what a decoder holds.
use Rattle.std.proofs.Common.{◌≡◌, true, ◌&&◌, refl, ℕ, ◌+◌, ◌<◌, ◌≤◌, arith}
use Rattle.std.specs.Prelude.{◌==◌, nat_lt, nat_le, IsTrue}
use Rattle.std.proofs.lemmas.Bool.{and_parts, eqb-true, eq-eqb, leb-true, ltb-true}
use Rattle.cxl_enc.specs.Codes.{is_ways}
use Rattle.cxl_enc.proofs.Ways.{known_ways}
use Rattle.cxl_regs.specs.declared.decoder.Decoder.{Decoder}
use Rattle.cxl_regs.specs.declared.reading.Range.{Range}
use Rattle.cxl_regs.specs.Reading.{has_range, range_of, holds_address, decoder_ways}
use Rattle.cxl_regs.specs.Registers.{Registers}

pub record Has (r : Range) (d : Decoder) : Type 0 where
  pub committed : d.committed ≡ true
  pub base : d.base ≡ r.base
  pub size : d.size ≡ r.size

pub has_parts : (r : Range) (d : Decoder) → has_range r d ≡ true → Has r d
has_parts r d has =
    let outer = and_parts (d.committed && (d.base == r.base)) (d.size == r.size) has in
    let inner = and_parts d.committed (d.base == r.base) outer.0 in
    record { committed = inner.0; base = eqb-true d.base r.base inner.1; size = eqb-true d.size r.size outer.1 }

pub same_range : (r : Range) (d : Decoder) → Has r d → range_of d ≡ r
same_range r d has =
    let base = has.base in
    let size = has.size in
    λ k. record { base = base k; size = size k }

pub has_own_range : (d : Decoder) → d.committed ≡ true → has_range (range_of d) d ≡ true
has_own_range d committed = rw (committed, eq-eqb d.base d.base refl, eq-eqb d.size d.size refl) refl

pub record Holds (d : Decoder) (h : ℕ) : Type 0 where
  pub committed : d.committed ≡ true
  pub from : d.base ≤ h
  pub below : h < d.base + d.size

pub holds_parts : (d : Decoder) (h : ℕ) → holds_address d h ≡ true → Holds d h
holds_parts d h holds =
    let outer = and_parts (d.committed && nat_le d.base h) (nat_lt h (d.base + d.size)) holds in
    let inner = and_parts d.committed (nat_le d.base h) outer.0 in
    record { committed = inner.0; from = leb-true d.base h inner.1; below = ltb-true h (d.base + d.size) outer.1 }

-- a decoder of a range holds its addresses, such as the first
pub range_held : (r : Range) (d : Decoder) (h : ℕ) → has_range r d ≡ true → r.base ≤ h → h < r.base + r.size → Holds d h
range_held r d h has from below =
    let own = has_parts r d has in
    let base = own.base in
    let size = own.size in
    record { committed = own.committed; from = omega (arith, base, from); below = omega (arith, base, size, below) }

-- a decoder's ways are in the table
pub decoder_ways_known : (d : Decoder) → IsTrue (is_ways (decoder_ways d))
decoder_ways_known d = known_ways d.ways

abbrev pub decoding : Registers → Registers
decoding block = record block { enabled = true }
