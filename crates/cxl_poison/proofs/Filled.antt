-- The chunks of a region fill its spans, and the bytes of a slot are host bytes of the region.
use Rattle.std.proofs.Common.{◌≡◌, ℕ, zero, suc, ◌+◌, ◌*◌, ◌/◌, ◌<◌, ◌≤◌, ◌^◌, Bool, true, false, cond, Some, Option, refl, sym, ap, subst, ◌∙◌, arith}
use Rattle.std.specs.Prelude.{◌==◌, slice_get, IsSomeAnd}
use Rattle.std.proofs.Math.Nat.{zero-mul, mul-zero, le_antisymm, mul-le-mul_right, le_of_mul-le-mul_right, div-lt_iff_lt-mul}
use Rattle.std.proofs.lemmas.Nat.{pow_pos, div-mul-add}
use Rattle.cxl_num.specs.Interleave.{chunk_size}
use Rattle.cxl_window.specs.Fields.{WindowFields}
use Rattle.cxl_deal.specs.Weaves.{weave_ways, turns_end, dealt_slot, dealt_offset}
use Rattle.cxl_model.specs.declared.found.Found.{Found}
use Rattle.cxl_model.specs.declared.found.Place.{Place}
use Rattle.cxl_model.specs.Regions.{weave_fields, Carries}
use Rattle.cxl_model.specs.Bytes.{slot_length}
use Rattle.cxl_poison.specs.declared.live.LiveSpan.{LiveSpan}
use Rattle.cxl_poison.specs.Live.{IsSpanOf}
use Rattle.cxl_poison.specs.Pieces.{stretch_size}

-- what the laws of regions say of one
pub record Filled (found : Found) (w : WindowFields) : Type 0 where
  pub ways : weave_ways (weave_fields found w) ≡ found.ways
  pub shares : slot_length found * found.ways ≡ found.size
  pub turns : turns_end (weave_fields found w) (slot_length found / chunk_size found.gran) ≡ found.base + found.size
  pub some : 0 < found.size
  pub low : found.base + found.size ≤ 2 ^ 52

factors : (a b c : ℕ) → a * b ≡ c → 0 < c → (0 < a) × (0 < b)
factors zero b c is some = absurd (let none : zero * b ≡ 0 = zero-mul b in omega (arith, is, none, some))
factors (suc a) zero c is some = absurd (let none : suc a * zero ≡ 0 = mul-zero (suc a) in omega (arith, is, none, some))
factors (suc a) (suc b) c is some = (omega arith, omega arith)

-- n turns of w chunks that are as many bytes as w shares
whole_share : (n w g len : ℕ) → n * w * g ≡ len * w → 0 < w → n * g ≡ len
whole_share n w g len is some =
    let same : n * g * w ≡ len * w = grind (arith, is) in
    let le : n * g * w ≤ len * w = omega (arith, same) in
    let ge : len * w ≤ n * g * w = omega (arith, same) in
    le_antisymm (le_of_mul-le-mul_right le some) (le_of_mul-le-mul_right ge some)

more_turns : (a b w g : ℕ) → a ≤ b → a * w * g ≤ b * w * g
more_turns a b w g le = mul-le-mul_right g (mul-le-mul_right w le)

one_stretch : (len : ℕ) → 0 < len → len / len * len ≡ len
one_stretch len some =
    let whole : 1 * len + 0 ≡ len = omega arith in
    let one : len / len ≡ 1 = sym (ap (λ (n : ℕ). n / len) whole) ∙ div-mul-add 1 len 0 some in
    ap (λ (n : ℕ). n * len) one ∙ omega arith

module _ (found : Found) (w : WindowFields) (filled : Filled found w) where
  pub some_ways : 0 < found.ways
  some_ways = (factors (slot_length found) found.ways found.size filled.shares filled.some).1

  pub some_length : 0 < slot_length found
  some_length = (factors (slot_length found) found.ways found.size filled.shares filled.some).0

  pub some_chunk : 0 < chunk_size found.gran
  some_chunk = let some = pow_pos found.gran in omega (arith, some)

  pub chunks_whole : slot_length found / chunk_size found.gran * chunk_size found.gran ≡ slot_length found
  chunks_whole =
      let n : ℕ = slot_length found / chunk_size found.gran in
      let all : n * found.ways * chunk_size found.gran ≡ slot_length found * found.ways =
      ap (λ (x : ℕ). n * x * chunk_size found.gran) (sym filled.ways) ∙ (let turns = filled.turns in omega (arith, turns)) ∙ sym filled.shares in
      whole_share n found.ways (chunk_size found.gran) (slot_length found) all some_ways

  -- all of a span at one way, and its chunks at more
  pub stretches_fill : (span : LiveSpan) → span.len ≡ slot_length found → (0 < stretch_size found span) × (span.len / stretch_size found span * stretch_size found span ≡ span.len)
  stretches_fill span len = go (found.ways == 1)
    where
      go : (one : Bool) → (0 < cond one span.len (chunk_size found.gran)) × (span.len / cond one span.len (chunk_size found.gran) * cond one span.len (chunk_size found.gran) ≡ span.len)
      go true = let some : 0 < span.len = subst (λ (n : ℕ). 0 < n) (sym len) some_length in (some, one_stretch span.len some)
      go false = (some_chunk, subst (λ (n : ℕ). n / chunk_size found.gran * chunk_size found.gran ≡ n) (sym len) chunks_whole)

  pub turn_fits : (offset : ℕ) → offset < slot_length found → turns_end (weave_fields found w) (offset / chunk_size found.gran + 1) ≤ 2 ^ 52
  turn_fits offset below =
      let n : ℕ = slot_length found / chunk_size found.gran in
      let few : offset / chunk_size found.gran < n = (div-lt_iff_lt-mul {k = chunk_size found.gran} {x = offset} {y = n} some_chunk).1 (subst (λ (x : ℕ). offset < x) (sym chunks_whole) below) in
      let more = more_turns (offset / chunk_size found.gran + 1) n (weave_ways (weave_fields found w)) (chunk_size found.gran) (omega (arith, few)) in
      let turns = filled.turns in
      let low = filled.low in
      omega (arith, more, turns, low)

-- the host byte that is dealt to a byte of a slot is carried to it
pub carried : (found : Found) (w : WindowFields) (filled : Filled found w) → ((n h : ℕ) → found.base ≤ h → dealt_offset (weave_fields found w) h < n * chunk_size found.gran → h < turns_end (weave_fields found w) n)
    → (endpoint : ℕ) (span : LiveSpan) (offset h : ℕ) → IsSpanOf found endpoint span → offset < slot_length found → found.base ≤ h → dealt_slot (weave_fields found w) h ≡ span.slot
    → dealt_offset (weave_fields found w) h ≡ offset → Carries found w h endpoint (span.start + offset)
carried found w filled within endpoint span offset h is below from slot at =
    let n : ℕ = slot_length found / chunk_size found.gran in
    let whole = chunks_whole found w filled in
    let inside = within n h from (omega (arith, at, below, whole)) in
    let turns = filled.turns in
    let place : Place = record { endpoint = endpoint; start = span.start } in
    let there : Some place ≡ slice_get found.spans (dealt_slot (weave_fields found w) h) = sym (ap (slice_get found.spans) slot ∙ is.place) in
    record {
      from = from;
      below = omega (arith, inside, turns);
      place =
          subst (λ (o : Option Place). IsSomeAnd o (λ place. (place.endpoint ≡ endpoint) × (place.start + dealt_offset (weave_fields found w) h ≡ span.start + offset))) there
          (refl, ap (λ (x : ℕ). span.start + x) at);
    }
