-- Where a region carries a byte, by the slot and the offset to which it is dealt.
use Rattle.std.proofs.Common.{◌≡◌, ℕ, ◌+◌, ◌-◌, ◌*◌, ◌/◌, ◌<◌, ◌≤◌, List, length, get_or, Option, None, Some, refl, sym, ap, subst, ◌∙◌, arith}
use Rattle.std.specs.Prelude.{slice_get, IsSomeAnd}
use Rattle.std.proofs.Math.Nat.{mul-le-mul_right, div-lt_iff_lt-mul}
use Rattle.std.proofs.lemmas.Nat.{pow_pos}
use Rattle.std.proofs.lemmas.Option.{slice_get-get_or, same_Some}
use Rattle.cxl_enc.specs.Limits.{address_limit}
use Rattle.cxl_num.specs.Interleave.{chunk_size}
use Rattle.cxl_window.specs.Fields.{WindowFields}
use Rattle.cxl_deal.specs.Weaves.{WeaveFields, weave_ways, turns_end, dealt_slot, dealt_offset}
use Rattle.cxl_model.specs.declared.found.Found.{Found}
use Rattle.cxl_model.specs.declared.found.Place.{Place}
use Rattle.cxl_model.specs.Regions.{weave_fields, Carries}
use Rattle.cxl_model.specs.Bytes.{slot_length, slot_on, LiesInSpan}
use Rattle.cxl_model.proofs.FirstSlots.{slot_there}
use Rattle.cxl_move.specs.Slots.{IsByteOfSlot}

-- the place of the slot to which a byte is dealt is where it is carried
pub dealt_carries : (found : Found) (w : WindowFields) (weave : WeaveFields) (spans : List Place) (d : Place) (h slot offset : ℕ) → weave ≡ weave_fields found w → spans ≡ found.spans → slot ≡ dealt_slot weave h
    → offset ≡ dealt_offset weave h → slot < weave_ways weave → weave_ways (weave_fields found w) ≡ found.ways → length found.spans ≡ found.ways → found.base ≤ h → h < found.base + found.size
    → Carries found w h (get_or spans slot d).endpoint ((get_or spans slot d).start + offset)
dealt_carries found w weave spans d h slot offset is same slot_is offset_is below ways slots from ends =
    let place : Place = get_or spans slot d in
    let within : slot < length spans = omega (arith, below, ap weave_ways is, ways, slots, ap length same) in
    let there : Some place ≡ slice_get found.spans (dealt_slot (weave_fields found w) h) =
    sym (slice_get-get_or spans slot d within) ∙ ap (λ (xs : List Place). slice_get xs slot) same ∙ ap (slice_get found.spans) (slot_is ∙ ap (λ (v : WeaveFields). dealt_slot v h) is) in
    let at : place.start + dealt_offset (weave_fields found w) h ≡ place.start + offset = ap (λ (n : ℕ). place.start + n) (sym (offset_is ∙ ap (λ (v : WeaveFields). dealt_offset v h) is)) in
    record {
      from = from;
      below = ends;
      place = subst (λ (o : Option Place). IsSomeAnd o (λ p. (p.endpoint ≡ place.endpoint) × (p.start + dealt_offset (weave_fields found w) h ≡ place.start + offset))) there (refl, at);
    }

-- where a byte is carried, with its slot and offset
pub record IsDealtTo (found : Found) (w : WindowFields) (h endpoint dpa : ℕ) : Type 0 where
  pub place : Place
  pub there : slice_get found.spans (dealt_slot (weave_fields found w) h) ≡ Some place
  pub here : place.endpoint ≡ endpoint
  pub at : place.start + dealt_offset (weave_fields found w) h ≡ dpa

pub dealt_to : (found : Found) (w : WindowFields) (h endpoint dpa : ℕ) → Carries found w h endpoint dpa → IsDealtTo found w h endpoint dpa
dealt_to found w h endpoint dpa carries = by_place (slice_get found.spans (dealt_slot (weave_fields found w) h)) refl carries.place
  where
    by_place : (o : Option Place) → slice_get found.spans (dealt_slot (weave_fields found w) h) ≡ o → IsSomeAnd o (λ place. (place.endpoint ≡ endpoint) × (place.start + dealt_offset (weave_fields found w) h ≡ dpa))
        → IsDealtTo found w h endpoint dpa
    by_place None is at = elim at [ ]
    by_place (Some place) is at = record { place = place; there = is; here = at.0; at = at.1 }

-- ---- the byte at a place of a span

-- what the laws of regions say of one, and of its weave
pub record WovenLaws (found : Found) (w : WindowFields) : Type 0 where
  pub apart : (a b : ℕ) (p q : Place) → slice_get found.spans a ≡ Some p → slice_get found.spans b ≡ Some q → p.endpoint ≡ q.endpoint → a ≡ b
  pub onto : (endpoint dpa : ℕ) → LiesInSpan found endpoint dpa → (h : ℕ) × Carries found w h endpoint dpa
  pub lands : (n h : ℕ) → found.base ≤ h → h < turns_end (weave_fields found w) n → dealt_offset (weave_fields found w) h < n * chunk_size found.gran
  pub turns : turns_end (weave_fields found w) (slot_length found / chunk_size found.gran) ≡ found.base + found.size
  pub low : found.base + found.size ≤ address_limit

module _ (found : Found) (w : WindowFields) (laws : WovenLaws found w) (endpoint dpa slot offset : ℕ) (byte : IsByteOfSlot found endpoint dpa slot offset) where
  byte_lies : LiesInSpan found endpoint dpa
  byte_lies =
      let at = byte.at in
      let within = byte.within in
      record { slot = slot; place = byte.place; there = byte.there; here = byte.here; from = omega (arith, at); below = omega (arith, at, within) }

  host : ℕ
  host = (laws.onto endpoint dpa byte_lies).0

  host_carries : Carries found w host endpoint dpa
  unfolding host
  host_carries = (laws.onto endpoint dpa byte_lies).1

  host_slot : dealt_slot (weave_fields found w) host ≡ slot
  host_slot =
      let to = dealt_to found w host endpoint dpa host_carries in
      laws.apart (dealt_slot (weave_fields found w) host) slot to.place byte.place to.there byte.there (to.here ∙ sym byte.here)

  host_offset : dealt_offset (weave_fields found w) host ≡ offset
  host_offset =
      let to = dealt_to found w host endpoint dpa host_carries in
      let same : to.place ≡ byte.place = same_Some to.place byte.place (sym to.there ∙ ap (slice_get found.spans) host_slot ∙ byte.there) in
      omega (arith, to.at, byte.at, ap (λ (p : Place). p.start) same)

  -- its turn ends with the region, or before
  pub turn_fits : turns_end (weave_fields found w) (offset / chunk_size found.gran + 1) ≤ address_limit
  turn_fits =
      let g : ℕ = chunk_size found.gran in
      let n : ℕ = slot_length found / g in
      let some : 0 < g = let positive = pow_pos found.gran in omega (arith, positive) in
      let inside : host < turns_end (weave_fields found w) n = subst (λ (x : ℕ). host < x) (sym laws.turns) host_carries.below in
      let landed : offset < n * g = subst (λ (x : ℕ). x < n * g) host_offset (laws.lands n host host_carries.from inside) in
      let few : offset / g < n = (div-lt_iff_lt-mul {k = g} {x = offset} {y = n} some).1 landed in
      let more : (offset / g + 1) * weave_ways (weave_fields found w) * g ≤ n * weave_ways (weave_fields found w) * g =
      mul-le-mul_right g (mul-le-mul_right (weave_ways (weave_fields found w)) (omega (arith, few))) in
      let turns = laws.turns in
      let low = laws.low in
      omega (arith, more, turns, low)

  -- it is the one byte that is dealt there
  pub gathered_carries : (h : ℕ) → ((i : ℕ) → found.base ≤ i → dealt_slot (weave_fields found w) i ≡ slot → dealt_offset (weave_fields found w) i ≡ offset → i ≡ h) → Carries found w h endpoint dpa
  gathered_carries h only = subst (λ (x : ℕ). Carries found w x endpoint dpa) (only host host_carries.from host_slot host_offset) host_carries

-- ---- the one slot on an endpoint

module _ (found : Found) (apart : (a b : ℕ) (p q : Place) → slice_get found.spans a ≡ Some p → slice_get found.spans b ≡ Some q → p.endpoint ≡ q.endpoint → a ≡ b) (spans : List Place) (d : Place) (same : spans ≡ found.spans) (endpoint slot : ℕ)
    (on : slot_on endpoint found.spans ≡ Some slot) where
  own : Place
  own = record { endpoint = endpoint; start = (get_or spans slot d).start }

  own_there : slice_get found.spans slot ≡ Some own
  unfolding own
  own_there = subst (λ (xs : List Place). slice_get found.spans slot ≡ Some (record { endpoint = endpoint; start = (get_or xs slot d).start })) (sym same) (slot_there endpoint found.spans slot d on)

  -- what lies in a span on the endpoint lies in this one
  pub lies_there : (dpa : ℕ) → LiesInSpan found endpoint dpa → ((get_or spans slot d).start ≤ dpa) × (dpa < (get_or spans slot d).start + slot_length found)
  unfolding own
  lies_there dpa lies =
      let one : lies.slot ≡ slot = apart lies.slot slot lies.place own lies.there own_there lies.here in
      let place : lies.place ≡ own = same_Some lies.place own (sym lies.there ∙ ap (slice_get found.spans) one ∙ own_there) in
      let start = ap (λ (p : Place). p.start) place in
      (omega (arith, start, lies.from), omega (arith, start, lies.below))

  pub byte_there : (dpa : ℕ) → (get_or spans slot d).start ≤ dpa → dpa - (get_or spans slot d).start < slot_length found → IsByteOfSlot found endpoint dpa slot (dpa - (get_or spans slot d).start)
  unfolding own
  byte_there dpa from within = record { place = own; there = own_there; here = refl; at = omega arith; within = within }
