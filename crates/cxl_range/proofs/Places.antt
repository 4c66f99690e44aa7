-- Where the host bytes of a region lie on the devices of its slots.
use Rattle.std.proofs.Common.{◌≡◌, ℕ, ◌+◌, ◌*◌, ◌/◌, ◌<◌, ◌≤◌, ◌^◌, Option, Some, refl, sym, ap, subst, ◌∙◌, length, get_or, arith}
use Rattle.std.specs.Prelude.{slice_get, IsSomeAnd}
use Rattle.std.specs.Option.{option_map_or}
use Rattle.std.proofs.Math.Nat.{div-mul-le_self}
use Rattle.std.proofs.lemmas.Option.{slice_get-get_or}
use Rattle.cxl_num.specs.Interleave.{chunk_size}
use Rattle.cxl_window.specs.Fields.{WindowFields}
use Rattle.cxl_deal.specs.Weaves.{WeaveFields, turns_end, dealt_slot, dealt_offset}
use Rattle.cxl_model.specs.declared.extent.Extent.{Extent}
use Rattle.cxl_model.specs.declared.found.Found.{Found}
use Rattle.cxl_model.specs.declared.found.Place.{Place}
use Rattle.cxl_model.specs.Regions.{weave_fields}
use Rattle.cxl_model.specs.Bytes.{slot_length}
use Rattle.cxl_model.proofs.Spans.{no_place}
use Rattle.cxl_range.specs.Extents.{extent_at}
use Rattle.cxl_range.specs.Carried.{IsCarried}
use Rattle.cxl_range.specs.inner.Woven.{IsWoven}

-- the law of dealing on regions of whole turns
abbrev pub Lands : WeaveFields → Type 0
Lands v = (n h : ℕ) → v.base ≤ h → h < turns_end v n → dealt_offset v h < n * chunk_size v.gran

module _ (found : Found) (v : WeaveFields) (woven : IsWoven found v) (lands : Lands v) where
  pub in_span : (h : ℕ) → found.base ≤ h → h < found.base + found.size → dealt_offset v h < slot_length found
  in_span h from below =
      let n : ℕ = slot_length found / chunk_size v.gran in
      let start : v.base ≤ h = subst (λ (x : ℕ). x ≤ h) (sym woven.base) from in
      let landed = lands n h start (subst (λ (x : ℕ). h < x) (sym woven.turns) below) in
      omega (arith, landed, div-mul-le_self (slot_length found) (chunk_size v.gran))

  pub place_low : (h : ℕ) (place : Place) → found.base ≤ h → h < found.base + found.size → slice_get found.spans (dealt_slot v h) ≡ Some place → place.start + dealt_offset v h < 2 ^ 52
  place_low h place from below there =
      omega (arith, in_span h from below, woven.spans (dealt_slot v h) place there)

-- the extent by what is read of the region and its weave
pub same_extent : (found : Found) (v : WeaveFields) (w : WindowFields) (h len slot dpa : ℕ) (place : Place) → v ≡ weave_fields found w → slot ≡ dealt_slot v h → slice_get found.spans slot ≡ Some place
    → dpa ≡ place.start + dealt_offset v h → record { h = h; len = len; slot = slot; dpa = dpa } ≡ extent_at found w h len
same_extent found v w h len slot dpa place is slot_is there dpa_is =
    let made : ℕ → ℕ → Extent = λ s d. record { h = h; len = len; slot = s; dpa = d } in
    let start : Option Place → ℕ = λ o. option_map_or (λ (p : Place). p.start) o 0 + dealt_offset v h in
    let at : Some place ≡ slice_get found.spans (dealt_slot v h) = sym there ∙ ap (slice_get found.spans) slot_is in
    subst (λ (u : WeaveFields). made slot dpa ≡ made (dealt_slot u h) (option_map_or (λ (p : Place). p.start) (slice_get found.spans (dealt_slot u h)) 0 + dealt_offset u h)) is
    (ap (λ (s : ℕ). made s dpa) slot_is ∙ ap (made (dealt_slot v h)) (dpa_is ∙ ap start at))

-- ---- bytes that follow each other

-- so many bytes from an address on go to one slot, and to offsets that follow each other
pub record AreTogether (v : WeaveFields) (h len : ℕ) : Type 0 where
  pub slot : (i : ℕ) → i < len → dealt_slot v (h + i) ≡ dealt_slot v h
  pub offset : (i : ℕ) → i < len → dealt_offset v (h + i) ≡ dealt_offset v h + i

module _ (found : Found) (w : WindowFields) (h len : ℕ) (together : AreTogether (weave_fields found w) h len) where
  pub carried : dealt_slot (weave_fields found w) h < length found.spans → found.base ≤ h → h + len ≤ found.base + found.size → IsCarried found w (extent_at found w h len)
  carried within from ends =
      let v : WeaveFields = weave_fields found w in
      let place : Place = get_or found.spans (dealt_slot v h) no_place in
      let there : slice_get found.spans (dealt_slot v h) ≡ Some place = slice_get-get_or found.spans (dealt_slot v h) no_place within in
      record {
        place = place;
        there = there;
        each = λ i below.
            let here : Some place ≡ slice_get found.spans (dealt_slot v (h + i)) = sym (ap (slice_get found.spans) (together.slot i below) ∙ there) in
            let start : place.start ≡ option_map_or (λ (p : Place). p.start) (slice_get found.spans (dealt_slot v h)) 0 = ap (λ (o : Option Place). option_map_or (λ (p : Place). p.start) o 0) (sym there) in
            let at : place.start + dealt_offset v (h + i) ≡ (extent_at found w h len).dpa + i = omega (arith, together.offset i below, start) in
            record {
              from = omega (arith, from);
              below = omega (arith, below, ends);
              place =
                  subst (λ (o : Option Place). IsSomeAnd o (λ p. (p.endpoint ≡ place.endpoint) × (p.start + dealt_offset v (h + i) ≡ (extent_at found w h len).dpa + i))) here
                  (refl, at);
            };
      }
