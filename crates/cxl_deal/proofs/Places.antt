-- Slot and offset of an address, and the address of a slot and an offset.
use Rattle.std.proofs.Common.{◌≡◌, ℕ, ◌+◌, ◌-◌, ◌*◌, ◌/◌, ◌%◌, ◌^◌, ◌<◌, ◌≤◌, refl, sym, ap, ◌∙◌, arith}
use Rattle.std.specs.Prelude.{Bool, true, false, IsTrue, if◌then◌else◌}
use Rattle.std.proofs.Math.Nat.{mod-lt, mul-le-mul_right}
use Rattle.std.proofs.lemmas.Nat.{div-mul-add, mod-mul-add, div-add-mod'}
use Rattle.cxl_enc.specs.Limits.{address_limit}
use Rattle.cxl_num.specs.Maps.{are_usable_maps, parities}
use Rattle.cxl_num.specs.Interleave.{chunk_size}
use Rattle.cxl_num.specs.Laws.{RawBitsAreReplaced, ParitiesTellRawBits}
use Rattle.cxl_deal.specs.Weaves.{WeaveFields, IsWeave, weave_ways, turns_end, dealt_chunk, dealt_low, dealt_slot, dealt_offset}
use Rattle.cxl_deal.specs.Swaps.{swapped}
use Rattle.cxl_deal.proofs.Swapping.{plain_slot, plain_address}
use Rattle.cxl_deal.proofs.Chunks.{aligned-div}
use Rattle.cxl_deal.proofs.Ways.{ways_by-pos, chunk_size-pow, chunk_size-pos}
use Rattle.cxl_deal.proofs.Swapping.{swapped-below, swapped-swapped, from-swapped, dealt_slot-swapped, dealt_offset-swapped}
use Rattle.cxl_deal.proofs.Turns.{at_place-slot, at_place-offset, at_place-back, offset_within, within_offset}

module _ (w : WeaveFields) where
  pub weave_ways-pos : 0 < weave_ways w
  weave_ways-pos = ways_by-pos w.third (w.root_bits + w.low_bits)

  -- ---- n whole turns

  pub region_offset : (n h : ℕ) → w.base ≤ h → h < turns_end w n → dealt_offset w h < n * chunk_size w.gran
  region_offset n h from within =
      let along : h - w.base < n * weave_ways w * chunk_size w.gran = omega arith in
      offset_within (weave_ways w) (chunk_size w.gran) weave_ways-pos (chunk_size-pos w.gran) n (h - w.base) along

  pub region_within : (n h : ℕ) → w.base ≤ h → dealt_offset w h < n * chunk_size w.gran → h < turns_end w n
  region_within n h from below =
      let along = within_offset (weave_ways w) (chunk_size w.gran) weave_ways-pos (chunk_size-pos w.gran) n (h - w.base) below in
      omega arith

module _ (replaced : RawBitsAreReplaced) (told : ParitiesTellRawBits) where
  module _ (w : WeaveFields) (is : IsWeave w) where
    -- the place of what is gathered
    module _ (slot offset : ℕ) (below : slot < weave_ways w) where
      plain_along : plain_address w slot offset - w.base
          ≡ (offset / chunk_size w.gran * weave_ways w + slot) * chunk_size w.gran + offset % chunk_size w.gran
      plain_along = omega arith

      plain_from : w.base ≤ plain_address w slot offset
      plain_from = omega arith

      plain-slot : plain_slot w (plain_address w slot offset) ≡ slot
      plain-slot =
          ap (λ (j : ℕ). j / chunk_size w.gran % weave_ways w) plain_along
          ∙ at_place-slot (weave_ways w) (chunk_size w.gran) (weave_ways-pos w) (chunk_size-pos w.gran) slot offset below

      plain-offset : dealt_offset w (plain_address w slot offset) ≡ offset
      plain-offset =
          ap (λ (j : ℕ). j / chunk_size w.gran / weave_ways w * chunk_size w.gran + j % chunk_size w.gran) plain_along
          ∙ at_place-offset (weave_ways w) (chunk_size w.gran) (weave_ways-pos w) (chunk_size-pos w.gran) slot offset below

      pub gathered_from : w.base ≤ swapped w (plain_address w slot offset)
      gathered_from = from-swapped replaced told w is (plain_address w slot offset) plain_from

      pub gathered-slot : dealt_slot w (swapped w (plain_address w slot offset)) ≡ slot
      gathered-slot =
          dealt_slot-swapped replaced told w is (swapped w (plain_address w slot offset)) gathered_from
          ∙ ap (plain_slot w) (swapped-swapped replaced told w is (plain_address w slot offset))
          ∙ plain-slot

      pub gathered-offset : dealt_offset w (swapped w (plain_address w slot offset)) ≡ offset
      gathered-offset =
          dealt_offset-swapped replaced told w is (swapped w (plain_address w slot offset)) gathered_from
          ∙ ap (dealt_offset w) (swapped-swapped replaced told w is (plain_address w slot offset))
          ∙ plain-offset

    -- no other address has that place
    pub gathered-only : (slot offset h : ℕ) → w.base ≤ h → dealt_slot w h ≡ slot → dealt_offset w h ≡ offset
        → h ≡ swapped w (plain_address w slot offset)
    gathered-only slot offset h from slot-is offset-is =
        let s = swapped w h in
        let s_from : w.base ≤ s = from-swapped replaced told w is h from in
        let s_slot : plain_slot w s ≡ slot = sym (dealt_slot-swapped replaced told w is h from) ∙ slot-is in
        let s_offset : dealt_offset w s ≡ offset = sym (dealt_offset-swapped replaced told w is h from) ∙ offset-is in
        let along = at_place-back (weave_ways w) (chunk_size w.gran) (weave_ways-pos w) (chunk_size-pos w.gran) (s - w.base) slot offset s_slot s_offset in
        let plain : plain_address w slot offset ≡ s = omega arith in
        sym (ap (swapped w) plain ∙ swapped-swapped replaced told w is h)

    pub same_address : (h i : ℕ) → w.base ≤ h → w.base ≤ i → dealt_slot w h ≡ dealt_slot w i
        → dealt_offset w h ≡ dealt_offset w i → h ≡ i
    same_address h i h_from i_from slots offsets =
        gathered-only (dealt_slot w i) (dealt_offset w i) h h_from slots offsets
        ∙ sym (gathered-only (dealt_slot w i) (dealt_offset w i) i i_from refl refl)

    -- ---- gathering where it fits

    pub plain_below : (slot offset : ℕ) → slot < weave_ways w
        → turns_end w (offset / chunk_size w.gran + 1) ≤ address_limit
        → plain_address w slot offset < address_limit
    plain_below slot offset below fits =
        let along : (offset / chunk_size w.gran + 1) * weave_ways w * chunk_size w.gran ≤ address_limit = omega arith in
        let g = chunk_size w.gran in
        let last : offset / g * weave_ways w + slot + 1 ≤ (offset / g + 1) * weave_ways w = omega arith in
        let ends : (offset / g * weave_ways w + slot + 1) * g ≤ (offset / g + 1) * weave_ways w * g =
        mul-le-mul_right g last in
        omega (arith, mod-lt offset (chunk_size-pos w.gran))

    pub gathered_below : (slot offset : ℕ) → slot < weave_ways w
        → turns_end w (offset / chunk_size w.gran + 1) ≤ address_limit
        → swapped w (plain_address w slot offset) < address_limit
    gathered_below slot offset below fits = swapped-below replaced told w is (plain_address w slot offset) (plain_below slot offset below fits)

    -- ---- one chunk

    module _ (h d : ℕ) (from : w.base ≤ h) (within : (h - w.base) % chunk_size w.gran + d < chunk_size w.gran) where
      moved : h + d - w.base ≡ (h - w.base) / chunk_size w.gran * chunk_size w.gran + ((h - w.base) % chunk_size w.gran + d)
      moved = omega (arith, div-add-mod' (h - w.base) (chunk_size w.gran))

      chunk-moved : dealt_chunk w (h + d) ≡ dealt_chunk w h
      chunk-moved = ap (λ (j : ℕ). j / chunk_size w.gran) moved
          ∙ div-mul-add (dealt_chunk w h) (chunk_size w.gran) ((h - w.base) % chunk_size w.gran + d) within

      rest-moved : (h + d - w.base) % chunk_size w.gran ≡ (h - w.base) % chunk_size w.gran + d
      rest-moved = ap (λ (j : ℕ). j % chunk_size w.gran) moved
          ∙ mod-mul-add (dealt_chunk w h) (chunk_size w.gran) ((h - w.base) % chunk_size w.gran + d) within

      -- both addresses have the bits from the granularity on in common
      upper-moved : (h + d) / 2 ^ (w.gran + 8) ≡ h / 2 ^ (w.gran + 8)
      upper-moved =
          let known = is.gran_known in
          let first : h ≡ w.base + (h - w.base) = omega arith in
          let second : h + d ≡ w.base + (h + d - w.base) = omega arith in
          let chunk : (h + d - w.base) / 2 ^ (w.gran + 8) ≡ (h - w.base) / 2 ^ (w.gran + 8) =
          rw chunk_size-pow at chunk-moved in
          ap (λ (j : ℕ). j / 2 ^ (w.gran + 8)) second
          ∙ aligned-div w.base (w.gran + 8) (h + d - w.base) is.aligned (omega arith)
          ∙ ap (λ (j : ℕ). w.base / 2 ^ (w.gran + 8) + j) chunk
          ∙ sym (aligned-div w.base (w.gran + 8) (h - w.base) is.aligned (omega arith))
          ∙ ap (λ (j : ℕ). j / 2 ^ (w.gran + 8)) (sym first)

      pub moved-slot : dealt_slot w (h + d) ≡ dealt_slot w h
      moved-slot =
          ap (λ (j : ℕ). j % weave_ways w - j % 2 ^ w.root_bits + dealt_low w (h + d)) chunk-moved
          ∙ ap (λ (j : ℕ). dealt_chunk w h % weave_ways w - dealt_chunk w h % 2 ^ w.root_bits + j) (same_low w.xor is.maps_usable)
        where
          same_low : (xor : Bool) → (IsTrue xor → IsTrue (are_usable_maps w.gran w.root_bits w.maps))
              → (if xor then parities w.root_bits w.maps (h + d) else dealt_chunk w (h + d) % 2 ^ w.root_bits)
              ≡ (if xor then parities w.root_bits w.maps h else dealt_chunk w h % 2 ^ w.root_bits)
          same_low true usable = told.chunk w.gran w.root_bits (h + d) h w.maps (usable refl) upper-moved
          same_low false usable = ap (λ (j : ℕ). j % 2 ^ w.root_bits) chunk-moved

      pub moved-offset : dealt_offset w (h + d) ≡ dealt_offset w h + d
      moved-offset =
          ap (λ (j : ℕ). j / weave_ways w * chunk_size w.gran + (h + d - w.base) % chunk_size w.gran) chunk-moved
          ∙ ap (λ (j : ℕ). dealt_chunk w h / weave_ways w * chunk_size w.gran + j) rest-moved
          ∙ omega arith
