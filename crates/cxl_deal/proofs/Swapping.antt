-- Dealing an address is dealing the swapped one with no maps, and to swap twice changes nothing.
use Rattle.std.proofs.Common.{◌≡◌, ℕ, ◌+◌, ◌-◌, ◌*◌, ◌/◌, ◌%◌, ◌^◌, ◌<◌, ◌≤◌, refl, sym, ap, ◌∙◌, arith}
use Rattle.std.specs.Prelude.{Bool, true, false, IsTrue, if◌then◌else◌, List}
use Rattle.std.proofs.Math.Pow.{pow_pos}
use Rattle.std.proofs.Math.Nat.{mul_comm, mod-lt}
use Rattle.cxl_enc.specs.Limits.{unit, address_limit}
use Rattle.cxl_num.specs.Maps.{are_usable_maps, parities, with_raw_bits}
use Rattle.cxl_num.specs.Interleave.{chunk_size, ways_by}
use Rattle.cxl_num.specs.Laws.{RawBitsAreReplaced, ParitiesTellRawBits}
use Rattle.cxl_deal.specs.Weaves.{WeaveFields, IsWeave, weave_ways, dealt_chunk, dealt_slot, dealt_offset}
use Rattle.cxl_deal.specs.Swaps.{swapped}
use Rattle.cxl_deal.proofs.Ways.{ways_by-pos, few_bits, ways-parts, chunk_size-pow}
use Rattle.cxl_deal.proofs.Chunks.{with-base, replaced-div, replaced-mod, low_within}

-- the slot with no maps
abbrev pub plain_slot : WeaveFields → ℕ → ℕ
plain_slot w h = dealt_chunk w h % weave_ways w

-- the address that is dealt there with no maps
abbrev pub plain_address : WeaveFields → ℕ → ℕ → ℕ
plain_address w slot offset =
    w.base + (offset / chunk_size w.gran * weave_ways w + slot) * chunk_size w.gran
    + offset % chunk_size w.gran

-- ---- one address, its raw bits replaced or not

-- what becomes of an address s in place of h, counted from the base
pub record Deals (base gran k v h low s : ℕ) : Type 0 where
  pub from : base ≤ s
  pub slot : (h - base) / 2 ^ (gran + 8) % (v * 2 ^ k) - (h - base) / 2 ^ (gran + 8) % 2 ^ k + low
      ≡ (s - base) / 2 ^ (gran + 8) % (v * 2 ^ k)
  pub turn_same : (h - base) / 2 ^ (gran + 8) / (v * 2 ^ k) ≡ (s - base) / 2 ^ (gran + 8) / (v * 2 ^ k)
  pub rest_same : (h - base) % 2 ^ (gran + 8) ≡ (s - base) % 2 ^ (gran + 8)

pub root-few : (w : WeaveFields) → IsWeave w → w.root_bits + w.low_bits ≤ 4
root-few w is = few_bits w.third (w.root_bits + w.low_bits) is.few_ways

module _ (replaced : RawBitsAreReplaced) (told : ParitiesTellRawBits) where
  module _ (base gran k v h : ℕ) (aligned : base % unit
      ≡ 0) (few : gran + 8 + k ≤ 28) (some : 0 < v) (from : base ≤ h) where
    Deals-with : (raw : ℕ) → raw < 2 ^ k → Deals base gran k v h raw (with_raw_bits gran k h raw)
    Deals-with raw small =
        let o = h - base in
        let c = o / 2 ^ (gran + 8) in
        let back : h ≡ base + o = omega arith in
        let whole : with_raw_bits gran k h raw ≡ base + with_raw_bits gran k o raw =
        ap (λ (j : ℕ). with_raw_bits gran k j raw) back ∙ with-base base gran k o raw aligned few in
        let along : with_raw_bits gran k h raw - base ≡ with_raw_bits gran k o raw = omega arith in
        let chunk : (with_raw_bits gran k h raw - base) / 2 ^ (gran + 8) ≡ c - c % 2 ^ k + raw =
        ap (λ (j : ℕ). j / 2 ^ (gran + 8)) along ∙ replaced.chunk gran k o raw in
        let turned : v * 2 ^ k ≡ 2 ^ k * v = mul_comm v (2 ^ k) in
        record {
          from = omega arith;
          slot = sym (ap (λ (j : ℕ). j % (v * 2 ^ k)) chunk ∙ replaced-mod c k v raw some small);
          turn_same =
              ap (λ (j : ℕ). c / j) turned
              ∙ sym (ap (λ (j : ℕ). j / (v * 2 ^ k)) chunk ∙ ap (λ (j : ℕ). (c - c % 2 ^ k + raw) / j) turned
              ∙ replaced-div c k v raw some small);
          rest_same = sym (ap (λ (j : ℕ). j % 2 ^ (gran + 8)) along ∙ replaced.rest gran k o raw);
        }

    Deals-same : Deals base gran k v h ((h - base) / 2 ^ (gran + 8) % 2 ^ k) h
    Deals-same =
        let c = (h - base) / 2 ^ (gran + 8) in
        record {
          from = from;
          slot = omega (arith, low_within c k v 0 some (pow_pos k));
          turn_same = refl;
          rest_same = refl;
        }

    -- under XOR the raw bits are replaced, else they stay
    pub Deals-by : (xor : Bool) (raw : ℕ) → raw < 2 ^ k
        → Deals base gran k v h (if xor then raw else (h - base) / 2 ^ (gran + 8) % 2 ^ k) (if xor then with_raw_bits gran k h raw else h)
    Deals-by true raw small = Deals-with raw small
    Deals-by false raw small = Deals-same

  swapped_twice : (xor : Bool) (gran k h : ℕ) (maps : List ℕ) → (IsTrue xor → IsTrue (are_usable_maps gran k maps))
      → let once = if xor then with_raw_bits gran k h (parities k maps h) else h in
      (if xor then with_raw_bits gran k once (parities k maps once) else once) ≡ h
  swapped_twice true gran k h maps usable =
      let raw = h / 2 ^ (gran + 8) % 2 ^ k in
      let p = parities k maps h in
      let same : with_raw_bits gran k h raw ≡ h = replaced.own gran k h in
      let again = told.back gran k h raw maps (usable refl) (mod-lt (h / 2 ^ (gran + 8)) (pow_pos k)) in
      let parity_is : parities k maps (with_raw_bits gran k h p) ≡ raw =
      ap (λ (j : ℕ). parities k maps (with_raw_bits gran k h (parities k maps j))) (sym same) ∙ again in
      ap (with_raw_bits gran k (with_raw_bits gran k h p)) parity_is
      ∙ replaced.again gran k h p raw (told.below k h maps)
      ∙ same
  swapped_twice false gran k h maps usable = refl

  swapped_below : (xor : Bool) (gran k h p : ℕ) → gran + 8 + k ≤ 52 → p < 2 ^ k → h < 2 ^ 52
      → (if xor then with_raw_bits gran k h p else h) < 2 ^ 52
  swapped_below true gran k h p within small below = replaced.below gran k h 52 p within small below
  swapped_below false gran k h p within small below = below

  -- ---- weaves

  module _ (w : WeaveFields) (is : IsWeave w) where
    pub swapped-below : (h : ℕ) → h < address_limit → swapped w h < address_limit
    swapped-below h below =
        let few = root-few w is in
        let known = is.gran_known in
        swapped_below w.xor w.gran w.root_bits h (parities w.root_bits w.maps h) (omega arith) (told.below w.root_bits h w.maps) below

    -- to swap twice changes nothing
    pub swapped-swapped : (h : ℕ) → swapped w (swapped w h) ≡ h
    swapped-swapped h = swapped_twice w.xor w.gran w.root_bits h w.maps is.maps_usable

    module _ (h : ℕ) (from : w.base ≤ h) where
      deals : Deals w.base w.gran w.root_bits (ways_by w.third w.low_bits) h
          (if w.xor then parities w.root_bits w.maps h else (h - w.base) / 2 ^ (w.gran + 8) % 2 ^ w.root_bits) (swapped w h)
      deals =
          let few = root-few w is in
          let known = is.gran_known in
          Deals-by w.base w.gran w.root_bits (ways_by w.third w.low_bits) h is.aligned (omega arith) (ways_by-pos w.third w.low_bits) from
          w.xor (parities w.root_bits w.maps h) (told.below w.root_bits h w.maps)

      pub from-swapped : w.base ≤ swapped w h
      from-swapped = deals.from

      pub dealt_slot-swapped : dealt_slot w h ≡ plain_slot w (swapped w h)
      dealt_slot-swapped = rw (chunk_size-pow w.gran, ways-parts w.third w.root_bits w.low_bits) deals.slot

      pub dealt_offset-swapped : dealt_offset w h ≡ dealt_offset w (swapped w h)
      dealt_offset-swapped = rw (chunk_size-pow w.gran, ways-parts w.third w.root_bits w.low_bits)
          (ap (λ (j : ℕ). j * 2 ^ (w.gran + 8) + (h - w.base) % 2 ^ (w.gran + 8)) deals.turn_same
          ∙ ap (λ (j : ℕ). (swapped w h - w.base) / 2 ^ (w.gran + 8) / (ways_by w.third w.low_bits * 2 ^ w.root_bits) * 2 ^ (w.gran + 8) + j) deals.rest_same)

      -- what dealing with no maps makes of the swapped address
      pub dealt_slot-from : (s : ℕ) → s ≡ swapped w h → (s - w.base) / chunk_size w.gran % weave_ways w
          ≡ dealt_slot w h
      dealt_slot-from s s-is = ap (λ (j : ℕ). (j - w.base) / chunk_size w.gran % weave_ways w) s-is
          ∙ sym dealt_slot-swapped

      pub dealt_offset-from : (s : ℕ) → s ≡ swapped w h
          → (s - w.base) / chunk_size w.gran / weave_ways w * chunk_size w.gran + (s - w.base) % chunk_size w.gran
          ≡ dealt_offset w h
      dealt_offset-from s s-is =
          ap (λ (j : ℕ). (j - w.base) / chunk_size w.gran / weave_ways w * chunk_size w.gran + (j - w.base) % chunk_size w.gran) s-is
          ∙ sym dealt_offset-swapped
