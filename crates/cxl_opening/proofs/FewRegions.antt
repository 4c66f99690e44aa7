-- An image has few regions: their bases rise by 256 MiB at least, below the limit of host addresses.
use Rattle.std.proofs.Common.{◌≡◌, ℕ, zero, suc, ◌+◌, ◌-◌, ◌*◌, ◌%◌, ◌^◌, ◌<◌, ◌≤◌, true, List, [], ◌∷◌, length, get_or, Option, Some, None, refl, subst, inl, inr, arith}
use Rattle.std.specs.Prelude.{slice_get}
use Rattle.std.specs.Option.{option_map_or}
use Rattle.std.specs.List.{list_any}
use Rattle.std.proofs.lemmas.Bool.{and_parts, eqb-true, cases_lt}
use Rattle.std.proofs.lemmas.List.Folds.{Any-from_list_any}
use Rattle.std.proofs.lemmas.Option.{slice_get_within, get_or_from_slice_get}
use Rattle.cxl_enc.specs.Limits.{unit, address_limit}
use Rattle.cxl_regs.specs.declared.decoder.Decoder.{Decoder}
use Rattle.cxl_regs.specs.declared.reading.Range.{Range}
use Rattle.cxl_regs.specs.Reading.{has_range}
use Rattle.cxl_regs.specs.Registers.{Registers, IsBlock, IsDecoder}
use Rattle.cxl_window.specs.Fields.{WindowFields}
use Rattle.cxl_model.specs.declared.found.Found.{Found}
use Rattle.cxl_model.specs.Listed.{AreRegionsByBase}
use Rattle.cxl_model.specs.Ranges.{IsCommittedRange}
use Rattle.cxl_model.specs.Regions.{region_range, IsRegionIn}
use Rattle.cxl_model.specs.System.{System, IsSystem}

abbrev pub EndsLow : Type 0
EndsLow = (s : System) (w : WindowFields) (found : Found) → IsSystem s → IsRegionIn s w found → found.base + found.size ≤ address_limit

-- the base is that of a decoder
same_base : (r : Range) (d : Decoder) → has_range r d ≡ true → d.base ≡ r.base
same_base r d has = eqb-true d.base r.base (and_parts _ _ (and_parts _ _ has).0).1

module _ (s : System) (system : IsSystem s) where
  decoder_among : (r : Range) (o : Option Registers) → ((block : Registers) → o ≡ Some block → IsBlock block) → list_any (has_range r) (option_map_or (λ block. block.decoders) o []) ≡ true → r.base % unit ≡ 0
  decoder_among r None blocks any = absurd (let k = Any-from_list_any (has_range r) [] any in let low = k.2 in omega (arith, low))
  decoder_among r (Some block) blocks any =
      let d = Any-from_list_any (has_range r) block.decoders any in
      let own : IsDecoder block.endpoint d.1 = subst (IsDecoder block.endpoint) d.3 ((blocks block refl).each d.0 d.1 d.2) in
      subst (λ (base : ℕ). base % unit ≡ 0) (same_base r d.1 d.4) own.base.multiple

  aligned : (r : Range) → IsCommittedRange s r → r.base % unit ≡ 0
  aligned r (n, serves) =
      decoder_among r (slice_get s.blocks n)
      (λ block at. subst IsBlock (get_or_from_slice_get s.blocks n block block at) (system.blocks n block (slice_get_within s.blocks n block at))) serves

  module _ (ends : EndsLow) (regions : List Found) (are : AreRegionsByBase s regions) where
    base_at : ℕ → Found → ℕ
    base_at i d = (get_or regions i d).base

    whole : (i : ℕ) (d : Found) → i < length regions → base_at i d % unit ≡ 0
    unfolding base_at
    whole i d low = aligned (region_range (get_or regions i d)) (are.listed.each i d low).1.committed

    rising : (i : ℕ) (d : Found) → suc i < length regions → base_at i d < base_at (suc i) d
    unfolding base_at
    rising i d low = are.rising i (suc i) d (omega arith) low

    reaches : (i : ℕ) (d : Found) → i < length regions → i * unit ≤ base_at i d
    reaches zero d low = omega arith
    reaches (suc i) d low =
        let below = reaches i d (omega arith) in
        let up = rising i d low in
        let one = whole i d (omega arith) in
        let two = whole (suc i) d low in
        omega (arith, below, up, one, two)

    low_at : (i : ℕ) (d : Found) → i < length regions → base_at i d ≤ address_limit
    unfolding base_at
    low_at i d low = let own = are.listed.each i d low in let end = ends s own.0 (get_or regions i d) system own.1 in omega (arith, end)

    few : (d : Found) → length regions < 2 ^ 32
    few d =
        elim (cases_lt 0 (length regions)) [
          | inl some ↦
              let i : ℕ = length regions - 1 in
              let low : i < length regions = omega arith in
              let from = reaches i d low in
              let upto = low_at i d low in
              omega (arith, low, from, upto)
          | inr none ↦ omega (arith, none)
        ]

pub few_regions : EndsLow → (s : System) (regions : List Found) → IsSystem s → AreRegionsByBase s regions → length regions < 2 ^ 32
few_regions ends s [] system are = omega arith
few_regions ends s (found ∷ regions) system are = few s system ends (found ∷ regions) are found
