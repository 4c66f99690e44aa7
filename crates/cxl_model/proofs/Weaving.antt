-- What a region's weave needs: an aligned base, a known code, few ways and usable maps.
use Rattle.std.proofs.Common.{◌≡◌, ℕ, zero, suc, ◌+◌, ◌-◌, ◌*◌, ◌%◌, ◌^◌, ◌<◌, ◌≤◌, ◌⊎◌, Bool, true, false, ◌&&◌, if◌then◌else◌, List, [], ◌∷◌, length, get_or, Option, Some, None, refl, sym, ap, ◌∙◌, subst, inl, inr, arith}
use Rattle.std.specs.Prelude.{◌==◌, nat_lt, nat_le, IsTrue}
use Rattle.std.specs.Option.{option_map_or}
use Rattle.std.proofs.Math.Pow.{pow_mono}
use Rattle.std.proofs.lemmas.Nat.{mul-le}
use Rattle.std.proofs.lemmas.Bool.{and_parts, eqb-false, ne_eqb, lt-ltb, cases_lt}
use Rattle.std.proofs.lemmas.Option.{slice_get-get_or}
use Rattle.cxl_enc.specs.Codes.{is_ways, third_of, bits_of}
use Rattle.cxl_enc.proofs.Ways.{some_ways}
use Rattle.cxl_enc.proofs.Lists.{find_passes}
use Rattle.cxl_regs.specs.declared.decoder.Decoder.{Decoder}
use Rattle.cxl_regs.specs.declared.reading.Range.{Range}
use Rattle.cxl_regs.specs.Reading.{decoder_ways}
use Rattle.cxl_window.specs.declared.window.Verdict.TheVariants.{Usable}
use Rattle.cxl_window.specs.Position.{is_usable}
use Rattle.cxl_window.specs.Fields.{WindowFields}
use Rattle.cxl_num.specs.Maps.{are_usable_maps}
use Rattle.cxl_num.specs.Interleave.{ways_by}
use Rattle.cxl_window.proofs.Usable.{usable_is}
use Rattle.cxl_regs.proofs.DecoderRanges.{decoder_ways_known, has_parts}
use Rattle.cxl_model.specs.declared.found.Found.{Found}
use Rattle.cxl_model.specs.declared.found.Place.{Place}
use Rattle.cxl_model.specs.System.{System, IsSystem}
use Rattle.cxl_model.specs.Ranges.{lies_within, window_for, ways_above, first_decoder, range_code}
use Rattle.cxl_model.specs.Regions.{region_range, IsRegionIn}
use Rattle.cxl_model.proofs.WeavingWays.{Divides, divides}
use Rattle.cxl_model.proofs.RangeServers.{Reaches, reached, Serves, has_ways, base_aligned, gran_known}

-- ---- its ways

range_ways_if : (o : Option Decoder) → IsTrue (is_ways (option_map_or decoder_ways o 1))
range_ways_if None = refl
range_ways_if (Some d) = decoder_ways_known d

pub found_ways_known : (s : System) (w : WindowFields) (found : Found) → IsRegionIn s w found → IsTrue (is_ways found.ways)
found_ways_known s w found is =
    subst (λ (n : ℕ). IsTrue (is_ways n)) (sym is.ways) (range_ways_if (first_decoder s (region_range found)))

-- ---- an endpoint of it

pub first_reached : (s : System) (w : WindowFields) (found : Found) → IsRegionIn s w found → Reaches s (region_range found)
first_reached s w found is =
    let some : 0 < found.ways = some_ways found.ways (found_ways_known s w found is) in
    let slots = is.slots in
    let any : Place = record { endpoint = 0; start = 0 } in
    let place : Place = get_or found.spans 0 any in
    let span = is.spans 0 place (slice_get-get_or found.spans 0 any (omega (arith, some, slots))) in
    reached s w (region_range found) 0 span.bridge place span.leads

-- what that endpoint's decoder tells of the region
pub record Told (s : System) (w : WindowFields) (found : Found) : Type 0 where
  pub base : found.base % 2 ^ 28 ≡ 0
  pub times : ℕ
  pub product : found.ways ≡ w.ways * times
  pub code : (found.ways ≡ 1) ⊎ (range_code s w (region_range found) ≤ 6)

pub told : (s : System) (w : WindowFields) (found : Found) → IsSystem s → IsRegionIn s w found → Told s w found
told s w found system is =
    let r : Range = region_range found in
    let end = first_reached s w found is in
    let n : ℕ = end.n in
    let i : ℕ = end.i in
    let d : Decoder = end.d in
    let serves : Serves s r n i d = end.serves in
    let has = has_parts r d serves.has in
    let ways = has_ways s w r n i d is.whole is.window serves in
    let own : found.ways ≡ decoder_ways d = is.ways ∙ sym ways.ways in
    let known : d.gran ≤ 6 = gran_known s n i d is.whole.blocks serves.there has.committed in
    record {
      base = ap (λ (b : ℕ). b % 2 ^ 28) (sym has.base) ∙ base_aligned s n i d system.blocks serves.there;
      times = ways_above s r n;
      product = own ∙ ways.product;
      code = elim ways.code [
        | inl one ↦ inl (own ∙ one)
        | inr same ↦ inr (omega (arith, same, known))
      ];
    }

-- the window's ways divide its own
pub window_divides : (s : System) (w : WindowFields) (found : Found) → IsSystem s → IsRegionIn s w found → IsTrue (is_ways w.ways) → Divides w.ways found.ways
window_divides s w found system is known =
    let all = told s w found system is in
    divides w.ways found.ways all.times known (found_ways_known s w found is) all.product

-- the sum of the window's bits and the lower ones is all of them, and they are few
abbrev factor : Bool → ℕ
factor third = if third then 3 else 1

third_is : (own third : Bool) → factor own ≡ factor third → third ≡ own
third_is true true same = refl
third_is true false same = absurd (omega arith)
third_is false true same = absurd (omega arith)
third_is false false same = refl

pub few_ways : (ways all : ℕ) (third : Bool) (root bits : ℕ) → Divides ways all → third_of ways ≡ factor third → root ≡ bits_of ways
    → bits ≡ bits_of all → ways_by third (root + (bits - root)) ≤ 16
few_ways ways all third root bits divided factors root_is bits_is =
    let rise = divided.bits in
    let sum : root + (bits - root) ≡ bits_of all = omega (arith, rise, root_is, bits_is) in
    let own : third ≡ (ways % 3 == 0) = third_is (ways % 3 == 0) third factors in
    subst (λ (k : ℕ). ways_by third k ≤ 16) (sym sum) (subst (λ (b : Bool). ways_by b (bits_of all) ≤ 16) (sym own) divided.few)

-- fewer bits make fewer ways
pub few_below : (third : Bool) (n m : ℕ) → n ≤ m → ways_by third m ≤ 16 → ways_by third n ≤ 16
few_below third n m less few =
    let up = mul-le (factor third) (2 ^ n) (factor third) (2 ^ m) (omega arith) (pow_mono {i = n} {j = m} less) in
    omega (arith, up, few)

-- ---- its code

code_at_most : (one : Bool) (code gran : ℕ) → gran ≡ (if one then 0 else code) → (one ≡ false → code ≤ 6) → gran ≤ 6
code_at_most true code gran is known = omega arith
code_at_most false code gran is known = let few = known refl in omega (arith, is, few)

pub found_gran_known : (s : System) (w : WindowFields) (found : Found) → IsSystem s → IsRegionIn s w found → found.gran ≤ 6
found_gran_known s w found system is =
    let all = told s w found system is in
    code_at_most (found.ways == 1) (range_code s w (region_range found)) found.gran is.code
    (λ many. elim all.code [
      | inl one ↦ absurd (eqb-false found.ways 1 many one)
      | inr few ↦ few
    ])

-- ---- its maps

usable_window : (s : System) (w : WindowFields) (r : Range) → window_for s r ≡ Some w → w.verdict ≡ Usable
usable_window s w r is =
    let within = find_passes (lies_within r) s.windows w is in
    let outer = and_parts (is_usable w.verdict && nat_le w.base r.base) (nat_le (r.base + r.size) (w.base + w.size)) within in
    let inner = and_parts (is_usable w.verdict) (nat_le w.base r.base) outer.0 in
    usable_is w.verdict inner.0

-- a window of more than one way gives its code to the region
many : (ways all times : ℕ) → 1 < ways → 0 < all → all ≡ ways * times → all ≡ 1 → ⊥
many ways all zero some positive product one = omega arith
many ways all (suc times) some positive product one = omega arith

pub root_code : (s : System) (w : WindowFields) (found : Found) → IsSystem s → IsRegionIn s w found → 1 < w.ways → found.gran ≡ w.gran
root_code s w found system is more =
    let all = told s w found system is in
    let some = some_ways found.ways (found_ways_known s w found is) in
    let test : (found.ways == 1) ≡ false = ne_eqb found.ways 1 (many w.ways found.ways all.times more some all.product) in
    let window : nat_lt 1 w.ways ≡ true = lt-ltb 1 w.ways more in
    is.code
    ∙ ap (λ (b : Bool). if b then 0 else range_code s w (region_range found)) test
    ∙ ap (λ (b : Bool). if b then w.gran else option_map_or (λ (d : Decoder). if decoder_ways d == 1 then 0 else d.gran) (first_decoder s (region_range found)) 0) window

no_maps : (gran ways : ℕ) (maps : List ℕ) → ways ≡ 1 → IsTrue (are_usable_maps gran (bits_of ways) maps)
no_maps gran ways maps one = subst (λ (n : ℕ). IsTrue (are_usable_maps gran (bits_of n) maps)) (sym one) refl

pub found_maps_usable : (s : System) (w : WindowFields) (found : Found) → IsSystem s → IsRegionIn s w found → IsTrue (is_ways w.ways)
    → (w.verdict ≡ Usable → IsTrue w.xor → IsTrue (are_usable_maps w.gran (bits_of w.ways) w.maps))
    → IsTrue w.xor → IsTrue (are_usable_maps found.gran (bits_of w.ways) w.maps)
found_maps_usable s w found system is known usable xor =
    let some = some_ways w.ways known in
    elim (cases_lt 1 w.ways) [
      | inl more ↦
          (let own = usable (usable_window s w (region_range found) is.window) xor in
          subst (λ (g : ℕ). IsTrue (are_usable_maps g (bits_of w.ways) w.maps)) (sym (root_code s w found system is more))
          own)
      | inr least ↦ no_maps found.gran w.ways w.maps (omega arith)
    ]

-- ---- four maps

abbrev pub front : List ℕ → List ℕ
front maps = get_or maps 0 0 ∷ get_or maps 1 0 ∷ get_or maps 2 0 ∷ get_or maps 3 0 ∷ []

four : (maps : List ℕ) → length maps ≡ 4 → front maps ≡ maps
four [] is = absurd (omega arith)
four (a ∷ []) is = absurd (omega arith)
four (a ∷ b ∷ []) is = absurd (omega arith)
four (a ∷ b ∷ c ∷ []) is = absurd (omega arith)
four (a ∷ b ∷ c ∷ d ∷ []) is = refl
four (a ∷ b ∷ c ∷ d ∷ e ∷ rest) is = absurd (omega arith)

pub usable_front : (gran k bits : ℕ) (maps own : List ℕ) → bits ≡ k → own ≡ maps → length maps ≡ 4 → IsTrue (are_usable_maps gran k maps)
    → IsTrue (are_usable_maps gran bits (front own))
usable_front gran k bits maps own bits_is is length_is usable =
    let same : front own ≡ maps = ap front is ∙ four maps length_is in
    subst (λ (n : ℕ). IsTrue (are_usable_maps gran n (front own))) (sym bits_is)
    (subst (λ (l : List ℕ). IsTrue (are_usable_maps gran k l)) (sym same) usable)
