-- A region carries its host bytes one to one onto its spans.
use Rattle.std.proofs.Common.{◌≡◌, ℕ, zero, suc, ◌+◌, ◌-◌, ◌*◌, ◌/◌, ◌%◌, ◌^◌, ◌<◌, ◌≤◌, Bool, true, false, not, ◌&&◌, if◌then◌else◌, length, get_or, Option, Some, None, refl, sym, ap, ◌∙◌, subst, inl, inr, arith, pow-add}
use Rattle.std.specs.Prelude.{slice_get, ◌==◌, nat_le, IsTrue, unwrap_or}
use Rattle.std.specs.Option.{option_map_or}
use Rattle.std.proofs.Math.Nat.{mul_comm, mul_assoc, mul_right_comm, mul-div_cancel_left, mul-mod_right, div-add-mod, pow-suc, mul-one}
use Rattle.std.proofs.lemmas.Bool.{cases_Bool, agree_below_at, and_parts, leb-true, eqb-true, eq-eqb, not-true, ne_eqb, false≢true}
use Rattle.std.proofs.lemmas.Option.{slice_get_within, slice_get-get_or}
use Rattle.cxl_enc.specs.Codes.{is_ways, third_of, bits_of, ways_of}
use Rattle.cxl_enc.specs.Caps.{targets_of}
use Rattle.cxl_enc.proofs.Options.{some_and as value_of}
use Rattle.cxl_enc.proofs.Tests.{asked}
use Rattle.cxl_topo.specs.declared.node.Node.{Node}
use Rattle.cxl_topo.specs.Kinds.{is_endpoint}
use Rattle.cxl_topo.specs.Tree.{is_port_at}
use Rattle.cxl_regs.specs.declared.decoder.Decoder.{Decoder}
use Rattle.cxl_regs.specs.Registers.{Registers}
use Rattle.cxl_regs.specs.Rules.{endpoint_ways_ok, port_ways_ok}
use Rattle.cxl_regs.specs.declared.reading.Range.{Range}
use Rattle.cxl_regs.specs.Reading.{decoder_ways, span_length}
use Rattle.cxl_span.specs.Breaches.{breaks as block_breaks, BlockKeeps}
use Rattle.cxl_span.specs.Rules.{breaks_codes}
use Rattle.cxl_window.specs.Fields.{WindowFields}
use Rattle.cxl_num.specs.Interleave.{chunk_size, ways_by}
use Rattle.cxl_topo.proofs.Trees.{KnownTree, up_tree, parent_is_port}
use Rattle.cxl_regs.proofs.DecoderRanges.{Has, has_parts}
use Rattle.cxl_deal.specs.Weaves.{WeaveFields, IsWeave, weave_ways, turns_end, dealt_slot, dealt_offset}
use Rattle.cxl_model.specs.declared.found.Found.{Found}
use Rattle.cxl_model.specs.declared.found.Place.{Place}
use Rattle.cxl_model.specs.System.{System, IsSystem, ram_at, pmem_at}
use Rattle.cxl_model.specs.Ranges.{serves, ways_above}
use Rattle.cxl_model.specs.Accepted.{IsWhole}
use Rattle.cxl_model.specs.Regions.{region_range, IsRegionIn, weave_fields, Carries}
use Rattle.cxl_model.specs.Bytes.{slot_length, LiesInSpan}
use Rattle.cxl_model.proofs.Outcomes.{one_value}
use Rattle.cxl_model.proofs.Weaving.{found_ways_known, first_reached, told, window_divides, found_gran_known, found_maps_usable}
use Rattle.cxl_model.proofs.RangeServers.{Reaches, has_ways, InBlock, in_block}
use Rattle.cxl_model.proofs.RangeRules.{block_keeps, ServesAt, served, no_decoder}
use Rattle.cxl_model.proofs.RangeCounts.{ways_below, ways_past, no_ways_above}
use Rattle.cxl_model.proofs.RangeWindows.{has_window}
use Rattle.cxl_model.proofs.SpansNumbers.{ways_are}
use Rattle.cxl_model.proofs.SpansApart.{power}
use Rattle.cxl_model.proofs.SpansKinds.{endpoint_block}
use Rattle.cxl_model.proofs.SpansPlaces.{some_and}
use Rattle.cxl_model.proofs.Spans.{slots_differ}

-- ---- powers of two

pub record IsPower (n : ℕ) : Type 0 where
  pub k : ℕ
  pub is : n ≡ 2 ^ k

power_times : (k m n : ℕ) → m ≡ 2 ^ k → IsPower n → IsPower (m * n)
power_times k m n is power = record { k = k + power.k; is = ap (λ (x : ℕ). x * n) is ∙ ap (λ (x : ℕ). 2 ^ k * x) power.is ∙ sym (pow-add 2 k power.k) }

-- three divides no power of two
no_third : (k : ℕ) → 2 ^ k % 3 ≡ 0 → ⊥
no_third zero is = omega arith
no_third (suc k) is =
    let less = no_third k in
    let up : 2 ^ suc k ≡ 2 ^ k * 2 = pow-suc 2 k in
    less (omega (arith, up, is))

-- ---- the ways of ports

-- K4: the ways of a port's decoder are a power of two
low_code : ℕ → Bool
low_code code = unwrap_or (ways_of code) 1 == 2 ^ code

port_code : (d : Decoder) → d.ways ≤ 3 → decoder_ways d ≡ 2 ^ d.ways
unfolding low_code
port_code d few = eqb-true (decoder_ways d) (2 ^ d.ways) (agree_below_at low_code (λ c. true) 4 d.ways refl (omega arith))

block_codes : (block : Registers) (ram pmem i : ℕ) (d : Decoder) → BlockKeeps block ram pmem → slice_get block.decoders i ≡ Some d → breaks_codes block d ≡ false
unfolding block_breaks
block_codes block ram pmem i d keeps at = rw at at (keeps.each 4 i)

few_codes : (block : Registers) (d : Decoder) → block.endpoint ≡ false → d.committed ≡ true → breaks_codes block d ≡ false → d.ways ≤ 3
few_codes block d port committed kept =
    let ways : Bool = if block.endpoint then endpoint_ways_ok block.cap d.ways else port_ways_ok block.cap d.ways in
    let parts = and_parts (nat_le d.gran 6) ways (asked d.committed (nat_le d.gran 6 && ways) kept committed) in
    let own : port_ways_ok block.cap d.ways ≡ true = sym (ap (λ b. if b then endpoint_ways_ok block.cap d.ways else port_ways_ok block.cap d.ways) port) ∙ parts.1 in
    leb-true d.ways 3 (and_parts (nat_le d.ways 3) (nat_le (2 ^ d.ways) (targets_of block.cap)) own).0

port_block : (s : System) (n : ℕ) (block : Registers) → IsSystem s → slice_get s.blocks n ≡ Some block → is_port_at s.nodes n ≡ true → block.endpoint ≡ false
port_block s n block system at port = go (slice_get s.nodes n) refl port
  where
    go : (o : Option Node) → slice_get s.nodes n ≡ o → option_map_or (λ node. not (is_endpoint node.kind)) o false ≡ true → block.endpoint ≡ false
    go None there is = absurd (false≢true is)
    go (Some node) there is = (system.caps.each n block node at there).endpoint ∙ not-true (is_endpoint node.kind) is

port_ways : (s : System) (r : Range) (n : ℕ) → IsSystem s → IsWhole s r → is_port_at s.nodes n ≡ true → (at : ServesAt s r n) → decoder_ways at.d ≡ 2 ^ at.d.ways
port_ways s r n system whole port at =
    port_code at.d (few_codes own.block at.d (port_block s n own.block system own.at port) (has_parts r at.d at.has).committed
    (block_codes own.block (ram_at s n) (pmem_at s n) at.i at.d (block_keeps s whole.blocks n own.block own.at) own.there))
  where
    own : InBlock s n at.i at.d
    own = in_block s n at.i at.d at.there

-- the ways of the ports above a node are a power of two together
power_above : (s : System) (r : Range) → IsSystem s → KnownTree s.nodes → IsWhole s r → (i : ℕ) → IsPower (ways_above s r i)
power_above s r system known whole =
    up_tree known (λ i. IsPower (ways_above s r i))
    (λ i none. record { k = 0; is = no_ways_above s r i known none })
    (λ i p some rest. elim (cases_Bool (serves s r p.node)) [
      | inl is ↦
          let at = served s r p.node is in
          subst IsPower (sym (ways_below s r known i p at.d some at.first))
          (power_times at.d.ways (decoder_ways at.d) (ways_above s r p.node) (port_ways s r p.node system whole (parent_is_port known i p some).1 at) rest)
      | inr other ↦ subst IsPower (sym (ways_past s r known i p some (no_decoder s r p.node other))) rest
    ])

-- ---- the ways of a region

-- a power of two times ways with a third has one, and times ways with none has none
same_third : (w k n : ℕ) → IsTrue (is_ways w) → n ≡ w * 2 ^ k → (n % 3 == 0) ≡ (w % 3 == 0)
same_third w k n known is =
    elim (cases_Bool (w % 3 == 0)) [
      | inl third ↦ eq-eqb (n % 3) 0 (multiple (eqb-true (w % 3) 0 third)) ∙ sym third
      | inr none ↦ ne_eqb (n % 3) 0 (λ whole. no_third (bits_of w + k) (ap (λ (x : ℕ). x % 3) (sym (as_power none)) ∙ whole)) ∙ sym none
    ]
  where
    multiple : w % 3 ≡ 0 → n % 3 ≡ 0
    multiple whole =
        let split : w ≡ 3 * (w / 3) = sym (div-add-mod w 3) ∙ ap (λ (x : ℕ). 3 * (w / 3) + x) whole ∙ omega arith in
        ap (λ (x : ℕ). x % 3) (is ∙ ap (λ (x : ℕ). x * 2 ^ k) split ∙ mul_assoc 3 (w / 3) (2 ^ k)) ∙ mul-mod_right 3 (w / 3 * 2 ^ k)

    alone : (w % 3 == 0) ≡ false → w ≡ 2 ^ bits_of w
    alone none = sym (ways_are w known) ∙ ap (λ b. 2 ^ bits_of w * (if b then 3 else 1)) none ∙ mul-one (2 ^ bits_of w)

    as_power : (w % 3 == 0) ≡ false → n ≡ 2 ^ (bits_of w + k)
    as_power none = is ∙ ap (λ (x : ℕ). x * 2 ^ k) (alone none) ∙ sym (pow-add 2 (bits_of w) k)

-- the ways of a region are its window's times a power of two
record Product (w : WindowFields) (found : Found) : Type 0 where
  k : ℕ
  is : found.ways ≡ w.ways * 2 ^ k

ways_product : (s : System) (w : WindowFields) (found : Found) → IsSystem s → KnownTree s.nodes → IsRegionIn s w found → Product w found
ways_product s w found system known is =
    let r : Range = region_range found in
    let end = first_reached s w found is in
    let ways = has_ways s w r end.n end.i end.d is.whole is.window end.serves in
    let power = power_above s r system known is.whole end.n in
    record { k = power.k; is = is.ways ∙ sym ways.ways ∙ ways.product ∙ ap (λ (x : ℕ). w.ways * x) power.is }

-- the ways of a region's weave are its ways
pub weave_is : (s : System) (w : WindowFields) (found : Found) → IsSystem s → KnownTree s.nodes → IsRegionIn s w found → weave_ways (weave_fields found w) ≡ found.ways
weave_is s w found system known is =
    let ways_known = (has_window s (region_range found) w system is.window).known.ways_known in
    let product = ways_product s w found system known is in
    let rise = (window_divides s w found system is ways_known).bits in
    let bits : bits_of w.ways + (bits_of found.ways - bits_of w.ways) ≡ bits_of found.ways = omega (arith, rise) in
    ap (λ (k : ℕ). ways_by (w.ways % 3 == 0) k) bits
    ∙ ap (λ b. ways_by b (bits_of found.ways)) (sym (same_third w.ways product.k found.ways ways_known product.is))
    ∙ mul_comm (third_of found.ways) (2 ^ bits_of found.ways)
    ∙ ways_are found.ways (found_ways_known s w found is)

-- ---- its weave

pub is_weave : (s : System) (w : WindowFields) (found : Found) → IsSystem s → KnownTree s.nodes → IsRegionIn s w found → IsWeave (weave_fields found w)
is_weave s w found system known is =
    let own = has_window s (region_range found) w system is.window in
    let ways_known = own.known.ways_known in
    let divided = window_divides s w found system is ways_known in
    let rise = divided.bits in
    let bits : bits_of w.ways + (bits_of found.ways - bits_of w.ways) ≡ bits_of found.ways = omega (arith, rise) in
    record {
      aligned = (told s w found system is).base;
      gran_known = found_gran_known s w found system is;
      few_ways = subst (λ (k : ℕ). ways_by (w.ways % 3 == 0) k ≤ 16) (sym bits) divided.few;
      maps_usable = λ xor. found_maps_usable s w found system is ways_known (λ usable. (own.known.usable usable).maps) xor;
    }

-- ---- its turns

-- what the law of spans says of their length
pub record SpansWhole : Type 0 where
  pub shares : (block : Registers) (ram pmem i : ℕ) (d : Decoder) → BlockKeeps block ram pmem → block.endpoint ≡ true → slice_get block.decoders i ≡ Some d → d.committed ≡ true
      → span_length d * decoder_ways d ≡ d.size
  pub length_aligned : (block : Registers) (ram pmem i : ℕ) (d : Decoder) → BlockKeeps block ram pmem → block.endpoint ≡ true → slice_get block.decoders i ≡ Some d → d.committed ≡ true
      → span_length d % 2 ^ 28 ≡ 0

-- a slot has a multiple of 256 MiB, and all slots together the region's bytes
pub record Shares (found : Found) : Type 0 where
  pub all : slot_length found * found.ways ≡ found.size
  pub aligned : slot_length found % 2 ^ 28 ≡ 0

pub shares : SpansWhole → (s : System) (w : WindowFields) (found : Found) → IsSystem s → IsRegionIn s w found → Shares found
shares spans s w found system is =
    record {
      all = ap (λ (n : ℕ). slot_length found * n) own_ways ∙ ap (λ (n : ℕ). n * decoder_ways d) (sym length_is)
          ∙ spans.shares own.block (ram_at s n) (pmem_at s n) end.i d keeps endpoint own.there has.committed ∙ has.size;
      aligned = ap (λ (k : ℕ). k % 2 ^ 28) (sym length_is) ∙ spans.length_aligned own.block (ram_at s n) (pmem_at s n) end.i d keeps endpoint own.there has.committed;
    }
  where
    end : Reaches s (region_range found)
    end = first_reached s w found is

    n : ℕ
    n = end.n

    d : Decoder
    d = end.d

    has : Has (region_range found) d
    has = has_parts (region_range found) d end.serves.has

    own : InBlock s n end.i d
    own = in_block s n end.i d end.serves.there

    own_ways : found.ways ≡ decoder_ways d
    own_ways = is.ways ∙ sym (has_ways s w (region_range found) n end.i d is.whole is.window end.serves).ways

    length_is : span_length d ≡ slot_length found
    length_is = ap (λ (x : ℕ). x / decoder_ways d) has.size ∙ ap (λ (x : ℕ). found.size / x) (sym own_ways)

    endpoint : own.block.endpoint ≡ true
    endpoint = endpoint_block s n own.block system own.at end.serves.endpoint

    keeps : BlockKeeps own.block (ram_at s n) (pmem_at s n)
    keeps = block_keeps s is.whole.blocks n own.block own.at

-- each granularity divides 256 MiB
abbrev fits_unit : ℕ → Bool
fits_unit gran = 2 ^ 28 == chunk_size gran * 2 ^ (20 - gran)

chunks_fit : (gran : ℕ) → gran ≤ 6 → 2 ^ 28 ≡ chunk_size gran * 2 ^ (20 - gran)
chunks_fit gran known = eqb-true (2 ^ 28) (chunk_size gran * 2 ^ (20 - gran)) (agree_below_at fits_unit (λ g. true) 7 gran refl (omega arith))

-- so many turns
abbrev pub turns : Found → ℕ
turns found = slot_length found / chunk_size found.gran

turns_fill : (found : Found) → found.gran ≤ 6 → slot_length found % 2 ^ 28 ≡ 0 → turns found * chunk_size found.gran ≡ slot_length found
turns_fill found known aligned =
    let chunk : ℕ = chunk_size found.gran in
    let units : ℕ = slot_length found / 2 ^ 28 in
    let times : ℕ = 2 ^ (20 - found.gran) * units in
    let split : slot_length found ≡ 2 ^ 28 * units = sym (div-add-mod (slot_length found) (2 ^ 28)) ∙ ap (λ (x : ℕ). 2 ^ 28 * units + x) aligned ∙ omega arith in
    let by_chunks : slot_length found ≡ chunk * times = split ∙ ap (λ (x : ℕ). x * units) (chunks_fit found.gran known) ∙ mul_assoc chunk (2 ^ (20 - found.gran)) units in
    let some : 0 < chunk = let up = power found.gran in omega (arith, up) in
    let quotient : turns found ≡ times = ap (λ (x : ℕ). x / chunk) by_chunks ∙ mul-div_cancel_left times some in
    ap (λ (x : ℕ). x * chunk) quotient ∙ mul_comm times chunk ∙ sym by_chunks

pub ends_with_turns : (s : System) (w : WindowFields) (found : Found) → IsSystem s → KnownTree s.nodes → IsRegionIn s w found → Shares found
    → turns_end (weave_fields found w) (turns found) ≡ found.base + found.size
ends_with_turns s w found system known is own =
    let filled = turns_fill found (found_gran_known s w found system is) own.aligned in
    ap (λ (k : ℕ). found.base + turns found * k * chunk_size found.gran) (weave_is s w found system known is)
    ∙ ap (λ (k : ℕ). found.base + k) (mul_right_comm (turns found) found.ways (chunk_size found.gran) ∙ ap (λ (k : ℕ). k * found.ways) filled ∙ own.all)

-- ---- the laws of dealing

pub record DealingLaws : Type 0 where
  pub tells : (w : WeaveFields) (h i : ℕ) → IsWeave w → w.base ≤ h → w.base ≤ i → dealt_slot w h ≡ dealt_slot w i → dealt_offset w h ≡ dealt_offset w i → h ≡ i
  pub slot : (w : WeaveFields) (h : ℕ) → dealt_slot w h < weave_ways w
  pub lands : (w : WeaveFields) (n h : ℕ) → w.base ≤ h → h < turns_end w n → dealt_offset w h < n * chunk_size w.gran
  pub hit : (w : WeaveFields) (n slot offset : ℕ) → IsWeave w → slot < weave_ways w → offset < n * chunk_size w.gran
      → (h : ℕ) × (w.base ≤ h) × (h < turns_end w n) × (dealt_slot w h ≡ slot) × (dealt_offset w h ≡ offset)

-- a host byte of a region with where it is carried
pub record Carried (found : Found) (w : WindowFields) (h endpoint dpa : ℕ) : Type 0 where
  pub place : Place
  pub at : slice_get found.spans (dealt_slot (weave_fields found w) h) ≡ Some place
  pub here : place.endpoint ≡ endpoint
  pub byte : place.start + dealt_offset (weave_fields found w) h ≡ dpa

pub carried : (found : Found) (w : WindowFields) (h endpoint dpa : ℕ) → Carries found w h endpoint dpa → Carried found w h endpoint dpa
carried found w h endpoint dpa carries =
    let own = value_of (slice_get found.spans (dealt_slot (weave_fields found w) h))
    (λ place. (place.endpoint ≡ endpoint) × (place.start + dealt_offset (weave_fields found w) h ≡ dpa)) carries.place in
    record { place = own.0; at = own.1; here = own.2.0; byte = own.2.1 }

-- no two host bytes are carried to one device byte
pub carried_apart : DealingLaws → (s : System) (w : WindowFields) (found : Found) (h i endpoint dpa : ℕ) → IsSystem s → KnownTree s.nodes → IsRegionIn s w found
    → Carries found w h endpoint dpa → Carries found w i endpoint dpa → h ≡ i
carried_apart laws s w found h i endpoint dpa system known is one other =
    let weave : WeaveFields = weave_fields found w in
    let a = carried found w h endpoint dpa one in
    let b = carried found w i endpoint dpa other in
    let slot = slots_differ s w found system known is (dealt_slot weave h) (dealt_slot weave i) a.place b.place a.at b.at (a.here ∙ sym b.here) in
    let place : a.place ≡ b.place = one_value (slice_get found.spans (dealt_slot weave i)) a.place b.place (ap (slice_get found.spans) (sym slot) ∙ a.at) b.at in
    let start : a.place.start ≡ b.place.start = ap (λ (p : Place). p.start) place in
    let a_byte = a.byte in
    let b_byte = b.byte in
    let offset : dealt_offset weave h ≡ dealt_offset weave i = omega (arith, start, a_byte, b_byte) in
    laws.tells weave h i (is_weave s w found system known is) one.from other.from slot offset

-- each host byte is carried
pub each_carried : DealingLaws → (s : System) (w : WindowFields) (found : Found) (h : ℕ) → IsSystem s → KnownTree s.nodes → IsRegionIn s w found
    → found.base ≤ h → h < found.base + found.size → (endpoint : ℕ) × (dpa : ℕ) × Carries found w h endpoint dpa
each_carried laws s w found h system known is from below =
    let weave : WeaveFields = weave_fields found w in
    let slot : ℕ = dealt_slot weave h in
    let few = laws.slot weave h in
    let ways = weave_is s w found system known is in
    let slots = is.slots in
    let within : slot < length found.spans = omega (arith, few, ways, slots) in
    let any : Place = record { endpoint = 0; start = 0 } in
    let place : Place = get_or found.spans slot any in (
      place.endpoint,
      place.start + dealt_offset weave h,
      record {
        from = from;
        below = below;
        place = some_and (slice_get found.spans slot) place (λ (p : Place). (p.endpoint ≡ place.endpoint) × (p.start + dealt_offset weave h ≡ place.start + dealt_offset weave h))
            (slice_get-get_or found.spans slot any within) (refl, refl);
      },
    )

-- it is carried into a span
pub carried_inside : DealingLaws → SpansWhole → (s : System) (w : WindowFields) (found : Found) (h endpoint dpa : ℕ) → IsSystem s → KnownTree s.nodes → IsRegionIn s w found
    → Carries found w h endpoint dpa → LiesInSpan found endpoint dpa
carried_inside laws spans s w found h endpoint dpa system known is carries =
    let weave : WeaveFields = weave_fields found w in
    let a = carried found w h endpoint dpa carries in
    let own = shares spans s w found system is in
    let end = ends_with_turns s w found system known is own in
    let before : h < turns_end weave (turns found) = subst (λ (n : ℕ). h < n) (sym end) carries.below in
    let lands = laws.lands weave (turns found) h carries.from before in
    let filled = turns_fill found (found_gran_known s w found system is) own.aligned in
    let byte = a.byte in
    record {
      slot = dealt_slot weave h;
      place = a.place;
      there = a.at;
      here = a.here;
      from = omega (arith, byte);
      below = omega (arith, byte, lands, filled);
    }

-- each byte of each span is carried there from some host byte
pub each_reached : DealingLaws → SpansWhole → (s : System) (w : WindowFields) (found : Found) (endpoint dpa : ℕ) → IsSystem s → KnownTree s.nodes → IsRegionIn s w found
    → LiesInSpan found endpoint dpa → (h : ℕ) × Carries found w h endpoint dpa
each_reached laws spans s w found endpoint dpa system known is lies =
    let weave : WeaveFields = weave_fields found w in
    let own = shares spans s w found system is in
    let end = ends_with_turns s w found system known is own in
    let ways = weave_is s w found system known is in
    let slots = is.slots in
    let slot_within = slice_get_within found.spans lies.slot lies.place lies.there in
    let few : lies.slot < weave_ways weave = omega (arith, slot_within, ways, slots) in
    let from = lies.from in
    let below = lies.below in
    let filled = turns_fill found (found_gran_known s w found system is) own.aligned in
    let offset : ℕ = dpa - lies.place.start in
    let hit = laws.hit weave (turns found) lies.slot offset (is_weave s w found system known is) few (omega (arith, from, below, filled)) in
    let h : ℕ = hit.0 in
    let slot_is = hit.3 in
    let offset_is = hit.4 in
    let byte : lies.place.start + dealt_offset weave h ≡ dpa = omega (arith, offset_is, from) in (
      h,
      record {
        from = hit.1;
        below = subst (λ (n : ℕ). h < n) end hit.2;
        place = some_and (slice_get found.spans (dealt_slot weave h)) lies.place (λ (p : Place). (p.endpoint ≡ endpoint) × (p.start + dealt_offset weave h ≡ dpa))
            (ap (slice_get found.spans) slot_is ∙ lies.there) (lies.here, byte);
      },
    )
