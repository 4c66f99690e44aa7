-- A slot's way down the tree is the way of each address that is dealt to it.
use Rattle.std.proofs.Common.{◌≡◌, ℕ, ◌+◌, ◌-◌, ◌*◌, ◌/◌, ◌%◌, ◌^◌, ◌<◌, ◌≤◌, true, false, List, [], ◌∷◌, ◌++◌, map, Option, Some, None, refl, sym, ap, ◌∙◌, subst, inl, inr, arith}
use Rattle.std.specs.Prelude.{nat_lt, nat_le, reverse, option_map, sum_by, IsSomeAnd}
use Rattle.std.specs.Option.{option_map_or}
use Rattle.std.specs.List.{filter_map, cons_option}
use Rattle.std.proofs.Math.Nat.{add-zero, mod-one}
use Rattle.std.proofs.lemmas.Bool.{le-leb, lt-ltb, cases_lt}
use Rattle.std.proofs.lemmas.Nat.{pow-add}
use Rattle.std.proofs.lemmas.List.{append_assoc, append-nil, reverse-append}
use Rattle.std.proofs.lemmas.List.Sums.{sum_by-cons}
use Rattle.cxl_enc.specs.Codes.{bits_of}
use Rattle.cxl_enc.proofs.Options.{some_and}
use Rattle.cxl_topo.specs.Tree.{forwards_at, is_port_at, child_of, least_child_of, ports_above}
use Rattle.cxl_topo.specs.Laws.{AreTreeLaws}
use Rattle.cxl_regs.specs.declared.decoder.Decoder.{Decoder}
use Rattle.cxl_regs.specs.declared.reading.Range.{Range}
use Rattle.cxl_regs.specs.Reading.{select_bits, decoder_ways, decoder_granularity, holds_address, entry_at, entry_of, has_range}
use Rattle.cxl_image.specs.Images.{HasCapsOf}
use Rattle.cxl_window.specs.Fields.{WindowFields}
use Rattle.cxl_regs.proofs.DecoderRanges.{Has, has_parts}
use Rattle.cxl_model.specs.declared.chain.Step.{Step}
use Rattle.cxl_model.specs.declared.found.Place.{Place}
use Rattle.cxl_model.specs.System.{System}
use Rattle.cxl_model.specs.Chain.{Arrival, Arrives, Chooses, IsStep, IsArrival, Walk, on_forwarding, on_step, at_end}
use Rattle.cxl_model.specs.Ranges.{decoder_for, window_for, ports_for, product, ways_above, bits_above, range_code}
use Rattle.cxl_model.specs.Accepted.{IsWhole}
use Rattle.cxl_model.specs.Regions.{slots_an_entry, LeadsTo, past_forwarding, past_port, at_endpoint}
use Rattle.cxl_model.specs.Dealing.{slot_entry, slot_step, slot_steps}
use Rattle.cxl_model.proofs.DealingNodes.{keeps_own_block, Owns, owns_decoder, owns_none, port_ways, port_code, under_port, under_forwarding, ports_below, steps_below}

-- what the way down rests on
pub record Given (s : System) (w : WindowFields) (r : Range) : Type 0 where
  pub laws : AreTreeLaws s.nodes
  pub caps : HasCapsOf s.blocks s.nodes
  pub whole : IsWhole s r
  pub window : window_for s r ≡ Some w

-- ---- ways and bits above a child

-- the ways above a node are as many as its bits above say
abbrev pub IsPower : System → Range → ℕ → Type 0
IsPower s r n = ways_above s r n ≡ 2 ^ bits_above s r n

-- a node with no decoder of the range adds nothing
pub record SameAbove (s : System) (w : WindowFields) (r : Range) (slot n child : ℕ) : Type 0 where
  pub ports : ports_for s r child ≡ ports_for s r n
  pub bits : bits_above s r child ≡ bits_above s r n
  pub power : IsPower s r n → IsPower s r child
  pub steps : slot_steps s w r slot child ≡ slot_steps s w r slot n

below_forwarding : (s : System) (w : WindowFields) (r : Range) (slot n child : ℕ) → Given s w r → forwards_at s.nodes n ≡ true
    → least_child_of s.nodes n ≡ Some child → SameAbove s w r slot n child
below_forwarding s w r slot n child given forwards first =
    let none = owns_none s r n given.whole forwards in
    let under = under_forwarding s n child given.laws forwards first in
    let ports : ports_for s r child ≡ ports_for s r n =
    ports_below s r n child given.laws under ∙ ap (λ (o : Option Decoder). cons_option o (ports_for s r n)) none.decoder in
    let bits : bits_above s r child ≡ bits_above s r n = ap (λ (ds : List Decoder). sum_by (λ d. select_bits d.ways) ds) ports in
    let step : slot_step s w r slot n ≡ None = ap (λ (o : Option ℕ). option_map (λ i. record { node = n; decoder = i; entry = slot_entry s w r slot n }) o) none.index in
    record {
      ports = ports;
      bits = bits;
      power = λ power. subst (λ (ds : List Decoder). product (map decoder_ways ds) ≡ 2 ^ sum_by (λ d. select_bits d.ways) ds) (sym ports) power;
      steps = steps_below s w r slot n child given.laws under
          ∙ ap (λ (o : Option Step). reverse (cons_option o (filter_map (λ parent. slot_step s w r slot parent.node) (ports_above s.nodes n)))) step;
    }

-- a port's decoder adds its ways, its bits and its step
pub record MoreAbove (s : System) (w : WindowFields) (r : Range) (slot n child i : ℕ) (d : Decoder) : Type 0 where
  pub bits : bits_above s r child ≡ select_bits d.ways + bits_above s r n
  pub power : IsPower s r n → IsPower s r child
  pub steps : slot_steps s w r slot child ≡ slot_steps s w r slot n ++ record { node = n; decoder = i; entry = slot / slots_an_entry s w r n % decoder_ways d } ∷ []

below_port : (s : System) (w : WindowFields) (r : Range) (slot n child i port : ℕ) (d : Decoder) → Given s w r → is_port_at s.nodes n ≡ true
    → decoder_for s r n ≡ Some d → Owns s r n i d → child_of s.nodes n port ≡ Some child → MoreAbove s w r slot n child i d
below_port s w r slot n child i port d given is_port own owns listed =
    let under = under_port s n port child given.laws listed in
    let ports : ports_for s r child ≡ d ∷ ports_for s r n =
    ports_below s r n child given.laws under ∙ ap (λ (o : Option Decoder). cons_option o (ports_for s r n)) own in
    let ways : decoder_ways d ≡ 2 ^ select_bits d.ways = port_ways s r n i d given.caps given.whole is_port owns in
    let above : List Step = filter_map (λ parent. slot_step s w r slot parent.node) (ports_above s.nodes n) in
    let entry : ℕ → ℕ = λ p. slot / slots_an_entry s w r n % p in
    let step : slot_step s w r slot n ≡ Some (record { node = n; decoder = i; entry = entry (decoder_ways d) }) =
    ap (λ (o : Option ℕ). option_map (λ j. record { node = n; decoder = j; entry = slot_entry s w r slot n }) o) owns.index
    ∙ ap (λ (o : Option Decoder). Some (record { node = n; decoder = i; entry = entry (option_map_or decoder_ways o 1) })) own in
    let bits : bits_above s r child ≡ select_bits d.ways + bits_above s r n =
    ap (λ (ds : List Decoder). sum_by (λ e. select_bits e.ways) ds) ports ∙ sum_by-cons (λ (e : Decoder). select_bits e.ways) d (ports_for s r n) in
    record {
      bits = bits;
      power = λ power.
          ap (λ (ds : List Decoder). product (map decoder_ways ds)) ports
          ∙ ap (λ (x : ℕ). x * ways_above s r n) ways
          ∙ ap (λ (x : ℕ). 2 ^ select_bits d.ways * x) power
          ∙ sym (ap (λ (x : ℕ). 2 ^ x) bits ∙ pow-add 2 (select_bits d.ways) (bits_above s r n));
      steps = steps_below s w r slot n child given.laws under
          ∙ ap (λ (o : Option Step). reverse (cons_option o above)) step
          ∙ reverse-append (record { node = n; decoder = i; entry = entry (decoder_ways d) } ∷ []) above;
    }

-- ---- the ways of the endpoint

-- the endpoint's ways above are a power, too
pub power_at_place : (s : System) (w : WindowFields) (r : Range) (slot n : ℕ) (place : Place) → Given s w r → LeadsTo s w r slot n place → IsPower s r n → IsPower s r place.endpoint
power_at_place s w r slot n place given (past_forwarding _ child _ forwards first leads) power =
    power_at_place s w r slot child place given leads ((below_forwarding s w r slot n child given forwards first).power power)
power_at_place s w r slot n place given (past_port _ child _ own port way leads) power =
    let found = some_and (decoder_for s r n) (λ (d : Decoder). child_of s.nodes n (entry_at d (slot / slots_an_entry s w r n % decoder_ways d)) ≡ Some child) way in
    let d : Decoder = found.0 in
    let owns = owns_decoder s r n d found.1 in
    let more = below_port s w r slot n child owns.0 (entry_at d (slot / slots_an_entry s w r n % decoder_ways d)) d given port found.1 owns.1 found.2 in
    power_at_place s w r slot child place given leads (more.power power)
power_at_place s w r slot n place given (at_endpoint _ endpoint start) power = power

-- ---- the way of an address

-- the address lies in the range, and the slot's digit behind the root's bits and so many more is that of its offset
pub record Deals (s : System) (w : WindowFields) (r : Range) (slot h endpoint gran : ℕ) : Type 0 where
  pub from : r.base ≤ h
  pub below : h < r.base + r.size
  pub digits : (above own rest : ℕ) → bits_above s r endpoint ≡ above + own + rest
      → slot / (2 ^ bits_of w.ways * 2 ^ above) % 2 ^ own ≡ (h - r.base) / (256 * 2 ^ (gran + bits_of w.ways + above)) % 2 ^ own
  pub code : 0 < bits_above s r endpoint → gran ≡ range_code s w r

pub in_range : (r : Range) (d : Decoder) (h : ℕ) → has_range r d ≡ true → r.base ≤ h → h < r.base + r.size → holds_address d h ≡ true
in_range r d h has from below =
    let parts = has_parts r d has in
    let base = parts.base in
    let size = parts.size in
    let committed = parts.committed in
    let low : nat_le d.base h ≡ true = le-leb d.base h (omega arith) in
    let high : nat_lt h (d.base + d.size) ≡ true = lt-ltb h (d.base + d.size) (omega arith) in
    rw (committed, low, high) refl

-- in one way there is one entry
one_entry : (s : System) (w : WindowFields) (r : Range) (slot h n : ℕ) (d : Decoder) → decoder_ways d ≡ 1 → slot / slots_an_entry s w r n % decoder_ways d ≡ entry_of d h
one_entry s w r slot h n d one =
    ap (λ (p : ℕ). slot / slots_an_entry s w r n % p) one ∙ mod-one (slot / slots_an_entry s w r n)
    ∙ sym (ap (λ (p : ℕ). (h - d.base) / decoder_granularity d % p) one ∙ mod-one ((h - d.base) / decoder_granularity d))

-- with the code of the range, the entry of the slot is that of the address
entry_by_code : (s : System) (w : WindowFields) (r : Range) (slot h n endpoint gran below : ℕ) (d : Decoder)
    → Deals s w r slot h endpoint gran → IsPower s r n → Has r d → decoder_ways d ≡ 2 ^ select_bits d.ways
    → bits_above s r endpoint ≡ bits_above s r n + select_bits d.ways + below → d.gran ≡ gran + bits_of w.ways + bits_above s r n
    → slot / slots_an_entry s w r n % decoder_ways d ≡ entry_of d h
entry_by_code s w r slot h n endpoint gran below d deals power has ways sum code =
    let own : ℕ = select_bits d.ways in
    let o : ℕ = h - r.base in
    ap (λ (p : ℕ). slot / slots_an_entry s w r n % p) ways
    ∙ ap (λ (x : ℕ). slot / (2 ^ bits_of w.ways * x) % 2 ^ own) power
    ∙ deals.digits (bits_above s r n) own below sum
    ∙ sym (ap (λ (b : ℕ). (h - b) / decoder_granularity d % decoder_ways d) has.base
    ∙ ap (λ (p : ℕ). o / decoder_granularity d % p) ways
    ∙ ap (λ (g : ℕ). o / (256 * 2 ^ g) % 2 ^ own) code)

entry_same : (s : System) (w : WindowFields) (r : Range) (slot h n i endpoint gran below : ℕ) (d : Decoder) → Given s w r
    → Deals s w r slot h endpoint gran → IsPower s r n → is_port_at s.nodes n ≡ true → Owns s r n i d
    → bits_above s r endpoint ≡ bits_above s r n + select_bits d.ways + below
    → slot / slots_an_entry s w r n % decoder_ways d ≡ entry_of d h
entry_same s w r slot h n i endpoint gran below d given deals power port owns sum =
    let ways : decoder_ways d ≡ 2 ^ select_bits d.ways = port_ways s r n i d given.caps given.whole port owns in
    let has = has_parts r d owns.has in
    elim (port_code s w r n i d given.whole given.window port owns) [
      | inl one ↦ one_entry s w r slot h n d one
      | inr code ↦ elim (cases_lt 0 (select_bits d.ways)) [
        | inl some ↦
            let gran_is = deals.code (omega (arith, sum, some)) in
            entry_by_code s w r slot h n endpoint gran below d deals power has ways sum (omega (arith, code, gran_is))
        | inr few ↦
            let none : select_bits d.ways ≡ 0 = omega arith in
            one_entry s w r slot h n d (ways ∙ ap (λ (b : ℕ). 2 ^ b) none)
      ]
    ]

-- ---- the walk

-- from node n on the address goes by the rest of the slot's steps to the endpoint
pub record GoesDown (s : System) (w : WindowFields) (r : Range) (slot h n endpoint : ℕ) (arrival : Arrival) : Type 0 where
  pub steps : List Step
  pub walk : Walk s h n steps (Arrives arrival)
  pub all : slot_steps s w r slot n ++ steps ≡ slot_steps s w r slot endpoint
  pub below : ℕ
  pub sum : bits_above s r endpoint ≡ bits_above s r n + below

past : (s : System) (w : WindowFields) (r : Range) (slot h n child endpoint : ℕ) (arrival : Arrival) → forwards_at s.nodes n ≡ true
    → least_child_of s.nodes n ≡ Some child → SameAbove s w r slot n child → GoesDown s w r slot h child endpoint arrival → GoesDown s w r slot h n endpoint arrival
past s w r slot h n child endpoint arrival forwards first same goes = record {
  steps = goes.steps;
  walk = on_forwarding n child goes.steps (Arrives arrival) (forwards, first) goes.walk;
  all = ap (λ (steps : List Step). steps ++ goes.steps) (sym same.steps) ∙ goes.all;
  below = goes.below;
  sum = goes.sum ∙ ap (λ (b : ℕ). b + goes.below) same.bits;
}

is_step : (s : System) (w : WindowFields) (r : Range) (slot h n child i : ℕ) (d : Decoder) → IsWhole s r → r.base ≤ h → h < r.base + r.size
    → is_port_at s.nodes n ≡ true → forwards_at s.nodes n ≡ false → Owns s r n i d → slot / slots_an_entry s w r n % decoder_ways d ≡ entry_of d h
    → child_of s.nodes n (entry_at d (slot / slots_an_entry s w r n % decoder_ways d)) ≡ Some child
    → IsStep s h n (record { node = n; decoder = i; entry = slot / slots_an_entry s w r n % decoder_ways d }) child
is_step s w r slot h n child i d whole from below port own owns same listed =
    let entry : ℕ = slot / slots_an_entry s w r n % decoder_ways d in
    let chooses : Chooses s h n d entry (Some child) = record { holds = in_range r d h owns.has from below; sends = same; listed = listed } in
    record {
      here = refl;
      port = port;
      decodes = record { own = own; sound = keeps_own_block s n whole.blocks };
      choice = subst (λ (o : Option Decoder). IsSomeAnd o (λ e. Chooses s h n e entry (Some child))) (sym owns.there) chooses;
    }

by_port : (s : System) (w : WindowFields) (r : Range) (slot h n child i port endpoint gran : ℕ) (d : Decoder) (arrival : Arrival) → Given s w r
    → Deals s w r slot h endpoint gran → IsPower s r n → is_port_at s.nodes n ≡ true → forwards_at s.nodes n ≡ false → Owns s r n i d
    → child_of s.nodes n (entry_at d (slot / slots_an_entry s w r n % decoder_ways d)) ≡ Some child → MoreAbove s w r slot n child i d
    → GoesDown s w r slot h child endpoint arrival → GoesDown s w r slot h n endpoint arrival
by_port s w r slot h n child i port endpoint gran d arrival given deals power is_port own owns listed more goes =
    let step : Step = record { node = n; decoder = i; entry = slot / slots_an_entry s w r n % decoder_ways d } in
    let bits = more.bits in
    let under = goes.sum in
    let sum : bits_above s r endpoint ≡ bits_above s r n + select_bits d.ways + goes.below = omega (arith, bits, under) in
    let same = entry_same s w r slot h n i endpoint gran goes.below d given deals power is_port owns sum in
    record {
      steps = step ∷ goes.steps;
      walk = on_step n child step goes.steps (Arrives arrival) (is_step s w r slot h n child i d given.whole deals.from deals.below is_port own owns same listed) goes.walk;
      all = sym (append_assoc (slot_steps s w r slot n) (step ∷ []) goes.steps) ∙ ap (λ (steps : List Step). steps ++ goes.steps) (sym more.steps) ∙ goes.all;
      below = select_bits d.ways + goes.below;
      sum = omega (arith, sum);
    }

pub goes_down : (s : System) (w : WindowFields) (r : Range) (slot h n gran : ℕ) (place : Place) (arrival : Arrival) → Given s w r
    → Deals s w r slot h place.endpoint gran → IsArrival s h place.endpoint arrival → LeadsTo s w r slot n place → IsPower s r n
    → GoesDown s w r slot h n place.endpoint arrival
goes_down s w r slot h n gran place arrival given deals arrives (past_forwarding _ child _ forwards first leads) power =
    let same = below_forwarding s w r slot n child given forwards first in
    past s w r slot h n child place.endpoint arrival forwards first same
    (goes_down s w r slot h child gran place arrival given deals arrives leads (same.power power))
goes_down s w r slot h n gran place arrival given deals arrives (past_port _ child _ own port way leads) power =
    let found = some_and (decoder_for s r n) (λ (d : Decoder). child_of s.nodes n (entry_at d (slot / slots_an_entry s w r n % decoder_ways d)) ≡ Some child) way in
    let d : Decoder = found.0 in
    let owns = owns_decoder s r n d found.1 in
    let listed : ℕ = entry_at d (slot / slots_an_entry s w r n % decoder_ways d) in
    let more = below_port s w r slot n child owns.0 listed d given port found.1 owns.1 found.2 in
    by_port s w r slot h n child owns.0 listed place.endpoint gran d arrival given deals power port own owns.1 found.2 more
    (goes_down s w r slot h child gran place arrival given deals arrives leads (more.power power))
goes_down s w r slot h n gran place arrival given deals arrives (at_endpoint _ endpoint start) power = record {
  steps = [];
  walk = at_end place.endpoint (Arrives arrival) arrives;
  all = append-nil (slot_steps s w r slot place.endpoint);
  below = 0;
  sum = sym (add-zero (bits_above s r place.endpoint));
}
