-- Of one decoder, the addresses that come to one byte lie a whole number of granularities apart.
use Rattle.std.proofs.Common.{◌≡◌, ℕ, ◌+◌, ◌-◌, ◌*◌, ◌/◌, ◌%◌, ◌<◌, ◌≤◌, true, List, [], Option, Some, refl, sym, ap, subst, ◌∙◌, inl, inr, arith}
use Rattle.std.specs.Prelude.{slice_get, Contains, Result, Ok, Err}
use Rattle.std.specs.Option.{option_map_or}
use Rattle.std.specs.Result.{IsOk}
use Rattle.std.proofs.Math.Nat.{mul-pos, add-mul, one-mul, mul-le-mul_right}
use Rattle.std.proofs.lemmas.Nat.{pow_pos}
use Rattle.std.proofs.lemmas.Bool.{cases_lt}
use Rattle.std.proofs.lemmas.Option.{slice_get_within}
use Rattle.cxl_enc.proofs.Options.{some_and}
use Rattle.cxl_enc.proofs.Lists.{contains_none}
use Rattle.cxl_regs.specs.declared.decoder.Decoder.{Decoder}
use Rattle.cxl_regs.specs.Registers.{Registers, IsBlock}
use Rattle.cxl_regs.specs.Reading.{decoder_ways, decoder_granularity, span_length, entry_of, holds_address}
use Rattle.cxl_regs.proofs.DecoderRanges.{holds_parts}
use Rattle.cxl_span.specs.Spans.{span_start_of, span_end_of, endpoint_place_of}
use Rattle.cxl_model.specs.declared.chain.Miss.{Miss}
use Rattle.cxl_model.specs.System.{System, decoders_at, decoder_at}
use Rattle.cxl_model.specs.Chain.{Places, IsArrival, Routing, ChainEnd, Routed, Chain}
use Rattle.cxl_model.proofs.Outcomes.{one_value}
use Rattle.cxl_model.proofs.SpansShared.{InSpan, one_span, SpansFollow}
use Rattle.cxl_model.proofs.DealingSpans.{GoIntoSpans}
use Rattle.cxl_model.proofs.DealingRanges.{arrives}
use Rattle.cxl_walk.specs.declared.route.Route.{Route}
use Rattle.cxl_walk.specs.Routes.{chain_end_of}
use Rattle.cxl_walk.specs.Hosts.{ComesTo, HasNoHost}
use Rattle.cxl_walk.proofs.Comings.{not_missed, keeps}
use Rattle.cxl_walk.proofs.Places.{by_way}
use Rattle.cxl_trace.specs.HostLists.{Reaches, AreHostsOf}
use Rattle.cxl_trace.specs.inner.Candidates.{AreReached}

-- ---- numbers

-- two offsets that are put at one place differ in their ways alone, and the higher one is this far behind
record IsBehind (g w a b : ℕ) : Type 0 where
  k : ℕ
  few : k < w - a / g % w
  is : b ≡ a + k * g

between : (g w a b rows i j rest : ℕ) → 0 < g → a ≤ b → j < w → i ≡ a / g % w → a ≡ (rows + i) * g + rest → b ≡ (rows + j) * g + rest → IsBehind g w a b
between g w a b rows i j rest some up few way first second =
    elim (cases_lt j i) [
      | inl less ↦
          let more : (rows + j + 1) * g ≤ (rows + i) * g = mul-le-mul_right g (omega (arith, less)) in
          let sum = add-mul (rows + j) 1 g in
          let one = one-mul g in
          absurd (omega (arith, more, sum, one, first, second, up, some))
      | inr least ↦
          let m : ℕ = j - i in
          let on : rows + j ≡ rows + i + m = omega (arith, least) in
          let sum : (rows + j) * g ≡ (rows + i) * g + m * g = ap (λ (x : ℕ). x * g) on ∙ add-mul (rows + i) m g in
          record {
            k = m;
            few = omega (arith, least, few, way);
            is = omega (arith, first, second, sum);
          }
    ]

way_below : (w n : ℕ) → 0 < w → n % w < w
way_below w n some = omega arith

behind : (g w a b : ℕ) → 0 < g → 0 < w → a / (g * w) * g + a % g ≡ b / (g * w) * g + b % g → a ≤ b → IsBehind g w a b
behind g w a b some_g some_w same up =
    let along : ℕ = a / (g * w) * g + a % g in
    between g w a b (along / g * w) (a / g % w) (b / g % w) (along % g) some_g up (way_below w (b / g) some_w) refl
    (by_way g w a along some_g some_w refl) (by_way g w b along some_g some_w same)

-- ---- the route to a byte

pub is_routed : (s : System) (ep dpa first h : ℕ) (result : Result Route Miss) → ComesTo s ep dpa first h → ((outcome : ChainEnd) → Chain s h outcome → outcome ≡ chain_end_of result) → IsOk result
is_routed s ep dpa first h (Ok route) comes only = refl
is_routed s ep dpa first h (Err miss) comes only = absurd (not_missed comes.routing miss (only (Routed comes.routing) comes.chain))

-- the decoder by which it comes
pub record EndsBy (block : Registers) (i h : ℕ) : Type 0 where
  pub d : Decoder
  pub there : slice_get block.decoders i ≡ Some d
  pub holds : holds_address d h ≡ true

pub ends_by : (s : System) (ep h : ℕ) (block : Registers) → slice_get s.blocks ep ≡ Some block → (route : Routing) → Chain s h (Routed route) → route.arrival.endpoint ≡ ep
    → EndsBy block route.arrival.decoder h
ends_by s ep h block there route chain at =
    let i : ℕ = route.arrival.decoder in
    let arrival = subst (λ (n : ℕ). IsArrival s h n route.arrival) at (arrives s h route chain) in
    let found = some_and (decoder_at s ep i) (Places s h ep route.arrival) arrival.place in
    let own : decoders_at s ep ≡ block.decoders = rw there refl in
    record { d = found.0; there = subst (λ (ds : List Decoder). slice_get ds i ≡ Some found.0) own found.1; holds = found.2.holds }

end_is : (decoders : List Decoder) (i : ℕ) (d : Decoder) → slice_get decoders i ≡ Some d → span_end_of decoders i ≡ span_start_of decoders i + span_length d
end_is decoders i d there = ap (λ (o : Option Decoder). span_start_of decoders i + option_map_or span_length o 0) there

-- ---- the decoder of a byte

module _ (s : System) (ep dpa : ℕ) (block : Registers) (there : slice_get s.blocks ep ≡ Some block) (sound : IsBlock block) (endpoint : block.endpoint ≡ true) (follow : SpansFollow) (into : GoIntoSpans) (from : (start h : ℕ) (d : Decoder) → start ≤ endpoint_place_of start d h) where
  -- decoder i sends an address to the byte
  record IsSentBy (h i : ℕ) (d : Decoder) : Type 0 where
    at : decoder_at s ep i ≡ Some d
    holds : holds_address d h ≡ true
    place : dpa ≡ endpoint_place_of (span_start_of (decoders_at s ep) i) d h
    inside : InSpan (decoders_at s ep) i dpa

  sent : (first h : ℕ) (comes : ComesTo s ep dpa first h) → (d : Decoder) × IsSentBy h comes.routing.arrival.decoder d
  sent first h comes =
      let i : ℕ = comes.routing.arrival.decoder in
      let arrival = subst (λ (n : ℕ). IsArrival s h n comes.routing.arrival) comes.endpoint (arrives s h comes.routing comes.chain) in
      let found = some_and (decoder_at s ep i) (Places s h ep comes.routing.arrival) arrival.place in
      let d : Decoder = found.0 in
      let own : decoders_at s ep ≡ block.decoders = rw there refl in
      let in_block : slice_get block.decoders i ≡ Some d = subst (λ (ds : List Decoder). slice_get ds i ≡ Some d) own found.1 in
      let place : dpa ≡ endpoint_place_of (span_start_of (decoders_at s ep) i) d h = sym comes.byte ∙ found.2.dpa in
      let below = into block _ _ i h d sound (keeps s ep dpa first h block there comes) endpoint in_block found.2.holds in
      let below_own : endpoint_place_of (span_start_of (decoders_at s ep) i) d h < span_start_of (decoders_at s ep) i + span_length d =
      subst (λ (ds : List Decoder). endpoint_place_of (span_start_of ds i) d h < span_start_of ds i + span_length d) (sym own) below in
      let ends : span_end_of (decoders_at s ep) i ≡ span_start_of (decoders_at s ep) i + span_length d = end_is (decoders_at s ep) i d found.1 in
      let above = from (span_start_of (decoders_at s ep) i) h d in (
        d,
        record {
          at = found.1;
          holds = found.2.holds;
          place = place;
          inside = record {
            within = slice_get_within (decoders_at s ep) i d found.1;
            from = omega (arith, place, above);
            below = omega (arith, place, below_own, ends);
          };
        },
      )

  -- so sends any other address that comes to it
  sent_alike : (h first i : ℕ) (d : Decoder) → IsSentBy h i d → (other : ℕ) → ComesTo s ep dpa first other → IsSentBy other i d
  sent_alike h first i d own other comes =
      let also = sent first other comes in
      let j : ℕ = comes.routing.arrival.decoder in
      let e : Decoder = also.0 in
      let same : j ≡ i = one_span follow (decoders_at s ep) j i dpa also.1.inside own.inside in
      let moved : decoder_at s ep i ≡ Some e = ap (λ (k : ℕ). decoder_at s ep k) (sym same) ∙ also.1.at in
      let equal : e ≡ d = one_value (decoder_at s ep i) e d moved own.at in
      subst (λ (k : ℕ). IsSentBy other k d) same (subst (λ (x : Decoder). IsSentBy other j x) equal also.1)

  some_granularity : (d : Decoder) → 0 < decoder_granularity d
  some_granularity d = mul-pos (omega arith) (pow_pos d.gran)

  -- the address is so many granularities behind the least
  record IsOneOf (d : Decoder) (h other : ℕ) : Type 0 where
    k : ℕ
    few : k < decoder_ways d - entry_of d h
    is : other ≡ h + k * decoder_granularity d

  one_of : (h other i : ℕ) (d : Decoder) → 0 < decoder_ways d → h ≤ other → IsSentBy h i d → IsSentBy other i d → IsOneOf d h other
  one_of h other i d some up own also =
      let a = holds_parts d h own.holds in
      let b = holds_parts d other also.holds in
      let low = a.from in
      let high = b.from in
      let one = own.place in
      let two = also.place in
      let g : ℕ = decoder_granularity d in
      let w : ℕ = decoder_ways d in
      let same : (h - d.base) / (g * w) * g + (h - d.base) % g ≡ (other - d.base) / (g * w) * g + (other - d.base) % g = omega (arith, one, two) in
      let at = behind g w (h - d.base) (other - d.base) (some_granularity d) some same (omega (arith, up, low, high)) in
      let far = at.is in
      record { k = at.k; few = at.few; is = omega (arith, far, low, high) }

  pub all_hosts : (route : Routing) (h : ℕ) → Chain s h (Routed route) → route.arrival.endpoint ≡ ep → route.arrival.dpa ≡ dpa
      → (d : Decoder) → slice_get block.decoders route.arrival.decoder ≡ Some d → 0 < decoder_ways d
      → ((first other : ℕ) → ComesTo s ep dpa first other → h ≤ other)
      → (apart count : ℕ) → apart ≡ decoder_granularity d → count ≡ decoder_ways d - entry_of d h
      → (hosts : List ℕ) → AreReached s ep dpa h apart count hosts → AreHostsOf s ep dpa hosts
  all_hosts route h chain at byte d there_d some least apart count apart_is count_is hosts are =
      let comes : ComesTo s ep dpa route.arrival.base h = record { routing = route; chain = chain; endpoint = at; byte = byte; base = refl } in
      let i : ℕ = route.arrival.decoder in
      let first = sent route.arrival.base h comes in
      let own_is : decoder_at s ep i ≡ Some d = rw there there_d in
      let equal : first.0 ≡ d = one_value (decoder_at s ep i) first.0 d first.1.at own_is in
      let own : IsSentBy h i d = subst (λ (x : Decoder). IsSentBy h i x) equal first.1 in
      record {
        rising = are.rising;
        each = λ other. (
          are.only other,
          λ reaches.
              let also = sent_alike h reaches.0 i d own other reaches.1 in
              let one = one_of h other i d some (least reaches.0 other reaches.1) own also in
              let few = one.few in
              let far : other ≡ h + one.k * apart = one.is ∙ ap (λ (g : ℕ). h + one.k * g) (sym apart_is) in
              subst (λ (a : ℕ). Contains hosts a) (sym far) (are.all one.k (omega (arith, few, count_is)) (subst (λ (a : ℕ). Reaches s ep dpa a) far reaches)),
        );
      }

pub no_hosts : (s : System) (ep dpa : ℕ) → HasNoHost s ep dpa → AreHostsOf s ep dpa []
no_hosts s ep dpa none = record {
  rising = λ i j d less within. absurd (omega (arith, within));
  each = λ h. (λ has. absurd (contains_none h has), λ reaches. absurd (none reaches.0 h reaches.1));
}
