-- The addresses that come to a device byte, told by the endpoint's block.
use Rattle.std.proofs.Common.{◌≡◌, ℕ, zero, suc, ◌+◌, ◌-◌, ◌*◌, ◌/◌, ◌%◌, ◌<◌, ◌≤◌, true, List, length, Option, Some, None, refl, sym, ap, subst, ◌∙◌, inl, inr, arith}
use Rattle.std.specs.Prelude.{slice_get, nat_le, nat_lt, ◌&&◌, IfSome, IfNone}
use Rattle.std.proofs.Math.Nat.{mul-pos, mul-zero}
use Rattle.std.proofs.lemmas.Nat.{pow_pos}
use Rattle.std.proofs.lemmas.Bool.{false≢true, and_parts, leb-true, ltb-true, cases_lt}
use Rattle.std.proofs.lemmas.Option.{slice_get_within}
use Rattle.cxl_enc.proofs.Options.{some_and}
use Rattle.cxl_topo.specs.declared.node.Node.{Node}
use Rattle.cxl_topo.specs.Tree.{is_endpoint_at}
use Rattle.cxl_regs.specs.declared.decoder.Decoder.{Decoder}
use Rattle.cxl_regs.specs.Registers.{Registers}
use Rattle.cxl_regs.specs.Reading.{decoder_ways, decoder_granularity, span_length, holds_address}
use Rattle.cxl_span.specs.Spans.{span_start_of, span_end_of, endpoint_place_of}
use Rattle.cxl_span.specs.Breaches.{BlockKeeps}
use Rattle.cxl_image.specs.Images.{HasCapsOf}
use Rattle.cxl_model.specs.declared.chain.Miss.{Miss}
use Rattle.cxl_model.specs.System.{System, decoders_at, decoder_at, ram_at, pmem_at}
use Rattle.cxl_model.specs.Chain.{Arrival, Places, IsArrival, Routing, Routed, Missed}
use Rattle.cxl_model.proofs.DealingRanges.{arrives}
use Rattle.cxl_walk.specs.declared.upward.HostByte.{HostByte}
use Rattle.cxl_walk.specs.declared.spans.SpanByte.{SpanByte}
use Rattle.cxl_walk.specs.Hosts.{ComesTo, HasNoHost, IsLeastHost}
use Rattle.cxl_walk.specs.inner.WaysUp.{IsSpanByte, way_address, IsFirstWay}
use Rattle.cxl_walk.proofs.Places.{by_way, ways_rise}

-- ---- the route of an address

pub same_byte : (s : System) (ep dpa first h : ℕ) (routing : Routing) (comes : ComesTo s ep dpa first h) → Routed comes.routing ≡ Routed routing
    → (routing.arrival.endpoint ≡ ep) × (routing.arrival.dpa ≡ dpa)
same_byte s ep dpa first h routing comes is =
    let same : comes.routing ≡ routing = cc in (
      sym (ap (λ (r : Routing). r.arrival.endpoint) same) ∙ comes.endpoint,
      sym (ap (λ (r : Routing). r.arrival.dpa) same) ∙ comes.byte,
    )

pub not_missed : (routing : Routing) (miss : Miss) → Routed routing ≡ Missed miss → ⊥
not_missed routing miss is = cc

-- ---- the endpoint's block

-- decoder i of the block holds the address and sends it to the byte
record IsSent (block : Registers) (dpa h : ℕ) : Type 0 where
  i : ℕ
  d : Decoder
  there : slice_get block.decoders i ≡ Some d
  holds : holds_address d h ≡ true
  place : dpa ≡ endpoint_place_of (span_start_of block.decoders i) d h

module _ (s : System) (ep dpa first h : ℕ) (block : Registers) (there : slice_get s.blocks ep ≡ Some block) (comes : ComesTo s ep dpa first h) where
  at_endpoint : IsArrival s h ep comes.routing.arrival
  at_endpoint = subst (λ (n : ℕ). IsArrival s h n comes.routing.arrival) comes.endpoint (arrives s h comes.routing comes.chain)

  pub keeps : BlockKeeps block (ram_at s ep) (pmem_at s ep)
  keeps = rw there at at_endpoint.decodes.sound

  sent : IsSent block dpa h
  sent =
      let arrival : Arrival = comes.routing.arrival in
      let found = some_and (decoder_at s ep arrival.decoder) (Places s h ep arrival) at_endpoint.place in
      let d : Decoder = found.0 in
      let own : decoders_at s ep ≡ block.decoders = rw there refl in
      record {
        i = arrival.decoder;
        d = d;
        there = subst (λ (ds : List Decoder). slice_get ds arrival.decoder ≡ Some d) own found.1;
        holds = found.2.holds;
        place = sym comes.byte ∙ subst (λ (ds : List Decoder). arrival.dpa ≡ endpoint_place_of (span_start_of ds arrival.decoder) d h) own found.2.dpa;
      }

-- a node that is an endpoint has an endpoint's block
pub endpoint_there : (nodes : List Node) (n : ℕ) → is_endpoint_at nodes n ≡ true → (node : Node) × (slice_get nodes n ≡ Some node)
endpoint_there nodes n is = go (slice_get nodes n) refl
  where
    go : (o : Option Node) → slice_get nodes n ≡ o → (node : Node) × (slice_get nodes n ≡ Some node)
    go None e = absurd (false≢true (rw e at is))
    go (Some node) e = (node, e)

pub endpoint_block : (nodes : List Node) (blocks : List Registers) (n : ℕ) (block : Registers) → HasCapsOf blocks nodes → is_endpoint_at nodes n ≡ true
    → slice_get blocks n ≡ Some block → block.endpoint ≡ true
endpoint_block nodes blocks n block caps is there =
    let node = endpoint_there nodes n is in
    (caps.each n block node.0 there node.1).endpoint ∙ rw node.1 at is

-- ---- its spans

-- what the laws of spans say
pub record SpanLaws (block : Registers) : Type 0 where
  pub follow : (i j : ℕ) → i < j → j < length block.decoders → span_end_of block.decoders i ≤ span_start_of block.decoders j
  pub shares : (i : ℕ) (d : Decoder) → slice_get block.decoders i ≡ Some d → d.committed ≡ true → span_length d * decoder_ways d ≡ d.size
  pub into : (i h : ℕ) (d : Decoder) → slice_get block.decoders i ≡ Some d → holds_address d h ≡ true
      → endpoint_place_of (span_start_of block.decoders i) d h < span_start_of block.decoders i + span_length d

some_factor : (a w x : ℕ) → x < a * w → 0 < w
some_factor a zero x less = absurd (let none : a * 0 ≡ 0 = mul-zero a in omega (arith, none, less))
some_factor a (suc w) x less = omega arith

-- the span that holds the byte, and the way that the address goes
record IsFrom (block : Registers) (dpa h : ℕ) : Type 0 where
  i : ℕ
  d : Decoder
  along : ℕ
  way : ℕ
  is : IsSpanByte block.decoders dpa i d along
  address : h ≡ way_address d along way
  below : way < decoder_ways d

from_span : (block : Registers) (dpa h : ℕ) → SpanLaws block → IsSent block dpa h → IsFrom block dpa h
from_span block dpa h laws sent =
    let d : Decoder = sent.d in
    let g : ℕ = decoder_granularity d in
    let w : ℕ = decoder_ways d in
    let x : ℕ = h - d.base in
    let outer = and_parts (d.committed && nat_le d.base h) (nat_lt h (d.base + d.size)) sent.holds in
    let inner = and_parts d.committed (nat_le d.base h) outer.0 in
    let from : d.base ≤ h = leb-true d.base h inner.1 in
    let below : h < d.base + d.size = ltb-true h (d.base + d.size) outer.1 in
    let share : span_length d * w ≡ d.size = laws.shares sent.i d sent.there inner.0 in
    let less : x < span_length d * w = omega (arith, share, below, from) in
    let some_w : 0 < w = some_factor (span_length d) w x less in
    let some_g : 0 < g = mul-pos (omega arith) (pow_pos d.gran) in
    let along : ℕ = x / (g * w) * g + x % g in
    let way : ℕ = x / g % w in
    let inside = laws.into sent.i h d sent.there sent.holds in
    let told : x ≡ (along / g * w + way) * g + along % g = by_way g w x along some_g some_w refl in
    record {
      i = sent.i;
      d = d;
      along = along;
      way = way;
      is = record {
        there = sent.there;
        committed = inner.0;
        place = omega (arith, sent.place);
        within = omega (arith, inside);
      };
      address = omega (arith, told, from);
      below = mod-lt' x g w some_w;
    }
  where
    mod-lt' : (x g w : ℕ) → 0 < w → x / g % w < w
    mod-lt' x g w some = omega arith

-- spans share no byte
one_span : (block : Registers) (dpa i j a b : ℕ) (d e : Decoder) → SpanLaws block → IsSpanByte block.decoders dpa i d a → IsSpanByte block.decoders dpa j e b
    → (d ≡ e) × (a ≡ b)
one_span block dpa i j a b d e laws one other =
    elim (cases_lt i j) [
      | inl less ↦
          let past = laws.follow i j less (slice_get_within block.decoders j e other.there) in
          let ends : span_end_of block.decoders i ≡ span_start_of block.decoders i + span_length d = rw one.there refl in
          absurd (omega (arith, past, ends, one.place, one.within, other.place))
      | inr least ↦ elim (cases_lt j i) [
        | inl less ↦
            let past = laws.follow j i less (slice_get_within block.decoders i d one.there) in
            let ends : span_end_of block.decoders j ≡ span_start_of block.decoders j + span_length e = rw other.there refl in
            absurd (omega (arith, past, ends, one.place, other.within, other.place))
        | inr same ↦
            let here : i ≡ j = omega arith in
            let also : slice_get block.decoders i ≡ Some e = ap (λ (k : ℕ). slice_get block.decoders k) here ∙ other.there in
            let starts : span_start_of block.decoders i ≡ span_start_of block.decoders j = ap (λ (k : ℕ). span_start_of block.decoders k) here in
            (same_value d e (sym one.there ∙ also), omega (arith, starts, one.place, other.place))
      ]
    ]
  where
    same_value : (d e : Decoder) → Some d ≡ Some e → d ≡ e
    same_value d e is = cc

-- ---- the least address

module _ (s : System) (ep dpa : ℕ) (block : Registers) (there : slice_get s.blocks ep ≡ Some block) (laws : SpanLaws block) where
  from : (first h : ℕ) → ComesTo s ep dpa first h → IsFrom block dpa h
  from first h comes = from_span block dpa h laws (sent s ep dpa first h block there comes)

  pub no_span : ((i along : ℕ) (d : Decoder) → IsSpanByte block.decoders dpa i d along → ⊥) → HasNoHost s ep dpa
  no_span none = λ first h comes. let own = from first h comes in none own.i own.along own.d own.is

  module _ (byte : SpanByte) (at : (i : ℕ) × IsSpanByte block.decoders dpa i byte.decoder byte.along) where
    way_of : (first h : ℕ) → ComesTo s ep dpa first h → (way : ℕ) × (h ≡ way_address byte.decoder byte.along way) × (way < decoder_ways byte.decoder)
    way_of first h comes =
        let own = from first h comes in
        let same = one_span block dpa own.i at.0 own.along byte.along own.d byte.decoder laws own.is at.1 in (
          own.way,
          own.address ∙ ap (λ (d : Decoder). way_address d own.along own.way) same.0 ∙ ap (λ (a : ℕ). way_address byte.decoder a own.way) same.1,
          subst (λ (d : Decoder). own.way < decoder_ways d) same.0 own.below,
        )

    pub no_way : ((k first : ℕ) → k < decoder_ways byte.decoder → ComesTo s ep dpa first (way_address byte.decoder byte.along k) → ⊥) → HasNoHost s ep dpa
    no_way none = λ first h comes.
        let own = way_of first h comes in
        none own.0 first own.2 (subst (λ (a : ℕ). ComesTo s ep dpa first a) own.1 comes)

    least_of : (host : HostByte) → IsFirstWay s ep dpa byte host → IsLeastHost s ep dpa host
    least_of host is = record {
      comes = is.comes;
      least = λ first h comes.
          let own = way_of first h comes in
          elim (cases_lt own.0 is.way) [
            | inl earlier ↦ absurd (is.before own.0 first earlier (subst (λ (a : ℕ). ComesTo s ep dpa first a) own.1 comes))
            | inr later ↦
                let up = ways_rise byte.decoder.base (byte.along / decoder_granularity byte.decoder * decoder_ways byte.decoder) (decoder_granularity byte.decoder) (byte.along % decoder_granularity byte.decoder) is.way own.0 later in
                omega (arith, up, is.address, own.1)
          ];
    }

    pub least_host : (o : Option HostByte) → IfSome o (IsFirstWay s ep dpa byte) → IfSome o (IsLeastHost s ep dpa)
    least_host None is = tt
    least_host (Some host) is = least_of host is

    pub none_at_all : (o : Option HostByte) → IfNone o ((k first : ℕ) → k < decoder_ways byte.decoder → ComesTo s ep dpa first (way_address byte.decoder byte.along k) → ⊥) → IfNone o (HasNoHost s ep dpa)
    none_at_all None none = no_way none
    none_at_all (Some host) none = tt
