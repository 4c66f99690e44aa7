-- Images with the same decoders of a range deal the host bytes of its region the same routes.
use Rattle.std.proofs.Common.{◌≡◌, ℕ, ◌*◌, ◌/◌, ◌%◌, ◌^◌, List, map, reverse, Option, sym, ap, ◌∙◌}
use Rattle.std.specs.Prelude.{option_map}
use Rattle.std.specs.Option.{option_map_or}
use Rattle.std.specs.List.{filter_map}
use Rattle.cxl_enc.specs.Codes.{bits_of}
use Rattle.cxl_topo.specs.declared.node.Node.{Node}
use Rattle.cxl_topo.specs.Tree.{ports_above}
use Rattle.cxl_regs.specs.declared.decoder.Decoder.{Decoder}
use Rattle.cxl_regs.specs.declared.reading.Range.{Range}
use Rattle.cxl_regs.specs.Reading.{decoder_ways}
use Rattle.cxl_window.specs.Fields.{WindowFields}
use Rattle.cxl_deal.specs.Weaves.{dealt_slot}
use Rattle.cxl_model.specs.declared.chain.Step.{Step}
use Rattle.cxl_model.specs.declared.found.Found.{Found}
use Rattle.cxl_model.specs.System.{System}
use Rattle.cxl_model.specs.Chain.{Routing}
use Rattle.cxl_model.specs.Ranges.{index_for, product}
use Rattle.cxl_model.specs.Regions.{region_range, weave_fields}
use Rattle.cxl_model.specs.Dealing.{slot_steps, IsDealtRoute}
use Rattle.cxl_model.specs.Changes.{HaveSameOwnDecoders}
use Rattle.cxl_model.proofs.Outcomes.{one_value}
use Rattle.cxl_model.proofs.Staying.{firsts, ports_by}
use Rattle.cxl_model.proofs.DealingRoutes.{carried_once}

-- the steps of a slot, by what both images have
abbrev steps_by : WindowFields → ℕ → ℕ → List Node → (ℕ → Option Decoder) → (ℕ → Option ℕ) → List Step
steps_by w slot endpoint nodes decode number =
    reverse (filter_map
    (λ parent. option_map
    (λ i. record {
      node = parent.node;
      decoder = i;
      entry = slot / (2 ^ bits_of w.ways * product (map decoder_ways (ports_by nodes decode parent.node))) % option_map_or decoder_ways (decode parent.node) 1;
    })
    (number parent.node))
    (ports_above nodes endpoint))

same_steps : (s t : System) (r : Range) (w : WindowFields) (slot endpoint : ℕ) → HaveSameOwnDecoders s t r → slot_steps t w r slot endpoint ≡ slot_steps s w r slot endpoint
same_steps s t r w slot endpoint same =
    let nodes = same.nodes in
    λ k. steps_by w slot endpoint (nodes k) (λ n. (firsts s t r same n).found k) (λ n. (firsts s t r same n).place k)

pub turned : (s t : System) (r : Range) → HaveSameOwnDecoders s t r → HaveSameOwnDecoders t s r
turned s t r same = record { nodes = sym same.nodes; there = same.back; back = same.there }

pub dealt_stays : (s t : System) (w : WindowFields) (found : Found) (h : ℕ) (route : Routing) → HaveSameOwnDecoders s t (region_range found) → IsDealtRoute s w found h route
    → IsDealtRoute t w found h route
dealt_stays s t w found h route same dealt =
    record {
      window = dealt.window;
      position = dealt.position;
      slot = dealt.slot;
      steps = dealt.steps ∙ sym (same_steps s t (region_range found) w (dealt_slot (weave_fields found w) h) route.arrival.endpoint same);
      decoder = (firsts s t (region_range found) same route.arrival.endpoint).place ∙ dealt.decoder;
      base = dealt.base;
      place = dealt.place;
    }

-- a host byte is dealt one route
pub one_dealt : (s : System) (w : WindowFields) (found : Found) (h : ℕ) (a b : Routing) → IsDealtRoute s w found h a → IsDealtRoute s w found h b → a ≡ b
one_dealt s w found h a b one other =
    let r : Range = region_range found in
    let slot : ℕ = dealt_slot (weave_fields found w) h in
    let ends = carried_once found w h a.arrival.endpoint a.arrival.dpa b.arrival.endpoint b.arrival.dpa one.place other.place in
    let endpoint : a.arrival.endpoint ≡ b.arrival.endpoint = ends.0 in
    let dpa : a.arrival.dpa ≡ b.arrival.dpa = ends.1 in
    let window : a.window ≡ b.window = one.window ∙ sym other.window in
    let position : a.position ≡ b.position = one.position ∙ sym other.position in
    let steps : a.steps ≡ b.steps = one.steps ∙ ap (slot_steps s w r slot) endpoint ∙ sym other.steps in
    let decoder : a.arrival.decoder ≡ b.arrival.decoder =
    one_value (index_for s r b.arrival.endpoint) a.arrival.decoder b.arrival.decoder (ap (index_for s r) (sym endpoint) ∙ one.decoder) other.decoder in
    let base : a.arrival.base ≡ b.arrival.base = one.base ∙ sym other.base in
    λ k. record {
      window = window k;
      position = position k;
      steps = steps k;
      arrival = record { endpoint = endpoint k; decoder = decoder k; base = base k; dpa = dpa k };
    }
