-- Where slots lead with the stated rows committed: over the used ports, to where an endpoint's span is stated to start.
use Rattle.std.proofs.Common.{◌≡◌, ℕ, ◌*◌, ◌/◌, ◌%◌, ◌^◌, true, false, Option, Some, None, refl, sym, ap, ◌∙◌, subst, inl, inr}
use Rattle.std.specs.Prelude.{slice_get, option_map, IsSomeAnd}
use Rattle.std.specs.Option.{option_map_or, option_and_then}
use Rattle.std.specs.List.{list_all}
use Rattle.std.proofs.lemmas.Bool.{cases_Bool, and_parts}
use Rattle.std.proofs.lemmas.Option.{none-some}
use Rattle.std.proofs.lemmas.List.Sums.{AllPass-from_list_all}
use Rattle.cxl_enc.specs.Codes.{bits_of}
use Rattle.cxl_enc.proofs.Lists.{All-at}
use Rattle.cxl_topo.specs.declared.node.Parent.{Parent}
use Rattle.cxl_topo.specs.Tree.{forwards_at, is_endpoint_at, is_port_at, child_of, bridge_with}
use Rattle.cxl_regs.specs.declared.decoder.Decoder.{Decoder}
use Rattle.cxl_regs.specs.Reading.{decoder_ways, entry_at}
use Rattle.cxl_span.specs.Spans.{span_start_of}
use Rattle.cxl_window.specs.Fields.{WindowFields}
use Rattle.cxl_topo.proofs.Trees.{port_no_endpoint}
use Rattle.cxl_model.specs.declared.found.Place.{Place}
use Rattle.cxl_model.specs.declared.request.Request.{Request}
use Rattle.cxl_model.specs.System.{System, decoders_at}
use Rattle.cxl_model.specs.Regions.{target_position, slots_an_entry, LeadsSlot, LeadsTo, past_forwarding, past_port, at_endpoint}
use Rattle.cxl_model.specs.Plans.{committed_row}
use Rattle.cxl_legal.specs.Used.{is_used, is_port_used, used_ports, planned_ways}
use Rattle.cxl_legal.specs.Windows.{is_used_bridge}
use Rattle.cxl_legal.specs.Stated.{stated_row, stated_start, planned_range, planned_slots_an_entry, planned_port}
use Rattle.cxl_legal.proofs.FittingUsed.{endpoint_own}
use Rattle.cxl_legal.proofs.StatedImages.{stated_image, Stated}
use Rattle.cxl_legal.proofs.UsedPorts.{ports_pass}
use Rattle.cxl_legal.proofs.StatedPorts.{ways_stated, entry_stated}
use Rattle.cxl_legal.proofs.StatedLands.{gets_row, row_decoder, row_index}
use Rattle.cxl_legal.proofs.StatedWays.{above_is}

-- ---- at an endpoint

pub ends_there : {s : System} {request : Request} {w : WindowFields} {base : ℕ} → Stated s request w base → (slot : ℕ) (place : Place) → is_endpoint_at s.nodes place.endpoint ≡ true → is_used s request place.endpoint ≡ true
    → place.start ≡ stated_start s request place.endpoint → LeadsTo (stated_image s request w base) w (planned_range request base) slot place.endpoint place
ends_there {s} {request} {w} {base} c slot place endpoint used start =
    at_endpoint place endpoint
    (subst (λ (o : Option ℕ). IsSomeAnd o (λ i. place.start ≡ span_start_of (decoders_at (stated_image s request w base) place.endpoint) i))
    (sym (row_index c place.endpoint (gets_row s request place.endpoint used (endpoint_own c.known place.endpoint endpoint))))
    (start ∙ sym (c.starts place.endpoint endpoint used)))

-- ---- past a port

-- the used port of a slot, and the child there
pub record Way (s : System) (request : Request) (w : WindowFields) (slot n child : ℕ) : Type 0 where
  pub port : ℕ
  pub planned : planned_port s request w slot n ≡ Some port
  pub stands : child_of s.nodes n port ≡ Some child
  pub used : is_used s request child ≡ true

pub way_of : (s : System) (request : Request) (w : WindowFields) (slot n child : ℕ) → option_and_then (child_of s.nodes n) (planned_port s request w slot n) ≡ Some child → Way s request w slot n child
way_of s request w slot n child is = go (planned_port s request w slot n) refl is
  where
    go : (o : Option ℕ) → planned_port s request w slot n ≡ o → option_and_then (child_of s.nodes n) o ≡ Some child → Way s request w slot n child
    go None at none = absurd (none-some child none)
    go (Some port) at stands =
        let used : is_port_used s request n port ≡ true =
        All-at (λ e. is_port_used s request n e ≡ true) (used_ports s request n) (slot / planned_slots_an_entry s request w n % planned_ways s request n) port at (ports_pass s request n) in
        record { port = port; planned = at; stands = stands; used = sym (ap (λ (o : Option ℕ). option_map_or (is_used s request) o false) stands) ∙ used }

leads_slot : {s : System} {request : Request} {w : WindowFields} {base : ℕ} → Stated s request w base → (slot n child : ℕ) → is_port_at s.nodes n ≡ true → forwards_at s.nodes n ≡ false → is_used s request n ≡ true → Way s request w slot n child
    → LeadsSlot (stated_image s request w base) w (planned_range request base) slot n child
leads_slot {s} {request} {w} {base} c slot n child port own used way =
    subst (λ (o : Option Decoder). IsSomeAnd o (λ d. child_of s.nodes n (entry_at d (slot / slots_an_entry (stated_image s request w base) w (planned_range request base) n % decoder_ways d)) ≡ Some child))
    (sym (row_decoder c n (gets_row s request n used own)))
    (ap (λ (k : ℕ). child_of s.nodes n (entry_at d (slot / (2 ^ bits_of w.ways * k) % decoder_ways d))) (above_is c n used).ways
    ∙ ap (λ (k : ℕ). child_of s.nodes n (entry_at d (slot / planned_slots_an_entry s request w n % k))) (ways_stated c n used)
    ∙ ap (child_of s.nodes n) (entry_stated c n (slot / planned_slots_an_entry s request w n % planned_ways s request n) way.port (port_no_endpoint s.nodes n port) way.planned)
    ∙ way.stands)
  where
    d : Decoder
    d = committed_row (stated_row s request w base n)

pub passes_on : {s : System} {request : Request} {w : WindowFields} {base : ℕ} → Stated s request w base → (slot n child : ℕ) (place : Place) → is_port_at s.nodes n ≡ true → is_used s request n ≡ true → Way s request w slot n child
    → LeadsTo (stated_image s request w base) w (planned_range request base) slot child place → LeadsTo (stated_image s request w base) w (planned_range request base) slot n place
passes_on {s} {request} c slot n child place port used way leads =
    elim (cases_Bool (forwards_at s.nodes n)) [
      | inl forwards ↦
          let parent = (c.known.laws.children n way.port child).0 way.stands in
          past_forwarding n child place forwards ((c.known.laws.only_children n child forwards).1 (ap (option_map (λ (p : Parent). p.node)) parent)) leads
      | inr own ↦ past_port n child place own port (leads_slot c slot n child port own used way) leads
    ]

-- ---- from the window's target

-- the bridge that is a target at some position is used
pub target_used : {s : System} {request : Request} {w : WindowFields} {base : ℕ} → Stated s request w base → (slot bridge : ℕ) → IsSomeAnd (slice_get w.targets (target_position w slot)) (λ uid. bridge_with s.nodes uid ≡ Some bridge)
    → is_used s request bridge ≡ true
target_used {s} {request} {w} c slot bridge target = go (slice_get w.targets (target_position w slot)) refl target
  where
    all : list_all (is_used_bridge s request) w.targets ≡ true
    all = (and_parts (list_all (is_used_bridge s request) w.targets) _ c.fits.window.bridges).0

    go : (o : Option ℕ) → slice_get w.targets (target_position w slot) ≡ o → IsSomeAnd o (λ uid. bridge_with s.nodes uid ≡ Some bridge) → is_used s request bridge ≡ true
    go None at none = absurd none
    go (Some uid) at found =
        sym (ap (λ (o : Option ℕ). option_map_or (is_used s request) o false) found)
        ∙ All-at (λ u. is_used_bridge s request u ≡ true) w.targets (target_position w slot) uid at (AllPass-from_list_all (is_used_bridge s request) w.targets all)
