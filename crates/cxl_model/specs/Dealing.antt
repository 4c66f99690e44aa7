-- The route of each host byte of a region, told by its slot on the tree (this project's rule).
use Rattle.std.specs.Prelude.{◌≡◌, ℕ, ◌/◌, ◌%◌, List, reverse, Option, option_map, Some}
use Rattle.std.specs.Option.{option_map_or}
use Rattle.std.specs.List.{filter_map}
use Rattle.cxl_topo.specs.Tree.{ports_above}
use Rattle.cxl_regs.specs.declared.reading.Range.{Range}
use Rattle.cxl_regs.specs.Reading.{decoder_ways}
use Rattle.cxl_window.specs.Fields.{WindowFields}
use Rattle.cxl_window.specs.Position.{position_of}
use Rattle.cxl_deal.specs.Weaves.{dealt_slot}
use Rattle.cxl_model.specs.declared.chain.Step.{Step}
use Rattle.cxl_model.specs.declared.found.Found.{Found}
use Rattle.cxl_model.specs.System.{System}
use Rattle.cxl_model.specs.Chain.{Routing}
use Rattle.cxl_model.specs.Ranges.{decoder_for, index_for}
use Rattle.cxl_model.specs.Regions.{target_position, slots_an_entry, region_range, weave_fields, Carries}

-- the entry of node n's list to which a slot belongs
abbrev pub slot_entry : System → WindowFields → Range → ℕ → ℕ → ℕ
slot_entry s w r slot n = slot / slots_an_entry s w r n % option_map_or decoder_ways (decoder_for s r n) 1

-- the step of a slot at node n, where that has a decoder of the range
abbrev pub slot_step : System → WindowFields → Range → ℕ → ℕ → Option Step
slot_step s w r slot n = option_map (λ i. record { node = n; decoder = i; entry = slot_entry s w r slot n }) (index_for s r n)

-- the steps of a slot on the way from the bridge down to an endpoint, each by the decoder of the range and the entry to
-- which the slot belongs
abbrev pub slot_steps : System → WindowFields → Range → ℕ → ℕ → List Step
slot_steps s w r slot endpoint = reverse (filter_map (λ parent. slot_step s w r slot parent.node) (ports_above s.nodes endpoint))

-- The route of a host byte h of a region: over the target and by the steps of its slot, to the byte to which the
-- region carries it.
pub record IsDealtRoute (s : System) (w : WindowFields) (found : Found) (h : ℕ) (route : Routing) : Type 0 where
  pub window : route.window ≡ w.index
  -- which is the window's position of h, too
  pub position : route.position ≡ position_of w h
  pub slot : route.position ≡ target_position w (dealt_slot (weave_fields found w) h)
  pub steps : route.steps ≡ slot_steps s w (region_range found) (dealt_slot (weave_fields found w) h) route.arrival.endpoint
  pub decoder : index_for s (region_range found) route.arrival.endpoint ≡ Some route.arrival.decoder
  pub base : route.arrival.base ≡ found.base
  pub place : Carries found w h route.arrival.endpoint route.arrival.dpa
