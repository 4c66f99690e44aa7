-- The routes that are kept of a region: one for each slot, from which those of all its host bytes follow.
use Rattle.std.specs.Prelude.{◌≡◌, ℕ, ◌+◌, ◌-◌, ◌<◌, ◌≤◌, Vec, List, length, drop, replicate, slice_get, Option, Some, option_map}
use Rattle.std.specs.Global.{Global}
use Rattle.std.specs.List.{AllZip, filter_map, range_with_len}
use Rattle.std.specs.Option.{option_and_then}
use Rattle.cxl_topo.specs.declared.node.Node.{Node}
use Rattle.cxl_regs.specs.declared.reading.Range.{Range}
use Rattle.cxl_regs.specs.Reading.{decoder_ways}
use Rattle.cxl_window.specs.Fields.{WindowFields}
use Rattle.cxl_deal.specs.Weaves.{WeaveFields, dealt_slot, dealt_offset}
use Rattle.cxl_model.specs.declared.found.Found.{Found}
use Rattle.cxl_model.specs.System.{System, IsSystem}
use Rattle.cxl_model.specs.Chain.{Chain, Routed}
use Rattle.cxl_model.specs.Ranges.{decoder_for, index_for}
use Rattle.cxl_model.specs.Regions.{region_range, IsRegionIn, weave_fields}
use Rattle.cxl_walk.specs.declared.own.Own.{Own}
use Rattle.cxl_walk.specs.declared.route.Route.{Route}
use Rattle.cxl_walk.specs.Routes.{routing_of, no_step}

-- ---- a region's own decoders

-- the decoder of a range in node n
abbrev pub own_for : System → Range → ℕ → Option Own
own_for s r n =
    option_and_then (λ i. option_map (λ d. record { node = n; index = i; ways = decoder_ways d }) (decoder_for s r n)) (index_for s r n)

-- those of a region, in rising node order
abbrev pub own_decoders : System → Found → List Own
own_decoders s found = filter_map (own_for s (region_range found)) (range_with_len 0 (length s.nodes))

-- these lists are those of each region
abbrev pub AreOwnOfEach : System → List Found → List (Vec Own Global) → Type 0
AreOwnOfEach s founds owns = AllZip (λ found own. own.items ≡ own_decoders s found) founds owns

-- ---- what is kept

-- the region's weave, a route by slot, and its own decoders
pub record KeptFields : Type 0 where
  pub weave : WeaveFields
  pub routes : List Route
  pub own : List Own

-- the region's host byte that is dealt to the slot at offset 0
pub record IsFirstByte (found : Found) (w : WindowFields) (slot h : ℕ) : Type 0 where
  pub from : found.base ≤ h
  pub below : h < found.base + found.size
  pub of_slot : dealt_slot (weave_fields found w) h ≡ slot
  pub at_start : dealt_offset (weave_fields found w) h ≡ 0

-- the route of that byte, and zeros where it has no step
pub record IsSlotRoute (s : System) (w : WindowFields) (found : Found) (slot : ℕ) (route : Route) : Type 0 where
  pub first : ℕ
  pub is : IsFirstByte found w slot first
  pub chain : Chain s first (Routed (routing_of route))
  pub zeros : drop route.len route.steps ≡ replicate (5 - route.len) no_step

-- the region's weave, the route of each slot, and its own decoders
pub record IsKept (s : System) (w : WindowFields) (found : Found) (kept : KeptFields) : Type 0 where
  pub weave : kept.weave ≡ weave_fields found w
  pub count : length kept.routes ≡ found.ways
  pub each : (slot : ℕ) (route : Route) → slice_get kept.routes slot ≡ Some route → IsSlotRoute s w found slot route
  pub own : kept.own ≡ own_decoders s found

-- a region with these own decoders, over this tree, in this window
pub record IsOwnIn (s : System) (nodes : List Node) (w : WindowFields) (found : Found) (own : List Own) : Type 0 where
  pub system : IsSystem s
  pub tree : s.nodes ≡ nodes
  pub region : IsRegionIn s w found
  pub are : own ≡ own_decoders s found

-- so in one of these windows
pub record HasOwn (s : System) (nodes : List Node) (windows : List WindowFields) (found : Found) (own : List Own) : Type 0 where
  pub w : WindowFields
  pub among : s.windows ≡ windows
  pub is : IsOwnIn s nodes w found own

-- it is kept of a region that holds the address
pub record IsKeptOf (kept : KeptFields) (h : ℕ) : Type 0 where
  pub s : System
  pub w : WindowFields
  pub found : Found
  pub system : IsSystem s
  pub region : IsRegionIn s w found
  pub is : IsKept s w found kept
  pub from : found.base ≤ h
  pub below : h < found.base + found.size
