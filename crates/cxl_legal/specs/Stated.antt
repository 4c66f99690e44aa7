-- The plan that a planner gives for a request in a window at a base (this project's rules).
use Rattle.std.specs.Prelude.{◌≡◌, ℕ, ◌+◌, ◌-◌, ◌*◌, ◌/◌, ◌%◌, ◌^◌, ◌&&◌, not, max, Bool, true, false, if◌then◌else◌, List, [], ◌∷◌, length, map, filter, slice_get, Option, Some, option_and_then, IsSomeAnd}
use Rattle.std.specs.List.{range_with_len}
use Rattle.cxl_enc.specs.Codes.{bits_of}
use Rattle.cxl_topo.specs.Tree.{forwards_at, is_endpoint_at, is_port_at, child_of, bridge_with}
use Rattle.cxl_regs.specs.declared.decoder.Decoder.{Decoder}
use Rattle.cxl_regs.specs.Reading.{committed_count}
use Rattle.cxl_span.specs.Allotting.{cursor_of}
use Rattle.cxl_span.specs.Partitions.{partition_start}
use Rattle.cxl_window.specs.Fields.{WindowFields}
use Rattle.cxl_model.specs.declared.found.Place.{Place}
use Rattle.cxl_model.specs.declared.request.Request.{Request}
use Rattle.cxl_model.specs.declared.plan.Row.{Row}
use Rattle.cxl_model.specs.declared.plan.Plan.{Plan}
use Rattle.cxl_regs.specs.declared.reading.Range.{Range}
use Rattle.cxl_model.specs.System.{System, IsSystem, decoders_at, ram_at}
use Rattle.cxl_model.specs.Accepted.{IsAccepted}
use Rattle.cxl_model.specs.Regions.{target_position}
use Rattle.cxl_model.specs.Plans.{plan_code}
use Rattle.cxl_legal.specs.Endpoints.{FitsEndpoints}
use Rattle.cxl_legal.specs.Windows.{FitsWindow}
use Rattle.cxl_legal.specs.Bases.{FitsBase}
use Rattle.cxl_legal.specs.Used.{AreEndpoints, HasBytePorts, request_ways, is_used, used_ports, planned_ways, planned_ways_above, planned_code, planned_ways_code}

-- ---- rows

-- a target list: entry 0 in the lowest byte
abbrev pub targets_word : List ℕ → ℕ
targets_word [] = 0
targets_word (port ∷ ports) = port + 256 * targets_word ports

-- where the span of endpoint m starts: at the end of its last committed span, or where the kind's partition starts
abbrev pub stated_start : System → Request → ℕ → ℕ
stated_start s request m = max (cursor_of (decoders_at s m)) (partition_start request.kind (ram_at s m))

-- the used ports of a port in rising order, or the bytes that an endpoint skips
abbrev pub stated_tail : System → Request → ℕ → ℕ
stated_tail s request n =
    if is_endpoint_at s.nodes n then stated_start s request n - cursor_of (decoders_at s n)
    else targets_word (used_ports s request n)

-- what node n's decoder of the request holds at this base in this window
abbrev pub stated_decoder : System → Request → WindowFields → ℕ → ℕ → Decoder
stated_decoder s request w base n = record {
  base = base;
  size = request.size;
  ways = planned_ways_code s request n;
  gran = planned_code s request w n;
  lock = false;
  commit = false;
  committed = false;
  error = false;
  host_only = true;
  tail = stated_tail s request n;
}

-- the first decoder of node n that is not committed
abbrev pub stated_row : System → Request → WindowFields → ℕ → ℕ → Row
stated_row s request w base n = record {
  node = n;
  index = committed_count (decoders_at s n);
  decoder = stated_decoder s request w base n;
}

-- a used node that does not forward
abbrev pub has_row : System → Request → ℕ → Bool
has_row s request n = is_used s request n && not (forwards_at s.nodes n)

-- one row for each of them, in rising order
abbrev pub stated_rows : System → Request → WindowFields → ℕ → List Row
stated_rows s request w base =
    map (stated_row s request w base) (filter (has_row s request) (range_with_len 0 (length s.nodes)))

-- ---- spans

-- how many slots in a row share a used port of node n
abbrev pub planned_slots_an_entry : System → Request → WindowFields → ℕ → ℕ
planned_slots_an_entry s request w n = 2 ^ bits_of w.ways * planned_ways_above s request n

-- the used port of node n to which a slot belongs
abbrev pub planned_port : System → Request → WindowFields → ℕ → ℕ → Option ℕ
planned_port s request w slot n =
    slice_get (used_ports s request n) (slot / planned_slots_an_entry s request w n % planned_ways s request n)

-- from node n on, the used ports lead a slot to this endpoint
pub data Reaches (s : System) (request : Request) (w : WindowFields) (slot : ℕ) : ℕ → ℕ → Type 0 where
  at_endpoint : (m : ℕ) → is_endpoint_at s.nodes m ≡ true → Reaches s request w slot m m
  past_port : (n child m : ℕ) → is_port_at s.nodes n ≡ true → option_and_then (child_of s.nodes n) (planned_port s request w slot n) ≡ Some child → Reaches s request w slot child m → Reaches s request w slot n m

-- the place of a slot: from the window's target down to an endpoint, and there where its span starts
pub record IsStatedPlace (s : System) (request : Request) (w : WindowFields) (slot : ℕ) (place : Place) : Type 0 where
  pub bridge : ℕ
  pub target : IsSomeAnd (slice_get w.targets (target_position w slot)) (λ uid. bridge_with s.nodes uid ≡ Some bridge)
  pub reaches : Reaches s request w slot bridge place.endpoint
  pub start : place.start ≡ stated_start s request place.endpoint

-- ---- the plan

-- One row for each used node that does not forward, in its first decoder that is not committed: used ports in rising order,
-- or the skip to where the span starts.
pub record IsStatedPlan (s : System) (request : Request) (w : WindowFields) (base : ℕ) (plan : Plan) : Type 0 where
  pub name : plan.name ≡ request.name
  pub starts : plan.found.base ≡ base
  pub size : plan.found.size ≡ request.size
  pub window : plan.found.window ≡ w.index
  pub code : plan.found.gran ≡ plan_code request w (request_ways request)
  pub ways : plan.found.ways ≡ request_ways request
  pub kind : plan.found.kind ≡ request.kind
  pub slots : length plan.found.spans ≡ request_ways request
  pub places : (slot : ℕ) (place : Place) → slice_get plan.found.spans slot ≡ Some place → IsStatedPlace s request w slot place
  pub rows : plan.rows ≡ stated_rows s request w base

-- ---- a request that keeps all that it has to, over an accepted image

-- the range of a plan's rows
abbrev pub planned_range : Request → ℕ → Range
planned_range request base = record { base = base; size = request.size }

-- a request that keeps all this over an accepted image
pub record Fits (s : System) (request : Request) (w : WindowFields) (base : ℕ) : Type 0 where
  pub system : IsSystem s
  pub ports : HasBytePorts s.nodes
  pub accepted : IsAccepted s
  pub named : AreEndpoints s request
  pub endpoints : FitsEndpoints s request
  pub window : FitsWindow s request w
  pub starts : FitsBase s request w base
