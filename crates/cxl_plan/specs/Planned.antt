-- What a request comes to over a system: the plan that is stated in the first window without a reason, at the least base
-- there, or else the first fault (this project's rules).
use Rattle.std.specs.Prelude.{ℕ, zero, suc, ◌+◌, ◌-◌, ◌*◌, ◌/◌, ◌==◌, nat_lt, max, ◌&&◌, not, if◌then◌else◌, [], ◌∷◌, map, filter, fold, find, length, slice_get, Option, Some, None, option_map, option_and_then, is_none, Result, Ok, Err}
use Rattle.std.specs.Bool.{then_some}
use Rattle.std.specs.List.{list_any, filter_map, range_with_len}
use Rattle.cxl_enc.specs.declared.caps.MemKind.TheVariants.{Ram}
use Rattle.cxl_enc.specs.Bits.{window_fixed}
use Rattle.cxl_enc.specs.Codes.{is_ways}
use Rattle.cxl_topo.specs.Tree.{is_endpoint_at, child_of, bridge_with}
use Rattle.cxl_regs.specs.Words.{has_bit}
use Rattle.cxl_span.specs.declared.allotting.Room.{Room}
use Rattle.cxl_span.specs.declared.allotting.SpanFault.{SpanFault}
use Rattle.cxl_span.specs.declared.allotting.SpanFault.TheVariants.{PastRam, NoRoom}
use Rattle.cxl_span.specs.Allotting.{cursor_of}
use Rattle.cxl_span.specs.Partitions.{partition_end}
use Rattle.cxl_window.specs.Fields.{WindowFields}
use Rattle.cxl_window.specs.Position.{is_usable}
use Rattle.cxl_window.specs.Windows.{first_repeat}
use Rattle.cxl_model.specs.declared.found.Place.{Place}
use Rattle.cxl_model.specs.declared.plan.Plan.{Plan}
use Rattle.cxl_model.specs.declared.plan.PlanFault.{PlanFault}
use Rattle.cxl_model.specs.declared.plan.PlanFault.TheVariants as faults
use Rattle.cxl_model.specs.declared.plan.Reason.{Reason}
use Rattle.cxl_model.specs.declared.plan.Reason.TheVariants as reasons
use Rattle.cxl_model.specs.declared.request.Request.{Request}
use Rattle.cxl_model.specs.Plans.{plan_code}
use Rattle.cxl_model.specs.Ranges.{same_kind}
use Rattle.cxl_model.specs.Regions.{target_position}
use Rattle.cxl_model.specs.Rules.{permits}
use Rattle.cxl_model.specs.System.{System, decoders_at, ram_at, pmem_at}
use Rattle.cxl_legal.specs.Firsts.{first_there}
use Rattle.cxl_legal.specs.Sizes.{is_size_for}
use Rattle.cxl_legal.specs.Used.{request_ways, is_used}
use Rattle.cxl_legal.specs.Endpoints.{share_of, is_uneven, lacks_decoder}
use Rattle.cxl_legal.specs.Windows.{has_used_bridges, agrees_on_gran, can_select, can_have_ways}
use Rattle.cxl_legal.specs.Bases.{last_end, base_step}
use Rattle.cxl_legal.specs.Stated.{stated_rows, stated_start, planned_port}
use Rattle.cxl_plan.specs.Faults.{least}

-- ---- the request and its nodes

-- what is left for the next span of endpoint m
abbrev pub next_room : System → Request → ℕ → Room
next_room s request m =
    record { start = stated_start s request m; limit = partition_end request.kind (ram_at s m) (pmem_at s m) }

-- the cursor stands past the ram that is asked for, or the span would end past its partition
abbrev pub refused_span : System → Request → ℕ → Option SpanFault
refused_span s request m =
    if same_kind request.kind Ram && nat_lt (ram_at s m) (cursor_of (decoders_at s m))
    then Some (PastRam (cursor_of (decoders_at s m)))
    else then_some (nat_lt (next_room s request m).limit ((next_room s request m).start + share_of request)) (NoRoom (next_room s request m))

-- where node m is a requested endpoint that gives no span
abbrev pub span_fault : System → Request → ℕ → Option PlanFault
span_fault s request m =
    if list_any (λ endpoint. endpoint == m) request.endpoints then option_map (faults.Span m) (refused_span s request m) else None

-- the first fault that does not speak of windows
abbrev pub fault_before_windows : System → Request → Option PlanFault
fault_before_windows s request = first_there (
    option_map faults.Repeat (first_repeat [] request.endpoints)
    ∷ then_some (not (is_ways (request_ways request))) (faults.Ways (request_ways request))
    ∷ then_some (not (is_size_for request.size (request_ways request))) faults.Size
    ∷ option_map faults.Uneven (least s (is_uneven s request))
    ∷ option_map faults.NoDecoder (least s (lacks_decoder s request))
    ∷ first_there (map (span_fault s request) (range_with_len 0 (length s.nodes)))
    ∷ []
    )

-- ---- windows

-- the end of all that is committed in the used nodes
abbrev pub used_end : System → Request → ℕ
used_end s request =
    fold (λ most n. max most (last_end s n)) 0 (filter (is_used s request) (range_with_len 0 (length s.nodes)))

-- the first base of the window at or past it
abbrev pub least_base : System → Request → WindowFields → ℕ
least_base s request w =
    w.base + (used_end s request - w.base + (base_step w - 1)) / base_step w * base_step w

-- from there to the window's end
abbrev pub room_in : System → Request → WindowFields → Room
room_in s request w = record { start = least_base s request w; limit = w.base + w.size }

-- the first reason why the window does not take the request
abbrev pub reason_of : System → Request → WindowFields → Option Reason
reason_of s request w = first_there (
    then_some (not (is_usable w.verdict)) reasons.Unusable
    ∷ then_some (not (permits w request.kind)) reasons.Kind
    ∷ then_some (has_bit w.restrict window_fixed) reasons.Fixed
    ∷ then_some (not (has_used_bridges s request w)) reasons.Bridges
    ∷ then_some (not (agrees_on_gran request.gran w)) reasons.Gran
    ∷ option_map reasons.Select (least s (λ m. not (can_select s request w m)))
    ∷ option_map reasons.WaysCap (least s (λ m. not (can_have_ways s request m)))
    ∷ then_some (nat_lt (room_in s request w).limit ((room_in s request w).start + request.size)) (reasons.NoBase (room_in s request w))
    ∷ []
    )

-- ---- the plan in a window

-- the endpoint to which the used ports lead a slot from node n on, over fewer than k levels
abbrev pub led_within : ℕ → System → Request → WindowFields → ℕ → ℕ → Option ℕ
led_within zero s request w slot n = None
led_within (suc k) s request w slot n =
    if is_endpoint_at s.nodes n then Some n
    else option_and_then (led_within k s request w slot) (option_and_then (child_of s.nodes n) (planned_port s request w slot n))

-- the place of a slot: from the window's target down to an endpoint, and there where its span starts
abbrev pub stated_place : System → Request → WindowFields → ℕ → Option Place
stated_place s request w slot =
    option_map (λ m. record { endpoint = m; start = stated_start s request m })
    (option_and_then (led_within (length s.nodes) s request w slot)
    (option_and_then (bridge_with s.nodes) (slice_get w.targets (target_position w slot))))

-- the plan that is stated there at a base
abbrev pub stated_plan : System → Request → WindowFields → ℕ → Plan
stated_plan s request w base = record {
  name = request.name;
  found = record {
    base = base;
    size = request.size;
    window = w.index;
    gran = plan_code request w (request_ways request);
    ways = request_ways request;
    kind = request.kind;
    spans = filter_map (stated_place s request w) (range_with_len 0 (request_ways request));
  };
  rows = stated_rows s request w base;
}

-- ---- the answer

-- in the first window without a reason; where there is none, the reason of each
abbrev pub in_first_window : System → Request → Option WindowFields → Result Plan PlanFault
in_first_window s request None = Err (faults.NoWindow (filter_map (reason_of s request) s.windows))
in_first_window s request (Some w) = Ok (stated_plan s request w (least_base s request w))

-- a fault that comes before all windows, or what the windows come to
abbrev pub unless_fault : System → Request → Option PlanFault → Result Plan PlanFault
unless_fault s request (Some fault) = Err fault
unless_fault s request None = in_first_window s request (find (λ w. is_none (reason_of s request w)) s.windows)

-- what a request comes to: its first fault, or the stated plan in the first window without a reason, at the least base there
abbrev pub planned : System → Request → Result Plan PlanFault
planned s request = unless_fault s request (fault_before_windows s request)
