-- Why there is no plan for a request, and why a window does not take one (this project's rules).
use Rattle.std.specs.Prelude.{◌≡◌, ℕ, ◌+◌, ◌<◌, ◌≤◌, Bool, true, false, not, List, [], length, slice_get, find, Contains, Option, Some, Err}
use Rattle.std.specs.List.{range_with_len}
use Rattle.cxl_enc.specs.Bits.{window_fixed}
use Rattle.cxl_enc.specs.Codes.{is_ways}
use Rattle.cxl_regs.specs.Words.{has_bit}
use Rattle.cxl_window.specs.Fields.{WindowFields}
use Rattle.cxl_window.specs.Position.{is_usable}
use Rattle.cxl_window.specs.Windows.{first_repeat}
use Rattle.cxl_span.specs.declared.allotting.Room.{Room}
use Rattle.cxl_span.specs.declared.allotting.SpanFault.{SpanFault}
use Rattle.cxl_span.specs.Allotting.{Allots}
use Rattle.cxl_model.specs.declared.request.Request.{Request}
use Rattle.cxl_model.specs.declared.plan.PlanFault.{PlanFault}
use Rattle.cxl_model.specs.declared.plan.PlanFault.TheVariants as faults
use Rattle.cxl_model.specs.declared.plan.Plan.{Plan}
use Rattle.cxl_model.specs.declared.plan.Reason.{Reason}
use Rattle.cxl_model.specs.declared.plan.Reason.TheVariants as reasons
use Rattle.cxl_model.specs.System.{System, decoders_at, ram_at, pmem_at}
use Rattle.cxl_model.specs.Rules.{permits}
use Rattle.cxl_model.specs.Plans.{IsLegalPlanIn}
use Rattle.cxl_legal.specs.Used.{request_ways}
use Rattle.cxl_legal.specs.Endpoints.{IsSize, share_of, is_uneven, lacks_decoder, HasRoom}
use Rattle.cxl_legal.specs.Windows.{FitsWindow, has_used_bridges, agrees_on_gran, can_select, can_have_ways}
use Rattle.cxl_legal.specs.Bases.{IsLeastBase}
use Rattle.cxl_legal.specs.Stated.{IsStatedPlan}

-- the node of the least number that passes
abbrev pub least : System → (ℕ → Bool) → Option ℕ
least s test = find test (range_with_len 0 (length s.nodes))

-- ---- windows

-- the region would end past the window, from the least base that it could have
pub record LacksRoom (s : System) (request : Request) (w : WindowFields) (room : Room) : Type 0 where
  pub start : IsLeastBase s request w room.start
  pub limit : room.limit ≡ w.base + w.size
  pub short : room.limit < room.start + request.size

-- the window takes the request from this base on, the least that it can have there
pub record TakesRequest (s : System) (request : Request) (w : WindowFields) (base : ℕ) : Type 0 where
  pub window : FitsWindow s request w
  pub least : IsLeastBase s request w base
  pub inside : base + request.size ≤ w.base + w.size

-- what each reason says of a window
abbrev pub SaysOfWindow : System → Request → WindowFields → Reason → Type 0
SaysOfWindow s request w reasons.Unusable = is_usable w.verdict ≡ false
SaysOfWindow s request w reasons.Kind = permits w request.kind ≡ false
SaysOfWindow s request w reasons.Fixed = has_bit w.restrict window_fixed ≡ true
SaysOfWindow s request w reasons.Bridges = has_used_bridges s request w ≡ false
SaysOfWindow s request w reasons.Gran = agrees_on_gran request.gran w ≡ false
SaysOfWindow s request w (reasons.Select n) = least s (λ m. not (can_select s request w m)) ≡ Some n
SaysOfWindow s request w (reasons.WaysCap n) = least s (λ m. not (can_have_ways s request m)) ≡ Some n
SaysOfWindow s request w (reasons.NoBase room) = LacksRoom s request w room

-- the order in which reasons are tried
abbrev pub turn_of_reason : Reason → ℕ
turn_of_reason reasons.Unusable = 0
turn_of_reason reasons.Kind = 1
turn_of_reason reasons.Fixed = 2
turn_of_reason reasons.Bridges = 3
turn_of_reason reasons.Gran = 4
turn_of_reason (reasons.Select n) = 5
turn_of_reason (reasons.WaysCap n) = 6
turn_of_reason (reasons.NoBase room) = 7

-- the reason holds of the window, and none that is tried before it does
pub record IsReason (s : System) (request : Request) (w : WindowFields) (reason : Reason) : Type 0 where
  pub holds : SaysOfWindow s request w reason
  pub first : (other : Reason) → SaysOfWindow s request w other → turn_of_reason reason ≤ turn_of_reason other

-- and it is the first of the table that does: each before it has a reason
pub record TakesFirst (s : System) (request : Request) (w : WindowFields) (base : ℕ) : Type 0 where
  pub takes : TakesRequest s request w base
  pub before : (v : WindowFields) → slice_get s.windows v.index ≡ Some v → v.index < w.index → (reason : Reason) × IsReason s request v reason

-- the plan is that which is stated in the first window that takes the request, at the least base there
pub record IsFirstPlan (s : System) (request : Request) (plan : Plan) : Type 0 where
  pub window : WindowFields
  pub first : TakesFirst s request window plan.found.base
  pub stated : IsStatedPlan s request window plan.found.base plan

-- no legal plan of the request stands in an earlier window, nor at a lower base in the same one
pub record IsLeastPlan (s : System) (request : Request) (plan : Plan) : Type 0 where
  pub window : (v : WindowFields) (other : Plan) → IsLegalPlanIn s request v other → plan.found.window ≤ v.index
  pub base : (v : WindowFields) (other : Plan) → IsLegalPlanIn s request v other → v.index ≡ plan.found.window → plan.found.base ≤ other.found.base

-- one reason for each window, in table order
pub record AreReasons (s : System) (request : Request) (reasons : List Reason) : Type 0 where
  pub count : length reasons ≡ length s.windows
  pub each : (i : ℕ) (w : WindowFields) (reason : Reason) → slice_get s.windows i ≡ Some w → slice_get reasons i ≡ Some reason → IsReason s request w reason

-- ---- requests

-- the endpoint gives no span, for this cause, and those of lower numbers do
pub record IsRefusedSpan (s : System) (request : Request) (m : ℕ) (fault : SpanFault) : Type 0 where
  pub asked : Contains request.endpoints m
  pub refused : Allots (decoders_at s m) (ram_at s m) (pmem_at s m) request.kind (share_of request) (Err fault)
  pub first : (other : ℕ) → Contains request.endpoints other → other < m → HasRoom s request other

-- what each fault says of a request
abbrev pub SaysOfRequest : System → Request → PlanFault → Type 0
SaysOfRequest s request (faults.Repeat m) = first_repeat [] request.endpoints ≡ Some m
SaysOfRequest s request (faults.Ways n) = (is_ways (request_ways request) ≡ false) × (n ≡ request_ways request)
SaysOfRequest s request faults.Size = IsSize request → ⊥
SaysOfRequest s request (faults.Uneven n) = least s (is_uneven s request) ≡ Some n
SaysOfRequest s request (faults.NoDecoder n) = least s (lacks_decoder s request) ≡ Some n
SaysOfRequest s request (faults.Span m fault) = IsRefusedSpan s request m fault
SaysOfRequest s request (faults.NoWindow reasons) = AreReasons s request reasons
SaysOfRequest s request faults.Memory = ⊥

-- the order in which faults are tried
abbrev pub turn_of_fault : PlanFault → ℕ
turn_of_fault (faults.Repeat m) = 0
turn_of_fault (faults.Ways n) = 1
turn_of_fault faults.Size = 2
turn_of_fault (faults.Uneven n) = 3
turn_of_fault (faults.NoDecoder n) = 4
turn_of_fault (faults.Span m fault) = 5
turn_of_fault (faults.NoWindow reasons) = 6
turn_of_fault faults.Memory = 7

-- The fault holds of the request, and none that is tried before it does: the first endpoint that stands twice; a number of
-- ways that no region has; the size; the least uneven node; the least node without a decoder left; the least endpoint
-- without room; one reason for each window.
pub record IsFirstPlanFault (s : System) (request : Request) (fault : PlanFault) : Type 0 where
  pub holds : SaysOfRequest s request fault
  pub first : (other : PlanFault) → SaysOfRequest s request other → turn_of_fault fault ≤ turn_of_fault other
