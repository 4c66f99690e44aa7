-- Which replies have a text: what they name is there (this project's rule).
use Rattle.std.specs.Prelude.{◌≡◌, ◌≢◌, ℕ, ◌<◌, ◌≤◌, List, length, take, All}
use Rattle.cxl_span.specs.declared.allotting.SpanFault.TheVariants as span_faults
use Rattle.cxl_topo.specs.declared.node.Node.{Node}
use Rattle.cxl_model.specs.declared.found.Found.{Found}
use Rattle.cxl_model.specs.declared.plan.PlanFault.{PlanFault}
use Rattle.cxl_model.specs.declared.plan.PlanFault.TheVariants as plan_faults
use Rattle.cxl_model.specs.declared.plan.Reason.{Reason}
use Rattle.cxl_model.specs.declared.plan.Reason.TheVariants as reasons
pub use Rattle.cxl_model.specs.Poison.{region_of}
use Rattle.cxl_reply.specs.declared.reply.Reply.{Reply}
use Rattle.cxl_reply.specs.declared.reply.Reply.TheVariants as replies
use Rattle.cxl_reply.specs.declared.details.Downed.{Downed}
use Rattle.cxl_reply.specs.declared.details.Extents.{Extents}
use Rattle.cxl_reply.specs.declared.details.Report.{Report}
use Rattle.cxl_reply.specs.declared.details.Shown.{Shown}

-- it is the number of a node
abbrev pub IsNode : List Node → ℕ → Type 0
IsNode nodes n = n < length nodes

-- a region with a known granularity, over endpoints of the topology
pub record IsToldFound (nodes : List Node) (found : Found) : Type 0 where
  pub gran : found.gran ≤ 6
  pub endpoints : All (λ place. IsNode nodes place.endpoint) found.spans

-- a region with its decoders can be told: each stands in a node
pub record IsToldShown (nodes : List Node) (shown : Shown) : Type 0 where
  pub found : IsToldFound nodes shown.found
  pub rows : All (λ row. IsNode nodes row.node) shown.rows

-- a way down can be told: it has at most five ports, each of which is a node
pub record IsToldDown (nodes : List Node) (downed : Downed) : Type 0 where
  pub few : downed.len ≤ 5
  pub ports : All (λ via. IsNode nodes via.node) (take downed.len downed.via)
  pub endpoint : IsNode nodes downed.endpoint

-- one item of pieces for each record, and a name for each region
pub record IsToldReport (nodes : List Node) (report : Report) : Type 0 where
  pub endpoint : IsNode nodes report.endpoint
  pub pieces : length report.pieces ≡ length report.list.records
  pub regions : All (λ poisoned. All (λ part. region_of part < length report.names) poisoned.parts) report.pieces

-- the endpoints of at most sixteen slots
pub record AreToldSlots (nodes : List Node) (endpoints : List ℕ) : Type 0 where
  pub few : length endpoints ≤ 16
  pub each : All (IsNode nodes) endpoints

-- extents can be told: each is in one of the slots
pub record IsToldExtents (nodes : List Node) (extents : Extents) : Type 0 where
  pub slots : AreToldSlots nodes extents.endpoints
  pub each : All (λ extent. extent.slot < length extents.endpoints) extents.extents

-- a reason can be told: the node that it names is one
abbrev pub IsToldReason : List Node → Reason → Type 0
IsToldReason nodes (reasons.Select node) = IsNode nodes node
IsToldReason nodes (reasons.WaysCap node) = IsNode nodes node
IsToldReason nodes reason = Unit {0}

-- want of memory is no refusal, and that no decoder is left is another fault of a plan
abbrev pub IsToldFault : List Node → PlanFault → Type 0
IsToldFault nodes (plan_faults.Repeat endpoint) = IsNode nodes endpoint
IsToldFault nodes (plan_faults.Uneven node) = IsNode nodes node
IsToldFault nodes (plan_faults.NoDecoder node) = IsNode nodes node
IsToldFault nodes (plan_faults.Span endpoint fault) = IsNode nodes endpoint × (fault ≢ span_faults.NoDecoder)
IsToldFault nodes (plan_faults.NoWindow reasons) = All (IsToldReason nodes) reasons
IsToldFault nodes plan_faults.Memory = ⊥
IsToldFault nodes fault = Unit {0}

-- a reply about nodes of the topology
abbrev pub IsTold : List Node → Reply → Type 0
IsTold nodes (replies.Created named) = named.gran ≤ 6
IsTold nodes (replies.Shown shown) = IsToldShown nodes shown
IsTold nodes (replies.Down downed) = IsToldDown nodes downed
IsTold nodes (replies.Poison report) = IsToldReport nodes report
IsTold nodes (replies.Extents extents) = IsToldExtents nodes extents
IsTold nodes (replies.Spread spread) = AreToldSlots nodes spread.endpoints
IsTold nodes (replies.Locked spot) = IsNode nodes spot.node
IsTold nodes (replies.NotLast spot) = IsNode nodes spot.node
IsTold nodes (replies.Refused fault) = IsToldFault nodes fault
IsTold nodes reply = Unit {0}

-- what a short text needs: a granularity code that is one
abbrev pub HasKnownCode : Reply → Type 0
HasKnownCode (replies.Created named) = named.gran ≤ 6
HasKnownCode reply = Unit {0}
