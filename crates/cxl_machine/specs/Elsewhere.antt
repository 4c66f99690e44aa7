-- What the answers of a session take from other subjects, in the words in which they speak of it: the plan of a request, poison
-- lists, extents and spreads.
use Rattle.std.specs.Prelude.{◌≡◌, Result}
use Rattle.cxl_model.specs.declared.plan.Plan.{Plan}
use Rattle.cxl_model.specs.declared.plan.PlanFault.{PlanFault}
use Rattle.cxl_model.specs.declared.request.Request.{Request}
use Rattle.cxl_model.specs.System.{System}
use Rattle.cxl_plan.specs.Planned.{planned}
pub use Rattle.cxl_poison.specs.Payload.{IsPoisonPayload, IsPoisonFault}
pub use Rattle.cxl_poison.specs.Pieces.{ArePoisonedPieces}
pub use Rattle.cxl_range.specs.Extents.{extents_of, spread_of}

-- a request over an image comes to this plan, or to this fault
abbrev pub Plans : System → Request → Result Plan PlanFault → Type 0
Plans s request answer = answer ≡ planned s request
