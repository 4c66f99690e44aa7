-- On which image no session starts, and what is told of it.
use Rattle.std.specs.Prelude.{◌≡◌, ℕ, ◌<◌, List, length, codes}
use Rattle.cxl_inputs.specs.Outcome.{Outcome, one_piece}
use Rattle.cxl_inputs.specs.declared.status.Status.TheVariants.{Refused}
use Rattle.cxl_model.specs.Accepted.{IsAccepted, IsFirstBreach}
use Rattle.cxl_model.specs.Listed.{AreRegionsByBase, region_limit}
use Rattle.cxl_model.specs.System.{System}
use Rattle.cxl_model.specs.declared.found.Found.{Found}
use Rattle.cxl_reply.specs.Words.{line}
use Rattle.cxl_commands.specs.commands.Check.{broken}

-- there are more regions than may live
abbrev pub too_many_regions : Outcome
too_many_regions = one_piece Refused (line (codes "regions full"))

-- an image from which no session starts: its first breach is told, or that it has too many regions
pub data IsRefusedStart (s : System) (outcome : Outcome) : Type 0 where
  breach_told : (rule node decoder : ℕ) → IsFirstBreach s rule node decoder → outcome ≡ broken s.nodes rule node decoder → IsRefusedStart s outcome
  many_told : (regions : List Found) → IsAccepted s → AreRegionsByBase s regions → region_limit < length regions → outcome ≡ too_many_regions → IsRefusedStart s outcome
