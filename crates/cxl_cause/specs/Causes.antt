-- Why a decoder breaks a rule, and all places of the first broken rule with their causes (this project's rules).
use Rattle.std.specs.Prelude.{◌≡◌, ℕ, ◌==◌, nat_lt, if◌then◌else◌, List, map, All, Option, Some, None}
use Rattle.std.specs.Option.{option_and_then}
use Rattle.cxl_regs.specs.declared.decoder.Decoder.{Decoder}
use Rattle.cxl_model.specs.System.{System, decoder_at}
use Rattle.cxl_check.specs.Breaches.{AreFirstBreaches}
use Rattle.cxl_cause.specs.declared.cause.Cause.{Cause}
use Rattle.cxl_cause.specs.declared.places.CausedBreach.{CausedBreach}
use Rattle.cxl_cause.specs.BlockCauses.{caps_cause, block_cause}
use Rattle.cxl_cause.specs.RangeCauses.{window_cause, lead_cause, reach_cause, ways_cause}

-- K9 to K12, of a committed decoder
abbrev pub range_cause : System → ℕ → ℕ → ℕ → Decoder → Option Cause
range_cause s rule n i d =
    if rule == 9 then window_cause s n i d
    else (if rule == 10 then lead_cause s n d
    else (if rule == 11 then reach_cause s n d
    else (if rule == 12 then ways_cause s n i d
    else None)))

-- why decoder i of node n breaks the rule of this number, from 1 to 12
unfoldable pub cause_at : System → ℕ → ℕ → ℕ → Option Cause
cause_at s rule n i =
    if rule == 1 then caps_cause s n i
    else (if nat_lt rule 9 then block_cause s rule n i
    else option_and_then (λ d. if d.committed then range_cause s rule n i d else None) (decoder_at s n i))

-- a place is told with its cause
abbrev pub HasItsCause : System → CausedBreach → Type 0
HasItsCause s c = cause_at s c.breach.rule c.breach.node c.breach.decoder ≡ Some c.cause

-- all places of the first broken rule in order, each with its cause; none where the image is accepted
pub record AreFirstCauses (s : System) (causes : List CausedBreach) : Type 0 where
  pub places : AreFirstBreaches s (map (λ c. c.breach) causes)
  pub each : All (HasItsCause s) causes
