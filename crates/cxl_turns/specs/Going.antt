-- What was asked of a session, and how it was answered, one after the other (this project's rule).
use Rattle.std.specs.Prelude.{◌≡◌, List}
use Rattle.cxl_bus.specs.Failed.{HasFailed}
use Rattle.cxl_bus.specs.RegsState.{RegsState}
use Rattle.cxl_bus.specs.Trail.{trail_with}
use Rattle.cxl_media.specs.MediaState.{MediaState}
use Rattle.cxl_machine.specs.Machine.{Machine}
use Rattle.cxl_machine.specs.Scripts.{Asked, Turn}
use Rattle.cxl_machine.specs.Turns.{AreTurns, machine_after, words_sent, failed_in}
use Rattle.cxl_session.specs.State.{SessionState}
use Rattle.cxl_session.specs.Standing.{IsAt}

-- What is asked was answered, turn by turn, from a machine on: session, registers and media stand for the last machine, the
-- words of the turns are sent, and calls of the bus failed where the turns say, each of them counted, and no other.
pub record HasGoneOn (m : Machine) (asked : List Asked) (turns : List Turn) (session : SessionState) (old new : RegsState) (media : MediaState) : Type 0 where
  pub answered : AreTurns m asked turns
  pub at : IsAt session new media (machine_after m turns)
  pub words : new.trail ≡ trail_with old.trail (words_sent turns)
  pub fails : HasFailed old new (failed_in turns)
