-- What the lines of a script come to, from a first moment to a last one.
use Rattle.std.specs.Prelude.{◌≤◌, List}
use Rattle.cxl_bus.specs.RegsState.{RegsState}
use Rattle.cxl_io.specs.Sink.{SinkState}
use Rattle.cxl_io.specs.Source.{SourceState}
use Rattle.cxl_media.specs.MediaState.{MediaState}
use Rattle.cxl_machine.specs.Machine.{Machine}
use Rattle.cxl_machine.specs.Scripts.{Asked, Turn}
use Rattle.cxl_session.specs.State.{SessionState}
use Rattle.cxl_session.specs.Standing.{ForEachMachine}
use Rattle.cxl_turns.specs.declared.endings.Ending.{Ending}
use Rattle.cxl_turns.specs.Endings.{EndsLines}
use Rattle.cxl_turns.specs.Going.{HasGoneOn}

-- where all stand at a moment of a run
pub record Moment : Type 0 where
  pub session : SessionState
  pub regs : RegsState
  pub media : MediaState
  pub script : SourceState
  pub sink : SinkState

-- this holds of each machine that stands there
abbrev pub EachFrom : Moment → (Machine → Type 0) → Type 0
EachFrom moment P = ForEachMachine moment.session moment.regs moment.media P

-- how the lines end, for each machine that stood first
pub record IsEnd (start now : Moment) (ending : Ending) : Type 0 where
  pub ends : EachFrom start (λ m. (asked : List Asked) × (turns : List Turn) × HasGoneOn m asked turns now.session start.regs now.regs now.media
      × EndsLines m.settled.nodes asked turns start.script now.script start.sink now.sink ending)
  pub source : start.script.faults ≤ now.script.faults
  pub sink : start.sink.faults ≤ now.sink.faults
  pub bus : start.regs.faults ≤ now.regs.faults
