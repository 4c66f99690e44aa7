-- What ends a command early.
use Rattle.std.specs.Prelude.{Result, Ok, Err}
use Rattle.cxl_enc.specs.declared.faults.Memory.{Memory}
use Rattle.cxl_inputs.specs.Outcome.{Outcome}
use Rattle.cxl_inputs.specs.declared.stop.Stop.{Stop}
use Rattle.cxl_inputs.specs.declared.stop.Stop.TheVariants as stop

-- what stops a command: an outcome of this kind, or want of memory, where `IsOut` says what holds
abbrev pub IsStop : (Outcome → Type 0) → Type 0 → Stop → Type 0
IsStop IsOutcome IsOut (stop.Outcome outcome) = IsOutcome outcome
IsStop IsOutcome IsOut stop.Memory = IsOut

-- an outcome, unless there was no memory to make it
abbrev pub stop_of : Result Outcome Memory → Stop
stop_of (Ok outcome) = stop.Outcome outcome
stop_of (Err memory) = stop.Memory
