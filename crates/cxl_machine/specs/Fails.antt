-- Which calls of the bus fail in a command: behind how many of its own words each (this project's rules).
use Rattle.std.specs.Prelude.{◌≡◌, ℕ, List, [], ◌∷◌, length, Result, Ok, Err}
use Rattle.cxl_bus.specs.declared.sent.Sent.{Sent}
use Rattle.cxl_script.specs.declared.command.Command.{Command}
use Rattle.cxl_script.specs.declared.command.Command.TheVariants as commands
use Rattle.cxl_script.specs.declared.command.Create.{Create}
use Rattle.cxl_reply.specs.declared.reply.Reply.{Reply}
use Rattle.cxl_machine.specs.Machine.{RegionJob, Machine}
use Rattle.cxl_machine.specs.Outcomes.{BusOutcome, NoFault, Undone, LeftPending, ReadFailed}
use Rattle.cxl_machine.specs.Requests.{AsksCreate, asked_release}
use Rattle.cxl_machine.specs.Trails.{GoesBackTo}

-- Of a whole job the first write fails that is not made. Where the job stays pending, one that takes a write back fails too, behind
-- all words: none is tried again.
abbrev pub FailsWhole : RegionJob → BusOutcome → List Sent → List ℕ → Type 0
FailsWhole job NoFault trail failed = failed ≡ []
FailsWhole job Undone trail failed = (back : GoesBackTo job 0 trail) × (failed ≡ back.turn ∷ [])
FailsWhole job (LeftPending done) trail failed = (back : GoesBackTo job done trail) × (failed ≡ back.turn ∷ length trail ∷ [])
FailsWhole job ReadFailed trail failed = ⊥

-- what is refused calls nothing
abbrev pub FailsAsked : Result RegionJob Reply → BusOutcome → List Sent → List ℕ → Type 0
FailsAsked (Ok job) outcome trail failed = FailsWhole job outcome trail failed
FailsAsked (Err refusal) outcome trail failed = (outcome ≡ NoFault) × (failed ≡ [])

-- the calls of a create that fail
abbrev pub FailsCreate : Machine → Create → BusOutcome → List Sent → List ℕ → Type 0
FailsCreate m create outcome trail failed = (asked : Result RegionJob Reply) × AsksCreate m create asked × FailsAsked asked outcome trail failed

-- any other command stops at the first call that fails, behind all words
abbrev pub FailsLast : BusOutcome → List Sent → List ℕ → Type 0
FailsLast NoFault trail failed = failed ≡ []
FailsLast Undone trail failed = ⊥
FailsLast (LeftPending done) trail failed = failed ≡ length trail ∷ []
FailsLast ReadFailed trail failed = failed ≡ length trail ∷ []

-- Behind how many of its words each call of the bus fails that does. So nothing is called behind a fault but what undoes,
-- and that is tried once.
abbrev pub FailsOf : Machine → Command → BusOutcome → List Sent → List ℕ → Type 0
FailsOf m (commands.Create create) outcome trail failed = FailsCreate m create outcome trail failed
FailsOf m (commands.Destroy name) outcome trail failed = FailsAsked (asked_release m name) outcome trail failed
FailsOf m other outcome trail failed = FailsLast outcome trail failed
