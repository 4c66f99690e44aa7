-- What the lines of a script ask for, and how one command is answered (this project's rules).
use Rattle.std.specs.Prelude.{◌≡◌, ℕ, List, [], ◌∷◌, Option, Some, None, Result, Ok, Err}
use Rattle.cxl_bus.specs.declared.sent.Sent.{Sent}
use Rattle.cxl_script.specs.declared.command.Command.{Command}
use Rattle.cxl_script.specs.declared.fault.BadLine.{BadLine}
use Rattle.cxl_script.specs.Grammar.{asked_in}
use Rattle.cxl_reply.specs.declared.reply.Reply.{Reply}
use Rattle.cxl_reply.specs.declared.reply.Reply.TheVariants as replies
use Rattle.cxl_machine.specs.Machine.{Machine}
use Rattle.cxl_machine.specs.Fails.{FailsOf}
use Rattle.cxl_machine.specs.Outcomes.{BusOutcome}
use Rattle.cxl_machine.specs.Replies.{Answer}
use Rattle.cxl_machine.specs.Answers.{Answers}
use Rattle.cxl_machine.specs.Trails.{TrailOf}

-- ---- from lines to commands

-- a command, or a line that asks for none with its first fault
abbrev pub Asked : Type 0
Asked = Result Command BadLine

-- a line that is passed over asks for nothing
abbrev pub asked_before : Result (Option Command) BadLine → List Asked → List Asked
asked_before (Ok None) more = more
asked_before (Ok (Some command)) more = Ok command ∷ more
asked_before (Err fault) more = Err fault ∷ more

-- what the lines of a script ask for
abbrev pub lines_asked : List (List ℕ) → List Asked
lines_asked [] = []
lines_asked (line ∷ lines) = asked_before (asked_in line) (lines_asked lines)

-- ---- one turn

-- what was asked is answered by a reply, the machine after it, the words that were written, and behind how many of these each
-- call of the bus that failed did
pub record Turn : Type 0 where
  pub reply : Reply
  pub machine : Machine
  pub trail : List Sent
  pub failed : List ℕ

-- a turn without its words
abbrev pub answer_of : Turn → Answer
answer_of turn = record { reply = turn.reply; machine = turn.machine }

-- a line that asks for nothing is answered by its fault, and a command as the bus lets it go
abbrev pub TakesTurn : Machine → Asked → Turn → Type 0
TakesTurn m (Err fault) turn = turn ≡ record { reply = replies.BadLine fault; machine = m; trail = []; failed = [] }
TakesTurn m (Ok command) turn =
    (outcome : BusOutcome) × Answers m command outcome (answer_of turn) × TrailOf m command outcome turn.trail
    × FailsOf m command outcome turn.trail turn.failed
