-- What each command is answered: a reply, and the machine after it (this project's rules). The machine speaks of flat bytes
-- alone: how registers, frames and device bytes stand for it is said in `Sound`.
use Rattle.std.specs.Prelude.{◌≡◌}
use Rattle.cxl_script.specs.declared.command.Command.{Command}
use Rattle.cxl_script.specs.declared.command.Command.TheVariants as commands
use Rattle.cxl_machine.specs.Machine.{Machine}
use Rattle.cxl_machine.specs.Outcomes.{BusOutcome, NoFault}
use Rattle.cxl_machine.specs.Replies.{Answer, Gives}
use Rattle.cxl_machine.specs.Accesses.{load_answer, store_answer, down_answer, AnswersUp, range_answer, spread_answer}
use Rattle.cxl_machine.specs.Reports.{AnswersShow, AnswersPoison}
use Rattle.cxl_machine.specs.Requests.{asked_release}
use Rattle.cxl_machine.specs.Regions.{AnswersCreate, AnswersWhole, AnswersBeginCreate, begin_answer, AnswersStep, AnswersAbort}
use Rattle.cxl_machine.specs.Copies.{copy_answer, move_answer}

-- what a command is answered by a machine when the bus let it go so
abbrev pub Answers : Machine → Command → BusOutcome → Answer → Type 0
Answers m (commands.Create create) outcome answer = AnswersCreate m create outcome answer
Answers m (commands.Destroy name) outcome answer = AnswersWhole m (asked_release m name) outcome answer
Answers m (commands.Show name) outcome answer = AnswersShow m name outcome answer
Answers m (commands.Down h) outcome answer = Gives outcome answer (down_answer m h)
Answers m (commands.Up up) outcome answer = (outcome ≡ NoFault) × AnswersUp m up answer
Answers m (commands.Load load) outcome answer = Gives outcome answer (load_answer m load)
Answers m (commands.Store store) outcome answer = Gives outcome answer (store_answer m store)
Answers m (commands.Poison poison) outcome answer = (outcome ≡ NoFault) × AnswersPoison m poison answer
Answers m (commands.BeginCreate create) outcome answer = AnswersBeginCreate m create outcome answer
Answers m (commands.BeginDestroy name) outcome answer = Gives outcome answer (begin_answer m (asked_release m name))
Answers m (commands.Step steps) outcome answer = AnswersStep m steps outcome answer
Answers m commands.Abort outcome answer = AnswersAbort m outcome answer
Answers m (commands.Range reach) outcome answer = Gives outcome answer (range_answer m reach)
Answers m (commands.Spread reach) outcome answer = Gives outcome answer (spread_answer m reach)
Answers m (commands.Copy pair) outcome answer = Gives outcome answer (copy_answer m pair)
Answers m (commands.Move pair) outcome answer = Gives outcome answer (move_answer m pair)
