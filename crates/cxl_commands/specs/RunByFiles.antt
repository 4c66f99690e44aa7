-- How a run comes to its end by its words and files alone.
use Rattle.std.specs.Prelude.{◌≡◌, true}
use Rattle.cxl_inputs.specs.Ends.{IsWritten, IsCutShort, WritesNothing}
use Rattle.cxl_inputs.specs.File.{HasNotFailed, RunsOutBehind}
use Rattle.cxl_inputs.specs.Outcome.{Outcome}
use Rattle.cxl_inputs.specs.declared.status.Status.{Status}
use Rattle.cxl_inputs.specs.declared.status.Status.TheVariants.{Memory}
use Rattle.cxl_commands.specs.Answers.{IsOutcomeOf}
use Rattle.cxl_commands.specs.Stopped.{IsBehind}
use Rattle.cxl_commands.specs.Form.{Form, own_files, takes_memory}
use Rattle.cxl_commands.specs.Outside.{Outside}

-- Memory ran out: before there was an outcome, and nothing is written; or behind whole pieces of an outcome that answers. No
-- fault of the files is hidden in it.
pub data RunsOut (form : Form) (old new : Outside) : Type 0 where
  before : RunsOutBehind (own_files form) old.files new.files → WritesNothing old.out new.out → RunsOut form old new
  behind : (outcome : Outcome) → IsOutcomeOf form old new outcome → HasNotFailed old.files new.files → IsBehind outcome old.out new.out → RunsOut form old new

-- How a run ends by its words and files alone: an outcome that answers the form is written; or the sink failed behind a part
-- of its text; or memory ran out, in a form that takes any. A write that failed is told by the status in each case, of a
-- sink that counts failures alone.
pub data IsRunByFiles (form : Form) (old new : Outside) (status : Status) : Type 0 where
  writes : (outcome : Outcome) → IsOutcomeOf form old new outcome → IsWritten outcome status old.out new.out → IsRunByFiles form old new status
  is_cut : (outcome : Outcome) → IsOutcomeOf form old new outcome → IsCutShort outcome status old.out new.out → IsRunByFiles form old new status
  runs_out : takes_memory form ≡ true → status ≡ Memory → RunsOut form old new → IsRunByFiles form old new status

-- a fact of each run by its files: its form, what the outside holds before it and after it, and its status
abbrev pub EachRunByFiles : (Form → Outside → Outside → Status → Type 0) → Type 0
EachRunByFiles P = (form : Form) (old new : Outside) (status : Status) → IsRunByFiles form old new status → P form old new status
