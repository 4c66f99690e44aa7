-- Commands by kind: the six that make or end a region, or go on with a job, and all others, which are accesses.
use Rattle.std.proofs.Common.{◌≡◌, ℕ, true, List, [], refl}
use Rattle.std.proofs.lemmas.Bool.{false≢true}
use Rattle.cxl_bus.specs.declared.sent.Sent.{Sent}
use Rattle.cxl_script.specs.declared.command.Command.{Command}
use Rattle.cxl_script.specs.declared.command.Command.TheVariants as commands
use Rattle.cxl_script.specs.declared.command.Create.{Create}
use Rattle.cxl_machine.specs.Machine.{Machine}
use Rattle.cxl_machine.specs.Outcomes.{BusOutcome, is_access}
use Rattle.cxl_machine.specs.Trails.{TrailOf}

-- a fact of each of the six
pub record OfJobs (P : Command → Type 0) : Type 0 where
  pub create : (create : Create) → P (commands.Create create)
  pub destroy : (name : List ℕ) → P (commands.Destroy name)
  pub begin_create : (create : Create) → P (commands.BeginCreate create)
  pub begin_destroy : (name : List ℕ) → P (commands.BeginDestroy name)
  pub step : (steps : ℕ) → P (commands.Step steps)
  pub abort : P commands.Abort

-- with one of all accesses it is a fact of each command
pub by_kind : (P : Command → Type 0) → OfJobs P → ((command : Command) → is_access command ≡ true → P command) → (command : Command) → P command
by_kind P jobs access (commands.Create create) = jobs.create create
by_kind P jobs access (commands.Destroy name) = jobs.destroy name
by_kind P jobs access (commands.BeginCreate create) = jobs.begin_create create
by_kind P jobs access (commands.BeginDestroy name) = jobs.begin_destroy name
by_kind P jobs access (commands.Step steps) = jobs.step steps
by_kind P jobs access commands.Abort = jobs.abort
by_kind P jobs access other = access other refl

-- an access sends no word
pub sends_nothing : (m : Machine) (command : Command) (outcome : BusOutcome) (trail : List Sent) → is_access command ≡ true → TrailOf m command outcome trail → trail ≡ []
sends_nothing m (commands.Create create) outcome trail access sends = absurd (false≢true access)
sends_nothing m (commands.Destroy name) outcome trail access sends = absurd (false≢true access)
sends_nothing m (commands.Step steps) outcome trail access sends = absurd (false≢true access)
sends_nothing m commands.Abort outcome trail access sends = absurd (false≢true access)
sends_nothing m other outcome trail access sends = sends
