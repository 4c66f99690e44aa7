-- How the bus let a command go, which commands can go so, and how many faults at the least that tells of (this project's
-- rules).
use Rattle.std.specs.Prelude.{ℕ, ◌+◌, ◌<◌, ◌≤◌, min, Bool, true, false, ⊤}
use Rattle.cxl_script.specs.declared.command.Command.{Command}
use Rattle.cxl_script.specs.declared.command.Command.TheVariants as commands
use Rattle.cxl_move.specs.Bytes.{AreBytes}

-- how the bus let a command go
pub data BusOutcome : Type 0 where
  -- no call of the bus failed
  NoFault : BusOutcome
  -- a write failed, and those made before it are undone
  Undone : BusOutcome
  -- a write failed, and the job is pending with so many writes made
  LeftPending : (done : ℕ) → BusOutcome
  -- a read failed
  ReadFailed : BusOutcome

-- ---- which command can go how

-- all writes of a job, or none
abbrev pub of_whole_job : BusOutcome → Bool
of_whole_job NoFault = true
of_whole_job Undone = true
of_whole_job (LeftPending done) = true
of_whole_job ReadFailed = false

-- some writes of a job
abbrev pub of_steps : BusOutcome → Bool
of_steps NoFault = true
of_steps Undone = false
of_steps (LeftPending done) = true
of_steps ReadFailed = false

-- no write is sent, and a read may fail
abbrev pub of_reads : BusOutcome → Bool
of_reads NoFault = true
of_reads Undone = false
of_reads (LeftPending done) = false
of_reads ReadFailed = true

-- no call of the bus is made
abbrev pub of_no_call : BusOutcome → Bool
of_no_call NoFault = true
of_no_call Undone = false
of_no_call (LeftPending done) = false
of_no_call ReadFailed = false

-- A `create` and a `destroy` can be undone or left pending, `step` and `abort` be left pending, and a read of `show` fail.
abbrev pub can_go : Command → BusOutcome → Bool
can_go (commands.Create create) = of_whole_job
can_go (commands.Destroy name) = of_whole_job
can_go (commands.Step n) = of_steps
can_go commands.Abort = of_steps
can_go (commands.Show name) = of_reads
can_go other = of_no_call

-- ---- how many writes a job that is left pending has made

-- Of a whole job some write was made and not taken back, and not all are made.
pub record IsLeftOfWhole (total done : ℕ) : Type 0 where
  pub some : 1 ≤ done
  pub part : done < total

-- Of steps none is taken back, and they come neither to as many as were asked for nor to the last write.
pub record IsLeftOfSteps (before steps total done : ℕ) : Type 0 where
  pub kept : before ≤ done
  pub part : done < min (before + steps) total

-- Of an abort some write is not taken back.
pub record IsLeftOfAbort (before done : ℕ) : Type 0 where
  pub some : 1 ≤ done
  pub part : done ≤ before

-- ---- how many faults there were at the least

-- a job that was begun and is left pending met a second fault, at the undoing
abbrev pub faults_of_whole : BusOutcome → ℕ
faults_of_whole NoFault = 0
faults_of_whole Undone = 1
faults_of_whole (LeftPending done) = 2
faults_of_whole ReadFailed = 1

-- one fault ends steps, an abort or a read
abbrev pub faults_of_part : BusOutcome → ℕ
faults_of_part NoFault = 0
faults_of_part Undone = 1
faults_of_part (LeftPending done) = 1
faults_of_part ReadFailed = 1

-- how many faults that tells of: two where a `create` or a `destroy` is left pending, since an undo write failed too
abbrev pub faults_of : Command → BusOutcome → ℕ
faults_of (commands.Create create) = faults_of_whole
faults_of (commands.Destroy name) = faults_of_whole
faults_of other = faults_of_part

-- ---- accesses

-- the command makes and ends no region, and no job
abbrev pub is_access : Command → Bool
is_access (commands.Create create) = false
is_access (commands.Destroy name) = false
is_access (commands.BeginCreate create) = false
is_access (commands.BeginDestroy name) = false
is_access (commands.Step n) = false
is_access commands.Abort = false
is_access other = true

-- what is stored, where the command is a store, are bytes
abbrev pub StoresBytes : Command → Type 0
StoresBytes (commands.Store store) = AreBytes store.bytes
StoresBytes other = ⊤
