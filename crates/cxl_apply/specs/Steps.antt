-- What one step of a job does: one word is written, on the bus and in the image, or the bus failed and nothing changed
-- (this project's rule).
use Rattle.std.specs.Prelude.{◌≡◌, ℕ, ◌+◌, ◌≤◌, List, length, All, slice_get, Some}
use Rattle.cxl_regs.specs.Registers.{Registers}
use Rattle.cxl_regs.specs.Blocks.{IsPlace, blocks_after}
use Rattle.cxl_bus.specs.RegsState.{RegsState, IsUntouched}
use Rattle.cxl_bus.specs.Trail.{trail_after}
use Rattle.cxl_apply.specs.declared.write.Write.{Write}
use Rattle.cxl_apply.specs.declared.write.Stepped.{Stepped}
use Rattle.cxl_apply.specs.declared.write.Stepped.TheVariants.{Done, More, BusFault}

-- a job's writes in order, and how many of them are made
pub record JobState : Type 0 where
  pub writes : List Write
  pub done : ℕ

-- what every job is: no more writes are made than there are, which are eight at the most for each of 1,024 nodes
pub record IsJobState (job : JobState) : Type 0 where
  pub within : job.done ≤ length job.writes
  pub few : length job.writes ≤ 8192

-- the blocks have each word that is written
abbrev pub HasWordsOf : List Registers → List Write → Type 0
HasWordsOf blocks writes = All (λ (write : Write). IsPlace blocks write.node write.off) writes

-- a word is sent, and stands in the image
pub record IsSent (node off value : ℕ) (blocks left : List Registers) (old new : RegsState) : Type 0 where
  pub image : left ≡ blocks_after blocks node off value
  pub regs : new.blocks ≡ blocks_after old.blocks node off value
  pub trail : new.trail ≡ trail_after old.trail node off value

-- the next write is made
pub record MakesWrite (job after : JobState) (blocks left : List Registers) (old new : RegsState) : Type 0 where
  pub write : Write
  pub next : slice_get job.writes job.done ≡ Some write
  pub sent : IsSent write.node write.off write.value blocks left old new
  pub counted : after ≡ record job { done = job.done + 1 }

-- the last write that was made is taken back
pub record TakesBack (job after : JobState) (blocks left : List Registers) (old new : RegsState) : Type 0 where
  pub write : Write
  pub last : slice_get job.writes after.done ≡ Some write
  pub sent : IsSent write.node write.off write.back blocks left old new
  pub counted : job ≡ record after { done = after.done + 1 }

-- all is as before, save for the count of faults
pub record IsAsBefore (was after : JobState) (blocks left : List Registers) (old new : RegsState) : Type 0 where
  pub job : after ≡ was
  pub image : left ≡ blocks
  pub regs : IsUntouched old new

-- a fact of a step that wrote, and one of a step that met a fault
abbrev pub MatchStepped : Stepped → Type 0 → Type 0 → Type 0
MatchStepped Done wrote failed = wrote
MatchStepped More wrote failed = wrote
MatchStepped BusFault wrote failed = failed
