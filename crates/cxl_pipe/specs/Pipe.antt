-- A bus over a peer: what it holds, and what a question comes to.
use Rattle.std.specs.Prelude.{◌≡◌, ◌≢◌, ℕ, Bool, true, None, List, Result, Ok, Err}
use Rattle.cxl_bus.specs.RegsState.{RegsState}
use Rattle.cxl_enc.specs.Counters.{next_count}
use Rattle.cxl_enc.specs.declared.faults.Failed.{Failed}
use Rattle.cxl_regs.specs.Registers.{Registers}
use Rattle.cxl_pipe.specs.Talk.{Talk, IsAnswered, IsAstray}
use Rattle.cxl_pipe.specs.declared.peer.How.{How}

-- what a bus over a peer holds
pub record Pipe : Type 0 where
  -- a block a node, as the write rules leave them
  pub blocks : List Registers
  -- what went to the peer, and what it has still to say
  pub peer : Talk
  -- what came behind the last question, without the end of its line
  pub line : List ℕ
  -- the peer is out of step, or began with other registers, so that every access fails
  pub strange : Bool
  -- the control word is read behind each commit
  pub reads_back : Bool
  -- how many accesses failed; a count that has reached 2 ^ 64 - 1 stays there
  pub faults : ℕ

-- it tells no trail
abbrev pub state_of : Pipe → RegsState
state_of pipe = record { blocks = pipe.blocks; trail = None; failed_at = None; faults = pipe.faults; counts_failures_alone = true }

-- nothing but what goes to the peer and comes from it may differ, and whether it is in step
pub record KeepsRegisters (old new : Pipe) : Type 0 where
  pub blocks : new.blocks ≡ old.blocks
  pub reads_back : new.reads_back ≡ old.reads_back
  pub faults : new.faults ≡ old.faults

-- ---- a question

-- it was sent, and a line alone came
pub record IsHeard (question : List ℕ) (old new : Pipe) : Type 0 where
  pub asked : IsAnswered question new.line old.peer new.peer
  pub kept : KeepsRegisters old new
  pub step : new.strange ≡ old.strange

-- it has no answer: the peer is strange from now on
pub record IsUnheard (question : List ℕ) (old new : Pipe) : Type 0 where
  pub how : How
  pub astray : IsAstray question new.line how old.peer new.peer
  pub kept : KeepsRegisters old new
  pub strange : new.strange ≡ true

-- the line that came is one that is wanted
pub record HasAnswer (question : List ℕ) (is_wanted : List ℕ → Bool) (old new : Pipe) : Type 0 where
  pub heard : IsHeard question old new
  pub wanted : is_wanted new.line ≡ true

-- the line that came is not the one that is wanted, and yet one that the question can have
pub record HasOther (question : List ℕ) (is_wanted can_answer : List ℕ → Bool) (old new : Pipe) : Type 0 where
  pub heard : IsHeard question old new
  pub other : is_wanted new.line ≢ true
  pub answers : can_answer new.line ≡ true

-- the line that came is none that the question can have, and the peer is strange from now on
pub record IsOutOfStep (question : List ℕ) (is_wanted can_answer : List ℕ → Bool) (old new : Pipe) : Type 0 where
  pub mid : Pipe
  pub heard : IsHeard question old mid
  pub other : is_wanted mid.line ≢ true
  pub answers : can_answer mid.line ≢ true
  pub after : new ≡ record mid { strange = true }

-- no line that is wanted came
pub data HasNoAnswer (question : List ℕ) (is_wanted can_answer : List ℕ → Bool) (old new : Pipe) : Type 0 where
  unheard : IsUnheard question old new → HasNoAnswer question is_wanted can_answer old new
  unwanted : HasOther question is_wanted can_answer old new → HasNoAnswer question is_wanted can_answer old new
  out_of_step : IsOutOfStep question is_wanted can_answer old new → HasNoAnswer question is_wanted can_answer old new

-- an access failed, and the count rose by one: since the peer is strange, or for want of an answer
pub data AccessFailed (question : List ℕ) (is_wanted can_answer : List ℕ → Bool) (old new : Pipe) : Type 0 where
  strange : old.strange ≡ true → new ≡ record old { faults = next_count old.faults } → AccessFailed question is_wanted can_answer old new
  missed : (mid : Pipe) → HasNoAnswer question is_wanted can_answer old mid → new ≡ record mid { faults = next_count old.faults } → AccessFailed question is_wanted can_answer old new

-- the count behind an access: one more where it failed
abbrev pub faults_after : {T : Type 0} → Result T Failed → ℕ → ℕ
faults_after (Ok value) faults = faults
faults_after (Err fault) faults = next_count faults
