-- Commits that are read back: the control word is read until the commit is done or refused (this project's rule, as drivers do).
use Rattle.std.specs.Prelude.{◌≡◌, ◌≢◌, ℕ, zero, suc, ◌<◌, Bool, true, false, ◌&&◌, ◌⊎◌, Some}
use Rattle.cxl_enc.specs.Counters.{next_count}
use Rattle.cxl_regs.specs.Blocks.{word_in, blocks_after}
use Rattle.cxl_pipe.specs.Pipe.{Pipe, HasAnswer, HasOther, HasNoAnswer, AccessFailed}
use Rattle.cxl_pipe.specs.Protocol.{read_question, write_question, tells_word, tells_pending, answers_read, says_taken, answers_write, is_commit, read_back_limit}

-- the word was read so often, and was pending each time
abbrev pub HasWaited : ℕ → ℕ → ℕ → ℕ → Pipe → Pipe → Type 0
HasWaited node off word zero old new = new ≡ old
HasWaited node off word (suc n) old new =
    (mid : Pipe) × HasWaited node off word n old mid × HasOther (read_question node off) (tells_word word) answers_read mid new
    × (tells_pending new.line ≡ true)

-- behind some reads that were pending one told this word
pub record IsSettled (node off word : ℕ) (old new : Pipe) : Type 0 where
  pub count : ℕ
  pub few : count < read_back_limit
  pub mid : Pipe
  pub waited : HasWaited node off word count old mid
  pub told : HasAnswer (read_question node off) (tells_word word) mid new

-- Behind some reads that were pending one told neither this word nor that the commit is pending, or all were pending.
pub data IsUnsettled (node off word : ℕ) (old new : Pipe) : Type 0 where
  refused : (count : ℕ) → count < read_back_limit → (mid : Pipe) → HasWaited node off word count old mid → HasNoAnswer (read_question node off) (tells_word word) answers_read mid new → (new.strange ≡ true) ⊎ (tells_pending new.line ≢ true) → IsUnsettled node off word old new
  pending : HasWaited node off word read_back_limit old new → IsUnsettled node off word old new

-- a write is read back: it asks for a commit, and the bus was told to
abbrev pub is_read_back : Pipe → ℕ → ℕ → Bool
is_read_back pipe off value = pipe.reads_back && is_commit off value

-- the word before is sent, if the peer is in step
pub data IsTakenBack (node off word : ℕ) (old new : Pipe) : Type 0 where
  strange : old.strange ≡ true → new ≡ old → IsTakenBack node off word old new
  sent : old.strange ≡ false → HasAnswer (write_question node off word) says_taken old new ⊎ HasNoAnswer (write_question node off word) says_taken answers_write old new → IsTakenBack node off word old new

-- what is asked behind a write that was taken: nothing, or the control word until it is what the write rules leave
pub data IsReadBack (node off value : ℕ) (old new : Pipe) : Type 0 where
  unread : is_read_back old off value ≡ false → new ≡ old → IsReadBack node off value old new
  settled : is_read_back old off value ≡ true → (word : ℕ) → word_in (blocks_after old.blocks node off value) node off ≡ Some word → IsSettled node off word old new → IsReadBack node off value old new

-- What is asked behind a write whose commit was refused: the control word, which is not what the write rules leave, and then
-- the word that stood there is sent again.
pub record IsRefused (node off value : ℕ) (old new : Pipe) : Type 0 where
  pub asks : is_read_back old off value ≡ true
  pub wanted : ℕ
  pub is_wanted : word_in (blocks_after old.blocks node off value) node off ≡ Some wanted
  pub last : Pipe
  pub unsettled : IsUnsettled node off wanted old last
  pub before : ℕ
  pub was_before : word_in old.blocks node off ≡ Some before
  pub back : IsTakenBack node off before last new

-- a write was sent and taken, and what it leaves was read where that is wanted
pub record WasTaken (node off value : ℕ) (old new : Pipe) : Type 0 where
  pub going : old.strange ≡ false
  pub mid : Pipe
  pub took : HasAnswer (write_question node off value) says_taken old mid
  pub last : Pipe
  pub read : IsReadBack node off value mid last
  pub left : new ≡ record last { blocks = blocks_after old.blocks node off value }

-- a write failed: it was not taken, or its commit was refused
pub data WriteFailed (node off value : ℕ) (old new : Pipe) : Type 0 where
  untaken : AccessFailed (write_question node off value) says_taken answers_write old new → WriteFailed node off value old new
  refused_commit : old.strange ≡ false → (mid : Pipe) → HasAnswer (write_question node off value) says_taken old mid → (last : Pipe) → IsRefused node off value mid last → new ≡ record last { faults = next_count old.faults } → WriteFailed node off value old new
