-- The steps of a reader of lines within one answer.
use Rattle.std.specs.Prelude.{◌≡◌, ℕ, ◌+◌, ◌-◌, ◌≤◌, nat_le, ◌==◌, if◌then◌else◌, List, [], ◌∷◌, ◌++◌, length, take, Result, IfOk, OnOk, OnErr}
use Rattle.cxl_enc.specs.Faults.{HasCause, LeavesCount, CountsExactly}
use Rattle.cxl_enc.specs.declared.faults.Failed.{Failed}
use Rattle.cxl_io.specs.Lines.{ended_lines}
use Rattle.cxl_io.specs.Reader.{Reader, line_limit, script_limit}
use Rattle.cxl_io.specs.Source.{SourceState, GivesFront, IsAtEnd}
use Rattle.cxl_io.specs.declared.line_reader.Taken.{Taken}
use Rattle.cxl_io.specs.declared.line_reader.Taken.TheVariants.{Line, Long, End}

-- how many bytes of a line are kept: two more than a line may have, so that a line is too long where they are all there
unfoldable pub kept_limit : ℕ
kept_limit = 4098

-- the first bytes of a line, with more behind them
abbrev pub kept_with : List ℕ → List ℕ → List ℕ
kept_with line piece = take kept_limit (line ++ piece)

-- the bytes up to the first byte 10 are passed, and it, too
pub record PassesBreak (old new : Reader) : Type 0 where
  pub piece : List ℕ
  pub rest : List ℕ
  pub split : old.held ≡ piece ++ 10 ∷ rest
  pub unbroken : ended_lines piece ≡ []
  pub after : new ≡ record old { held = rest; line = kept_with old.line piece }

-- there is no byte 10, and all bytes are passed
pub record PassesAll (old new : Reader) : Type 0 where
  pub unbroken : ended_lines old.held ≡ []
  pub after : new ≡ record old { held = []; line = kept_with old.line old.held }

-- what a read that is answered so says of the source
pub record IsRead (result : Result ℕ Failed) (before after : SourceState) : Type 0 where
  pub end : IfOk result (λ n. n ≡ 0 → IsAtEnd before)
  pub failed : OnErr result (after.left ≡ before.left)
  pub cause : HasCause result before.faults after.faults
  pub counts : before.faults ≤ after.faults
  pub alone : after.counts_failures_alone ≡ before.counts_failures_alone
  pub unswallowed : OnOk result (LeavesCount before.counts_failures_alone before.faults after.faults)
  pub counted : OnErr result (CountsExactly 1 before.counts_failures_alone before.faults after.faults)

-- so many bytes are taken
pub record Refills (old new : Reader) (before after : SourceState) (count : ℕ) : Type 0 where
  pub bytes : List ℕ
  pub given : GivesFront before after bytes
  pub counted : length bytes ≡ count
  pub few : old.taken + count ≤ script_limit + 1
  pub after_is : new ≡ record old { taken = old.taken + count; held = take (script_limit - old.taken) bytes }

-- what a line comes to, by its length
abbrev pub line_answer : List ℕ → Taken
line_answer line = if nat_le (length line) line_limit then Line else Long

-- what a last line comes to
abbrev pub last_answer : List ℕ → Taken
last_answer line = if length line == 0 then End else line_answer line
