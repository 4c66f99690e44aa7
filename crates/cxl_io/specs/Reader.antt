-- What a reader of lines does.
use Rattle.std.specs.Prelude.{◌≡◌, ◌≢◌, ℕ, ◌+◌, ◌-◌, ◌<◌, ◌≤◌, ◌⊎◌, Option, Some, None, List, [], ◌++◌, length, take}
use Rattle.cxl_enc.specs.Faults.{Rose}
use Rattle.cxl_io.specs.Lines.{lines_of, ended_lines, IsFirstLine, HasPassed}
use Rattle.cxl_io.specs.Source.{SourceState, GivesFront, IsAtEnd}
use Rattle.cxl_io.specs.declared.line_reader.Taken.{Taken}
use Rattle.cxl_io.specs.declared.line_reader.Taken.TheVariants.{Line, Long, End, Fault, TooMuch}

-- the most bytes of a line, without its ending
abbrev pub line_limit : ℕ
line_limit = 4096

-- the most bytes of all lines with their endings
abbrev pub script_limit : ℕ
script_limit = 16777216

-- how far lines of a source are read
pub record Reader : Type 0 where
  -- how many bytes it took
  pub taken : ℕ
  -- those of them within the limit that it may still pass on
  pub held : List ℕ
  -- the line that it gave
  pub line : List ℕ
  -- what it answers from now on
  pub stop : Option Taken

-- before the first line
abbrev pub fresh_reader : Reader
fresh_reader = record { taken = 0; held = []; line = []; stop = None }

-- a whole line that ended is held
abbrev pub HoldsLine : Reader → Type 0
HoldsLine reader = ended_lines reader.held ≢ []

-- ---- one answer

-- the bytes that the next answer goes by: those held, and of those taken with it the ones within the limit
abbrev pub next_bytes : Reader → List ℕ → List ℕ
next_bytes reader taken = reader.held ++ take (script_limit - reader.taken) taken

-- the reader took these bytes from the source, and never more than one past the limit
pub record TakesFrom (old new : Reader) (before after : SourceState) (taken : List ℕ) : Type 0 where
  pub going : old.stop ≡ None
  pub given : GivesFront before after taken
  pub count : new.taken ≡ old.taken + length taken
  pub few : new.taken ≤ script_limit + 1

-- a line is given, or is too long and passed over
abbrev pub IsPassed : List ℕ → Reader → Taken → Type 0
IsPassed line new answer =
    ((length line ≤ line_limit) × (new.line ≡ line) × (answer ≡ Line)) ⊎ ((line_limit < length line) × (answer ≡ Long))

-- the next answer of a reader
pub data IsNext (old new : Reader) (before after : SourceState) (answer : Taken) : Type 0 where
  -- the first line that ended
  ended : (taken line : List ℕ) → TakesFrom old new before after taken → IsFirstLine (next_bytes old taken) line new.held → new.stop ≡ None → IsPassed line new answer → IsNext old new before after answer
  -- the source has ended behind a last line
  last : (taken : List ℕ) → TakesFrom old new before after taken → ended_lines (next_bytes old taken) ≡ [] → next_bytes old taken ≢ [] → IsAtEnd after → new.taken ≤ script_limit → new.stop ≡ Some End → IsPassed (next_bytes old taken) new answer → IsNext old new before after answer
  -- the source has ended, and every line is passed on
  at_end : (taken : List ℕ) → TakesFrom old new before after taken → next_bytes old taken ≡ [] → IsAtEnd after → new.taken ≤ script_limit → new.stop ≡ Some End → answer ≡ End → IsNext old new before after answer
  -- the source failed, and every line that ended is passed on
  fails : (taken : List ℕ) → TakesFrom old new before after taken → ended_lines (next_bytes old taken) ≡ [] → Rose before.faults after.faults → new.taken ≤ script_limit → new.stop ≡ Some Fault → answer ≡ Fault → IsNext old new before after answer
  -- a byte came past the limit, and every line that ended within it is passed on
  too_much : (taken : List ℕ) → TakesFrom old new before after taken → ended_lines (next_bytes old taken) ≡ [] → new.taken ≡ script_limit + 1 → new.stop ≡ Some TooMuch → answer ≡ TooMuch → IsNext old new before after answer
  -- it answers so for good, and takes nothing
  stopped : (stop : Taken) → old.stop ≡ Some stop → new ≡ record old { line = [] } → after ≡ before → answer ≡ stop → IsNext old new before after answer

-- ---- all answers

-- How a reader that passed on these lines has come to its end, of the bytes that it took since `start`: at the end of the
-- source they are all lines; where the source failed, or a byte came past the limit, those that ended within it.
abbrev pub HasStopped : Taken → List (List ℕ) → SourceState → SourceState → Type 0
HasStopped Line passed start now = ⊥
HasStopped Long passed start now = ⊥
HasStopped End passed start now = (bytes : List ℕ) × GivesFront start now bytes × (length bytes ≤ script_limit) × IsAtEnd now × (lines_of bytes ≡ passed)
HasStopped Fault passed start now = (bytes : List ℕ) × GivesFront start now bytes × (length bytes ≤ script_limit) × (ended_lines bytes ≡ passed)
HasStopped TooMuch passed start now = (bytes : List ℕ) × GivesFront start now bytes × (length bytes ≡ script_limit + 1) × (ended_lines (take script_limit bytes) ≡ passed)

-- It has not come to its end: of the bytes within the limit the lines are passed on, and others are held.
pub record IsGoingOn (passed : List (List ℕ)) (start : SourceState) (reader : Reader) (now : SourceState) : Type 0 where
  pub bytes : List ℕ
  pub given : GivesFront start now bytes
  pub count : reader.taken ≡ length bytes
  pub lines : HasPassed passed (take script_limit bytes) reader.held

-- the lines that a reader has passed on since `start`, in order
pub data HasRead (passed : List (List ℕ)) (start : SourceState) (reader : Reader) (now : SourceState) : Type 0 where
  goes_on : reader.stop ≡ None → IsGoingOn passed start reader now → HasRead passed start reader now
  has_stopped : (stop : Taken) → reader.stop ≡ Some stop → HasStopped stop passed start now → HasRead passed start reader now
