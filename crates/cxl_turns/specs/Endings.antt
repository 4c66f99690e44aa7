-- How the lines of a script come to their end (this project's rule).
use Rattle.std.specs.Prelude.{◌≡◌, ℕ, ◌<◌, List, [], ◌∷◌, ◌++◌, length, take, IfSome}
use Rattle.cxl_enc.specs.Faults.{Rose, LeavesCount, CountsExactly}
use Rattle.cxl_io.specs.Lines.{lines_of}
use Rattle.cxl_io.specs.Reader.{HasStopped}
use Rattle.cxl_io.specs.Sink.{SinkState, Takes}
use Rattle.cxl_io.specs.Source.{SourceState, GivesFront}
use Rattle.cxl_io.specs.declared.line_reader.Taken.TheVariants as readers
use Rattle.cxl_topo.specs.declared.node.Node.{Node}
use Rattle.cxl_reply.specs.Replies.{reply_text}
use Rattle.cxl_machine.specs.Scripts.{Asked, Turn, lines_asked}
use Rattle.cxl_machine.specs.Turns.{text_of}
use Rattle.cxl_turns.specs.declared.endings.Ending.{Ending}
use Rattle.cxl_turns.specs.declared.endings.Ending.TheVariants.{Done, ReadFault, TooMuch, WriteFault, Memory}

-- the lines stand first in the script
pub record AreFirstLines (lines : List (List ℕ)) (before after : SourceState) : Type 0 where
  pub taken : List ℕ
  pub given : GivesFront before after taken
  pub first : IfSome after.left (λ left. (rest : List (List ℕ)) × (lines_of (taken ++ left) ≡ lines ++ rest))

-- reading came to its end: these are all lines, those that ended before the source failed, or within the limit; and where the source
-- counts failures alone, just one read failed
abbrev pub StopsReading : Ending → List (List ℕ) → SourceState → SourceState → Type 0
StopsReading Done lines before after = HasStopped readers.End lines before after
StopsReading ReadFault lines before after =
    HasStopped readers.Fault lines before after × Rose before.faults after.faults × CountsExactly 1 before.counts_failures_alone before.faults after.faults
StopsReading TooMuch lines before after = HasStopped readers.TooMuch lines before after
StopsReading WriteFault lines before after = ⊥
StopsReading Memory lines before after = ⊥

-- this text whole, and then part of the other one from the front, for which the sink had cause; and no write is tried behind the one
-- that failed
pub record IsCutBehind (front text : List ℕ) (old new : SinkState) : Type 0 where
  pub rose : Rose old.faults new.faults
  pub count : ℕ
  pub short : count < length text
  pub taken : Takes old new (front ++ take count text)
  pub counted : CountsExactly 1 old.counts_failures_alone old.faults new.faults

-- no write failed, as the count tells of a sink that counts failures alone
pub record MeetsNoFault (old new : SinkState) : Type 0 where
  pub alone : new.counts_failures_alone ≡ old.counts_failures_alone
  pub unswallowed : LeavesCount old.counts_failures_alone old.faults new.faults

-- How the lines of a script end. Each reply is written before the next line is carried out. Reading came to its end, and no
-- write failed; or the sink failed in the last reply; or memory ran out, in which no fault of source or sink is hidden.
pub data EndsLines (nodes : List Node) (asked : List Asked) (turns : List Turn) (before after : SourceState) (old new : SinkState) (ending : Ending) : Type 0 where
  -- reading came to its end, all replies are written, and no write failed; where it is the script's own end, no fault of the source is swallowed
  read_out : (lines : List (List ℕ)) → StopsReading ending lines before after → asked ≡ lines_asked lines → Takes old new (text_of nodes turns)
      → (ending ≡ Done → LeavesCount before.counts_failures_alone before.faults after.faults)
      → MeetsNoFault old new → EndsLines nodes asked turns before after old new ending
  -- the sink failed in the last reply; all before it stand whole, and the source is not asked for more
  reply_cut : (lines : List (List ℕ)) (earlier : List Turn) (last : Turn) → AreFirstLines lines before after → asked ≡ lines_asked lines
      → turns ≡ earlier ++ last ∷ [] → IsCutBehind (text_of nodes earlier) (reply_text nodes last.reply) old new → ending ≡ WriteFault
      → LeavesCount before.counts_failures_alone before.faults after.faults → EndsLines nodes asked turns before after old new ending
  -- memory ran out at the next line, or before its reply; all replies so far stand whole, and no fault of source or sink is hidden in it
  runs_out : (lines : List (List ℕ)) → AreFirstLines lines before after → asked ≡ lines_asked lines → ending ≡ Memory
      → Takes old new (text_of nodes turns) → LeavesCount before.counts_failures_alone before.faults after.faults
      → LeavesCount old.counts_failures_alone old.faults new.faults → EndsLines nodes asked turns before after old new ending
