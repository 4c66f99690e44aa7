-- What a peer was sent, what came of it, and when that answers a question (this project's rules).
use Rattle.std.specs.Prelude.{◌≡◌, ◌≢◌, ℕ, ◌<◌, ◌≤◌, List, [], ◌∷◌, ◌++◌, length}
use Rattle.cxl_enc.specs.Faults.{Rose}
use Rattle.cxl_io.specs.Lines.{ended_lines}
use Rattle.cxl_io.specs.Sink.{SinkState, Takes, TakesPrefix}
use Rattle.cxl_io.specs.Source.{SourceState, GivesFront, IsAtEnd}
use Rattle.cxl_pipe.specs.declared.peer.How.{How}
use Rattle.cxl_pipe.specs.declared.peer.How.TheVariants.{Unsent, Unread, Ended, Behind, Long}

-- what goes to a peer, and what it has still to say, where these are told
pub record Talk : Type 0 where
  pub to : SinkState
  pub from : SourceState

-- no answer has more bytes, without its end
abbrev pub answer_limit : ℕ
answer_limit = 4096

-- ---- what comes

-- this line with its end comes, and nothing else
pub record ComesAlone (line : List ℕ) (old new : SourceState) : Type 0 where
  pub came : GivesFront old new (line ++ 10 ∷ [])
  pub whole : ended_lines line ≡ []
  pub short : length line ≤ answer_limit

-- these bytes come, and are no line alone
pub data ComesAstray (came : List ℕ) (how : How) (old new : SourceState) : Type 0 where
  -- reading failed before a line ended
  unread : GivesFront old new came → ended_lines came ≡ [] → Rose old.faults new.faults → how ≡ Unread → ComesAstray came how old new
  -- the peer ended before a line did
  ended : GivesFront old new came → ended_lines came ≡ [] → IsAtEnd new → how ≡ Ended → ComesAstray came how old new
  -- more came behind a line that ended
  behind : GivesFront old new came → (line more : List ℕ) → came ≡ line ++ 10 ∷ more → ended_lines line ≡ [] → more ≢ [] → how ≡ Behind → ComesAstray came how old new
  -- the line is too long
  long : GivesFront old new came → ended_lines came ≡ [] → answer_limit < length came → how ≡ Long → ComesAstray came how old new

-- ---- a question

-- it was sent, and what came behind it is this line
pub record IsAnswered (question line : List ℕ) (old new : Talk) : Type 0 where
  pub sent : Takes old.to new.to question
  pub came : ComesAlone line old.from new.from

-- it has no answer: it could not be sent, and nothing is read; or what came is no line alone
pub data IsAstray (question came : List ℕ) (how : How) (old new : Talk) : Type 0 where
  unsent : TakesPrefix old.to new.to question → Rose old.to.faults new.to.faults → new.from ≡ old.from → came ≡ [] → how ≡ Unsent → IsAstray question came how old new
  astray : Takes old.to new.to question → ComesAstray came how old.from new.from → IsAstray question came how old new
