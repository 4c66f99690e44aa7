-- What one line of a script, or one command, comes to.
use Rattle.std.specs.Prelude.{◌≡◌, List, [], ◌∷◌, Result, Ok, Err}
use Rattle.cxl_enc.specs.Faults.{Rose, LeavesCount, CountsExactly}
use Rattle.cxl_bus.specs.RegsState.{RegsState}
use Rattle.cxl_io.specs.Sink.{SinkState, Takes, TakesPrefix}
use Rattle.cxl_media.specs.MediaState.{MediaState}
use Rattle.cxl_reply.specs.Replies.{reply_text}
use Rattle.cxl_machine.specs.Machine.{Machine}
use Rattle.cxl_machine.specs.Scripts.{Asked, Turn}
use Rattle.cxl_machine.specs.Turns.{text_of}
use Rattle.cxl_session.specs.State.{SessionState}
use Rattle.cxl_turns.specs.declared.stops.LineStop.{LineStop}
use Rattle.cxl_turns.specs.declared.stops.LineStop.TheVariants.{Sink, Memory}
use Rattle.cxl_turns.specs.Going.{HasGoneOn}

-- what is asked is answered, and the replies stand whole
pub record IsAnswered (m : Machine) (asked : List Asked) (session : SessionState) (old new : RegsState) (media : MediaState) (before after : SinkState) : Type 0 where
  pub turns : List Turn
  pub gone : HasGoneOn m asked turns session old new media
  pub told : Takes before after (text_of m.settled.nodes turns)
  pub alone : after.counts_failures_alone ≡ before.counts_failures_alone
  pub unswallowed : LeavesCount before.counts_failures_alone before.faults after.faults

-- it is answered, and the sink failed in the reply, behind which no write is tried
pub record IsCutOff (m : Machine) (asked : List Asked) (session : SessionState) (old new : RegsState) (media : MediaState) (before after : SinkState) : Type 0 where
  pub turn : Turn
  pub gone : HasGoneOn m asked (turn ∷ []) session old new media
  pub rose : Rose before.faults after.faults
  pub cut : TakesPrefix before after (reply_text m.settled.nodes turn.reply)
  pub counted : CountsExactly 1 before.counts_failures_alone before.faults after.faults

-- memory ran out, all is as it was, and no write failed
pub record IsLeft (m : Machine) (session : SessionState) (old new : RegsState) (media : MediaState) (before after : SinkState) : Type 0 where
  pub gone : HasGoneOn m [] [] session old new media
  pub told : Takes before after []
  pub unswallowed : LeavesCount before.counts_failures_alone before.faults after.faults

-- what is asked comes to this, as the result says
abbrev pub IsCarriedOut : Machine → List Asked → SessionState → RegsState → RegsState → MediaState → SinkState → SinkState → Result (Unit {0}) LineStop → Type 0
IsCarriedOut m asked session old new media before after (Ok done) = IsAnswered m asked session old new media before after
IsCarriedOut m asked session old new media before after (Err Sink) = IsCutOff m asked session old new media before after
IsCarriedOut m asked session old new media before after (Err Memory) = IsLeft m session old new media before after
