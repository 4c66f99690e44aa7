-- What comes of a text that is written, and of a reply that is told.
use Rattle.std.specs.Prelude.{◌≡◌, ◌≢◌, ℕ, false, List, Result, Ok, Err}
use Rattle.cxl_enc.specs.Faults.{Rose, LeavesCount, CountsExactly}
use Rattle.cxl_io.specs.Sink.{SinkState, Takes, TakesPrefix}
use Rattle.cxl_topo.specs.declared.node.Node.{Node}
use Rattle.cxl_reply.specs.declared.reply.Reply.{Reply}
use Rattle.cxl_reply.specs.declared.reply.Reply.TheVariants as replies
use Rattle.cxl_reply.specs.Replies.{reply_text, has_short_text}
use Rattle.cxl_turns.specs.declared.stops.LineStop.{LineStop}
use Rattle.cxl_turns.specs.declared.stops.LineStop.TheVariants.{Sink, Memory}

-- all of it stands, and no write failed
pub record IsToldWhole (before after : SinkState) (text : List ℕ) : Type 0 where
  pub told : Takes before after text
  pub alone : after.counts_failures_alone ≡ before.counts_failures_alone
  pub unswallowed : LeavesCount before.counts_failures_alone before.faults after.faults

-- the sink failed in it, behind which no write is tried
pub record IsToldInPart (before after : SinkState) (text : List ℕ) : Type 0 where
  pub cut : TakesPrefix before after text
  pub rose : Rose before.faults after.faults
  pub counted : CountsExactly 1 before.counts_failures_alone before.faults after.faults

-- memory ran out before anything was written, at a reply that tells of nothing that changed and of no fault
pub record IsUntold (before after : SinkState) (reply : Reply) : Type 0 where
  pub long : has_short_text reply ≡ false
  pub no_fault : reply ≢ replies.BusRead
  pub same : after ≡ before

-- a text is written, as the result says
abbrev pub WritesText : SinkState → SinkState → List ℕ → Result (Unit {0}) LineStop → Type 0
WritesText before after text (Ok done) = IsToldWhole before after text
WritesText before after text (Err Sink) = IsToldInPart before after text
WritesText before after text (Err Memory) = ⊥

-- so is that of a reply, if memory does not run out
abbrev pub WritesReply : List Node → SinkState → SinkState → Reply → Result (Unit {0}) LineStop → Type 0
WritesReply nodes before after reply (Ok done) = IsToldWhole before after (reply_text nodes reply)
WritesReply nodes before after reply (Err Sink) = IsToldInPart before after (reply_text nodes reply)
WritesReply nodes before after reply (Err Memory) = IsUntold before after reply
