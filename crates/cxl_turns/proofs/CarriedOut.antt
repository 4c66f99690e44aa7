-- What one line comes to: it is answered, or cut short, or left.
use Rattle.std.proofs.Common.{◌≡◌, ℕ, false, Result, Ok, Err, List, [], ◌∷◌, refl, sym, ap, subst, ◌∙◌}
use Rattle.cxl_bus.proofs.Failed.{fails_nowhere}
use Rattle.cxl_bus.specs.Failed.{HasFailed}
use Rattle.cxl_bus.specs.RegsState.{RegsState, IsUntouched}
use Rattle.cxl_bus.specs.Trail.{trail_with}
use Rattle.cxl_bus.proofs.Trails.{trail_nothing}
use Rattle.cxl_io.specs.Sink.{SinkState, Takes, TakesPrefix}
use Rattle.cxl_io.proofs.Writes.{told_with-nil}
use Rattle.cxl_media.specs.MediaState.{MediaState}
use Rattle.cxl_script.specs.declared.command.Command.{Command}
use Rattle.cxl_script.specs.declared.fault.BadLine.{BadLine}
use Rattle.cxl_script.specs.Grammar.{IsRanged}
use Rattle.cxl_topo.specs.declared.node.Node.{Node}
use Rattle.cxl_reply.specs.declared.reply.Reply.{Reply}
use Rattle.cxl_reply.specs.declared.reply.Reply.TheVariants as replies
use Rattle.cxl_reply.specs.Replies.{reply_text, has_short_text}
use Rattle.cxl_reply.specs.Conditions.{IsTold}
use Rattle.cxl_machine.specs.Machine.{Machine}
use Rattle.cxl_machine.specs.Answers.{Answers}
use Rattle.cxl_machine.specs.Outcomes.{BusOutcome}
use Rattle.cxl_machine.specs.Replies.{Answer}
use Rattle.cxl_machine.specs.Scripts.{Asked, Turn, TakesTurn, answer_of}
use Rattle.cxl_machine.specs.Sound.{IsMachine, IsSound}
use Rattle.cxl_machine.proofs.Leaving.{quiet_turn}
use Rattle.cxl_machine.proofs.WritingNothing.{quiet_words}
use Rattle.cxl_session.specs.State.{SessionState}
use Rattle.cxl_session.specs.Standing.{StandsFor, IsAt, HasTaken}
use Rattle.cxl_turns.specs.declared.stops.LineStop.{LineStop}
use Rattle.cxl_turns.specs.declared.stops.LineStop.TheVariants as stops
use Rattle.cxl_turns.specs.inner.CarriedOut.{IsAnswered, IsCutOff, IsLeft, IsCarriedOut}
use Rattle.cxl_turns.specs.inner.Written.{IsToldWhole, IsToldInPart, IsUntold, WritesText, WritesReply}
use Rattle.cxl_turns.proofs.Going.{text_one, gone_none, gone_one, gone_same}
use Rattle.cxl_turns.proofs.Silent.{silent_turn}

pub takes_none : (before after : SinkState) → after ≡ before → Takes before after []
takes_none before after same = ap (λ (sink : SinkState). sink.taken) same ∙ sym (told_with-nil before.taken)

-- nothing was asked, and nothing is told
pub answered_none : (m : Machine) (session : SessionState) (regs : RegsState) (media : MediaState) (sink : SinkState) → IsAt session regs media m → IsAnswered m [] session regs regs media sink sink
answered_none m session regs media sink at = record {
  turns = [];
  gone = gone_same m session regs media at;
  told = takes_none sink sink refl;
  alone = refl;
  unswallowed = λ _. refl;
}

-- memory ran out before anything was done
pub left_as_it_was : (m : Machine) (session : SessionState) (regs : RegsState) (media : MediaState) (sink : SinkState) → IsAt session regs media m → IsLeft m session regs regs media sink sink
left_as_it_was m session regs media sink at =
    record { gone = gone_same m session regs media at; told = takes_none sink sink refl; unswallowed = λ _. refl }

-- memory ran out within a command
pub left_untouched : (m : Machine) (before session : SessionState) (old new : RegsState) (kept media : MediaState) (sink : SinkState) → IsAt before old kept m
    → session ≡ before → IsUntouched old new → media ≡ kept → HasFailed old new []
    → IsLeft m session old new media sink sink
left_untouched m before session old new kept media sink at same untouched held fails = record {
  gone = gone_none m session old new media at_now untouched.trail fails;
  told = takes_none sink sink refl;
  unswallowed = λ _. refl;
}
  where
    at_now : IsAt session new media m
    at_now = record {
      stands = subst (λ s. StandsFor s m) (sym same) at.stands;
      sound = subst (λ med. IsSound m new.blocks med) (sym held) (subst (λ blocks. IsSound m blocks kept) (sym untouched.blocks) at.sound);
    }

-- one turn, and its reply
module _ (m : Machine) (one : Asked) (turn : Turn) (reply : Reply) (nodes : List Node) (session : SessionState) (old new : RegsState) (media : MediaState) (before after : SinkState)
    (takes : TakesTurn m one turn) (taken : HasTaken turn reply session old new media) (same : m.settled.nodes ≡ nodes) where
  told_text : reply_text nodes reply ≡ reply_text m.settled.nodes turn.reply
  told_text = ap (λ ns. reply_text ns reply) (sym same) ∙ ap (reply_text m.settled.nodes) taken.told

  answered_one : IsToldWhole before after (reply_text nodes reply) → IsAnswered m (one ∷ []) session old new media before after
  answered_one is = record {
    turns = turn ∷ [];
    gone = gone_one m session old new media one turn reply takes taken;
    told = subst (λ text. Takes before after text) (told_text ∙ sym (text_one m.settled.nodes turn)) is.told;
    alone = is.alone;
    unswallowed = is.unswallowed;
  }

  cut_one : IsToldInPart before after (reply_text nodes reply) → IsCutOff m (one ∷ []) session old new media before after
  cut_one is = record {
    turn = turn;
    gone = gone_one m session old new media one turn reply takes taken;
    rose = is.rose;
    cut = subst (λ text. TakesPrefix before after text) told_text is.cut;
    counted = is.counted;
  }

  -- the reply has no short text, and tells of no fault: nothing has changed
  left_one : IsUntold before after reply → IsLeft m session old new media before after
  left_one is =
      let long_turn : has_short_text turn.reply ≡ false = ap has_short_text (sym taken.told) ∙ is.long in
      let none = silent_turn m one turn takes long_turn (λ read. is.no_fault (taken.told ∙ read)) in
      let stays = quiet_turn m one turn takes long_turn in
      record {
        gone =
            gone_none m session old new media
            (subst (λ n. IsAt session new media n) stays taken.at)
            (taken.words ∙ ap (trail_with old.trail) (quiet_words m one turn takes long_turn) ∙ sym (trail_nothing old.trail))
            (subst (HasFailed old new) none taken.fails);
        told = takes_none before after is.same;
        unswallowed = λ _. ap (λ (sink : SinkState). sink.faults) is.same;
      }

  -- it comes to what comes of its reply
  pub carried_one : (result : Result (Unit {0}) LineStop) → WritesReply nodes before after reply result → IsCarriedOut m (one ∷ []) session old new media before after result
  carried_one (Ok done) is = answered_one is
  carried_one (Err stops.Sink) is = cut_one is
  carried_one (Err stops.Memory) is = left_one is

-- what a command is answered can be told
abbrev pub ToldLaw : Type 0
ToldLaw = (m : Machine) (command : Command) (outcome : BusOutcome) (answer : Answer) → IsMachine m → IsRanged command → Answers m command outcome answer → IsTold m.settled.nodes answer.reply

pub reply_told : ToldLaw → (m : Machine) (command : Command) (turn : Turn) (reply : Reply) (nodes : List Node) (session : SessionState) (old new : RegsState) (media : MediaState)
    → IsMachine m → IsRanged command → TakesTurn m (Ok command) turn → HasTaken turn reply session old new media → m.settled.nodes ≡ nodes → IsTold nodes reply
reply_told law m command turn reply nodes session old new media machine ranged (outcome, answers, trail, fails) taken same =
    subst (λ ns. IsTold ns reply) same (subst (λ r. IsTold m.settled.nodes r) (sym taken.told) (law m command outcome (answer_of turn) machine ranged answers))

-- the turn of a line that asks for nothing
abbrev pub bad_turn : Machine → BadLine → Turn
bad_turn m fault = record { reply = replies.BadLine fault; machine = m; trail = []; failed = [] }

pub bad_taken : (m : Machine) (fault : BadLine) (session : SessionState) (regs : RegsState) (media : MediaState) → IsAt session regs media m
    → HasTaken (bad_turn m fault) (replies.BadLine fault) session regs regs media
bad_taken m fault session regs media at = record {
  told = refl;
  at = at;
  words = trail_nothing regs.trail;
  fails = fails_nowhere regs;
}

-- ---- a text that is written

-- it is that of the reply
pub reply_written : (nodes : List Node) (before after : SinkState) (text : List ℕ) (reply : Reply) (result : Result (Unit {0}) LineStop) → text ≡ reply_text nodes reply
    → WritesText before after text result → WritesReply nodes before after reply result
reply_written nodes before after text reply (Ok done) same is = subst (IsToldWhole before after) same is
reply_written nodes before after text reply (Err stops.Sink) same is = subst (IsToldInPart before after) same is
reply_written nodes before after text reply (Err stops.Memory) same is = absurd is
