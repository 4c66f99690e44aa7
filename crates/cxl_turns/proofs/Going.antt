-- What goes on from where others went.
use Rattle.std.proofs.Common.{◌≡◌, Ok, Err, List, [], ◌∷◌, ◌++◌, refl, sym, ap, subst, ◌∙◌}
use Rattle.std.proofs.lemmas.Grind.{flat_map-append}
use Rattle.std.proofs.lemmas.List.{append-nil}
use Rattle.cxl_bus.proofs.Failed.{fails_both, fails_nowhere}
use Rattle.cxl_bus.specs.Failed.{HasFailed}
use Rattle.cxl_bus.specs.RegsState.{RegsState}
use Rattle.cxl_bus.specs.Trail.{trail_with}
use Rattle.cxl_bus.proofs.Trails.{trail_nothing, trail_append}
use Rattle.cxl_media.specs.MediaState.{MediaState}
use Rattle.cxl_topo.specs.declared.node.Node.{Node}
use Rattle.cxl_reply.specs.declared.reply.Reply.{Reply}
use Rattle.cxl_reply.specs.Replies.{reply_text}
use Rattle.cxl_machine.specs.Machine.{Machine}
use Rattle.cxl_machine.specs.Scripts.{Asked, Turn, answer_of, TakesTurn}
use Rattle.cxl_machine.specs.Turns.{AreTurns, machine_after, text_of, words_sent, failed_in}
use Rattle.cxl_machine.proofs.Fails.{failed_both}
use Rattle.cxl_machine.proofs.GoingOn.{after_both}
use Rattle.cxl_machine.proofs.SameHost.{same_host}
use Rattle.cxl_session.specs.State.{SessionState}
use Rattle.cxl_session.specs.Standing.{IsAt, HasTaken}
use Rattle.cxl_turns.specs.Going.{HasGoneOn}

-- ---- turns

turns_both : (m : Machine) (asked more : List Asked) (turns others : List Turn) → AreTurns m asked turns → AreTurns (machine_after m turns) more others
    → AreTurns m (asked ++ more) (turns ++ others)
turns_both m [] more [] others are next = next
turns_both m [] more (turn ∷ turns) others are next = absurd are
turns_both m (one ∷ asked) more [] others are next = absurd are
turns_both m (one ∷ asked) more (turn ∷ turns) others (took, are) next = (took, turns_both turn.machine asked more turns others are next)

one_host : (m : Machine) (one : Asked) (turn : Turn) → TakesTurn m one turn → turn.machine.settled.nodes ≡ m.settled.nodes
one_host m (Err fault) turn is = ap (λ (t : Turn). t.machine.settled.nodes) is
one_host m (Ok command) turn is = (same_host m command is.0 (answer_of turn) is.1).nodes

-- the nodes stay
pub nodes_after : (m : Machine) (asked : List Asked) (turns : List Turn) → AreTurns m asked turns → (machine_after m turns).settled.nodes ≡ m.settled.nodes
nodes_after m [] [] are = refl
nodes_after m [] (turn ∷ turns) are = absurd are
nodes_after m (one ∷ asked) [] are = absurd are
nodes_after m (one ∷ asked) (turn ∷ turns) (took, are) = nodes_after turn.machine asked turns are ∙ one_host m one turn took

-- the text of turns, and of others behind them
pub text_both : (nodes : List Node) (turns others : List Turn) → text_of nodes (turns ++ others) ≡ text_of nodes turns ++ text_of nodes others
text_both nodes turns others = flat_map-append (λ (turn : Turn). reply_text nodes turn.reply) turns others

pub text_one : (nodes : List Node) (turn : Turn) → text_of nodes (turn ∷ []) ≡ reply_text nodes turn.reply
text_one nodes turn = append-nil (reply_text nodes turn.reply)

-- ---- going on

module _ (m : Machine) (session : SessionState) (old new : RegsState) (media : MediaState) where
  -- nothing is asked
  pub gone_none : IsAt session new media m → new.trail ≡ old.trail → HasFailed old new [] → HasGoneOn m [] [] session old new media
  gone_none at trail fails = record { answered = tt; at = at; words = trail ∙ trail_nothing old.trail; fails = fails }

  -- one turn is taken
  pub gone_one : (one : Asked) (turn : Turn) (reply : Reply) → TakesTurn m one turn → HasTaken turn reply session old new media
      → HasGoneOn m (one ∷ []) (turn ∷ []) session old new media
  gone_one one turn reply takes taken = record {
    answered = (takes, tt);
    at = taken.at;
    words = taken.words ∙ ap (trail_with old.trail) (sym (append-nil turn.trail));
    fails = subst (HasFailed old new) (sym (append-nil turn.failed)) taken.fails;
  }

-- some turns, and others behind them
module _ (m : Machine) (asked more : List Asked) (turns others : List Turn) (mid session : SessionState) (old now new : RegsState) (between media : MediaState) where
  pub gone_both : HasGoneOn m asked turns mid old now between → HasGoneOn (machine_after m turns) more others session now new media
      → HasGoneOn m (asked ++ more) (turns ++ others) session old new media
  gone_both first second = record {
    answered = turns_both m asked more turns others first.answered second.answered;
    at = subst (λ n. IsAt session new media n) (sym (after_both m turns others)) second.at;
    words =
        second.words ∙ ap (λ trail. trail_with trail (words_sent others)) first.words
        ∙ trail_append old.trail (words_sent turns) (words_sent others)
        ∙ ap (trail_with old.trail) (sym (flat_map-append (λ (turn : Turn). turn.trail) turns others));
    fails =
        subst (HasFailed old new) (sym (failed_both turns others))
        (fails_both old now new (words_sent turns) (failed_in turns) (failed_in others) first.words first.fails second.fails);
  }

-- nothing is asked, and nothing has changed
pub gone_same : (m : Machine) (session : SessionState) (regs : RegsState) (media : MediaState) → IsAt session regs media m → HasGoneOn m [] [] session regs regs media
gone_same m session regs media at = gone_none m session regs regs media at refl (fails_nowhere regs)

-- nothing is asked behind some turns
pub gone_still : (m : Machine) (asked : List Asked) (turns : List Turn) (mid session : SessionState) (old now new : RegsState) (between media : MediaState)
    → HasGoneOn m asked turns mid old now between → HasGoneOn (machine_after m turns) [] [] session now new media → HasGoneOn m asked turns session old new media
gone_still m asked turns mid session old now new between media first second =
    subst (λ all. HasGoneOn m all turns session old new media) (append-nil asked)
    (subst (λ (all : List Turn). HasGoneOn m (asked ++ []) all session old new media) (append-nil turns)
    (gone_both m asked [] turns [] mid session old now new between media first second))
