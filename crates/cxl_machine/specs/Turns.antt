-- What several turns come to: commands answered one after the other, and their replies as text (this project's rules).
use Rattle.std.specs.Prelude.{ℕ, List, [], ◌∷◌, ◌++◌, length}
use Rattle.std.specs.List.{flat_map}
use Rattle.cxl_bus.specs.declared.sent.Sent.{Sent}
use Rattle.cxl_bus.specs.Failed.{behind}
use Rattle.cxl_topo.specs.declared.node.Node.{Node}
use Rattle.cxl_reply.specs.Replies.{reply_text}
use Rattle.cxl_machine.specs.Machine.{Machine}
use Rattle.cxl_machine.specs.Scripts.{Asked, Turn, TakesTurn}

-- P of each command with its turn, from the machine that the turn before it left
abbrev pub EachTurn : (Machine → Asked → Turn → Type 0) → Machine → List Asked → List Turn → Type 0
EachTurn P m [] [] = Unit {0}
EachTurn P m (one ∷ more) (turn ∷ turns) = P m one turn × EachTurn P turn.machine more turns
EachTurn P m [] (turn ∷ turns) = ⊥
EachTurn P m (one ∷ more) [] = ⊥

-- each is answered by the machine that the one before it left
abbrev pub AreTurns : Machine → List Asked → List Turn → Type 0
AreTurns m asked turns = EachTurn TakesTurn m asked turns

-- the last machine
abbrev pub machine_after : Machine → List Turn → Machine
machine_after m [] = m
machine_after m (turn ∷ turns) = machine_after turn.machine turns

-- the replies as text
abbrev pub text_of : List Node → List Turn → List ℕ
text_of nodes turns = flat_map (λ (turn : Turn). reply_text nodes turn.reply) turns

-- the words that were written, in order
abbrev pub words_sent : List Turn → List Sent
words_sent turns = flat_map (λ (turn : Turn). turn.trail) turns

-- behind how many of these each call of the bus that failed did, in order
abbrev pub failed_in : List Turn → List ℕ
failed_in [] = []
failed_in (turn ∷ turns) = turn.failed ++ behind (length turn.trail) (failed_in turns)
