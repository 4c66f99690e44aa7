-- A script goes on: turns behind others, and lines behind others.
use Rattle.std.proofs.Common.{◌≡◌, ℕ, List, [], ◌∷◌, ◌++◌, Option, Some, None, Result, Ok, Err, refl, ap, ◌∙◌}
use Rattle.cxl_script.specs.declared.command.Command.{Command}
use Rattle.cxl_script.specs.declared.fault.BadLine.{BadLine}
use Rattle.cxl_script.specs.Grammar.{asked_in}
use Rattle.cxl_machine.specs.Machine.{Machine}
use Rattle.cxl_machine.specs.Scripts.{Asked, asked_before, lines_asked, Turn, TakesTurn}
use Rattle.cxl_machine.specs.Turns.{AreTurns, machine_after}

-- ---- turns

pub one_more : (m : Machine) (asked : List Asked) (turns : List Turn) (one : Asked) (turn : Turn) → AreTurns m asked turns → TakesTurn (machine_after m turns) one turn
    → AreTurns m (asked ++ one ∷ []) (turns ++ turn ∷ [])
one_more m [] [] one turn are takes = (takes, tt)
one_more m [] (first ∷ turns) one turn are takes = absurd are
one_more m (head ∷ asked) [] one turn are takes = absurd are
one_more m (head ∷ asked) (first ∷ turns) one turn (took, are) takes = (took, one_more first.machine asked turns one turn are takes)

-- turns over a list and more are turns over the list, and go on from the machine after these
pub parted : (m : Machine) (asked more : List Asked) (turns : List Turn) → AreTurns m (asked ++ more) turns
    → (first : List Turn) × (rest : List Turn) × (turns ≡ first ++ rest) × AreTurns m asked first × AreTurns (machine_after m first) more rest
parted m [] more turns are = ([], turns, refl, tt, are)
parted m (head ∷ asked) more [] are = absurd are
parted m (head ∷ asked) more (turn ∷ turns) (took, are) =
    let own = parted turn.machine asked more turns are in
    (turn ∷ own.0, own.1, ap (λ (ts : List Turn). turn ∷ ts) own.2, (took, own.3), own.4)

pub after_both : (m : Machine) (turns others : List Turn) → machine_after m (turns ++ others) ≡ machine_after (machine_after m turns) others
after_both m [] others = refl
after_both m (turn ∷ turns) others = after_both turn.machine turns others

-- ---- lines

before_more : (one : Result (Option Command) BadLine) (more others : List Asked) → asked_before one (more ++ others) ≡ asked_before one more ++ others
before_more (Ok None) more others = refl
before_more (Ok (Some command)) more others = refl
before_more (Err fault) more others = refl

pub lines_more : (lines others : List (List ℕ)) → lines_asked (lines ++ others) ≡ lines_asked lines ++ lines_asked others
lines_more [] others = refl
lines_more (line ∷ lines) others =
    ap (asked_before (asked_in line)) (lines_more lines others) ∙ before_more (asked_in line) (lines_asked lines) (lines_asked others)
