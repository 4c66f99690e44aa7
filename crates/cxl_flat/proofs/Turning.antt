-- Each turn behaves as on flat memory, from one machine that a session can stand for to the next.
use Rattle.std.proofs.Common.{◌≡◌, ℕ, ◌<◌, true, false, List, [], ◌∷◌, length, take, Ok, Err, inl, refl, sym, ◌∙◌, subst, arith}
use Rattle.std.specs.Prelude.{IfOk}
use Rattle.std.proofs.lemmas.List.Elements.{All-head, All-tail}
use Rattle.cxl_bus.specs.declared.sent.Sent.{Sent}
use Rattle.cxl_bus.specs.Trail.{blocks_sent}
use Rattle.cxl_script.specs.declared.command.Command.{Command}
use Rattle.cxl_script.specs.declared.command.Command.TheVariants as commands
use Rattle.cxl_script.specs.Grammar.{IsRanged}
use Rattle.cxl_machine.specs.Machine.{RegionJob, Machine, HasSameHost, image_of}
use Rattle.cxl_machine.specs.Jobs.{at_done, begun}
use Rattle.cxl_machine.specs.Outcomes.{BusOutcome, NoFault, StoresBytes}
use Rattle.cxl_machine.specs.Replies.{Answer, is_refusal}
use Rattle.cxl_machine.specs.Answers.{Answers}
use Rattle.cxl_machine.specs.Scripts.{Asked, Turn, answer_of, TakesTurn}
use Rattle.cxl_machine.specs.Sound.{IsMachine}
use Rattle.cxl_machine.proofs.Fails.{without_fault}
use Rattle.cxl_machine.specs.Trails.{TrailOf, WorksOn, IsOnTheWay}
use Rattle.cxl_machine.specs.Turns.{EachTurn, AreTurns, machine_after}
use Rattle.cxl_flat.specs.Memory.{IsFlatAccess, writes_bytes, KeepsBytes}
use Rattle.cxl_flat.specs.Flat.{IsFlat, AreRanged, IsFlatTurn}

-- what is known of one command
pub record TurnLaws : Type 0 where
  pub flat : (m : Machine) → IsMachine m → IsFlat m
  pub accesses : (m : Machine) (one : Asked) (turn : Turn) → IsMachine m → TakesTurn m one turn → IsFlatAccess m one turn
  pub bytes : (m : Machine) (one : Asked) (turn : Turn) → IsMachine m → TakesTurn m one turn → writes_bytes one ≡ false → KeepsBytes m turn.machine
  pub between : (m : Machine) (command : Command) (outcome : BusOutcome) (answer : Answer) (trail : List Sent) (k : ℕ) → IsMachine m → Answers m command outcome answer → TrailOf m command outcome trail → k < length trail → IsOnTheWay m command (take k trail)
  pub way : (m : Machine) (command : Command) (words : List Sent) (way : IsOnTheWay m command words) → IsMachine m → KeepsBytes m (at_done way.job way.done way.at)
  pub left : (m : Machine) (command : Command) (outcome : BusOutcome) (answer : Answer) (trail : List Sent) → IsMachine m → Answers m command outcome answer → TrailOf m command outcome trail → blocks_sent (image_of m) trail ≡ image_of answer.machine
  pub keeps : (m : Machine) (command : Command) (outcome : BusOutcome) (answer : Answer) → IsMachine m → StoresBytes command → Answers m command outcome answer → IsMachine answer.machine
  pub host : (m : Machine) (command : Command) (outcome : BusOutcome) (answer : Answer) → Answers m command outcome answer → HasSameHost m answer.machine
  pub leaves : (m : Machine) (command : Command) (outcome : BusOutcome) (answer : Answer) → Answers m command outcome answer → is_refusal answer.reply ≡ true → answer.machine ≡ m
  pub quiet : (m : Machine) (command : Command) (answer : Answer) (trail : List Sent) → Answers m command NoFault answer → is_refusal answer.reply ≡ true → TrailOf m command NoFault trail → trail ≡ []

-- what a command stores are bytes
stores : (command : Command) → IsRanged command → StoresBytes command
stores (commands.Store store) is = is.2
stores other is = tt

same_host : (m : Machine) → HasSameHost m m
same_host m = record { nodes = refl; windows = refl; frames = refl }

-- a machine on a command's way is over the host of the one before it
over_host : (m n at : Machine) (job : RegionJob) (done : ℕ) → HasSameHost m n → at ≡ n → HasSameHost m (at_done job done at)
over_host m n at job done same is = subst (λ (o : Machine). HasSameHost m (at_done job done o)) (sym is) record { nodes = same.nodes; windows = same.windows; frames = same.frames }

way_host : (m : Machine) (command : Command) (job : RegionJob) (at : Machine) (done : ℕ) → WorksOn m command job at → HasSameHost m (at_done job done at)
way_host m (commands.Create create) job at done works = over_host m (begun job m) at job done record { nodes = refl; windows = refl; frames = refl } works.1
way_host m (commands.Destroy name) job at done works = over_host m (begun job m) at job done record { nodes = refl; windows = refl; frames = refl } works.1
way_host m (commands.Step steps) job at done works = over_host m m at job done (same_host m) works.1
way_host m commands.Abort job at done works = over_host m m at job done (same_host m) works.1
way_host m other job at done works = absurd works

two_hosts : (m n o : Machine) → HasSameHost m n → HasSameHost n o → HasSameHost m o
two_hosts m n o one two = record { nodes = two.nodes ∙ one.nodes; windows = two.windows ∙ one.windows; frames = two.frames ∙ one.frames }

module _ (laws : TurnLaws) where
  one_flat : (m : Machine) (one : Asked) (turn : Turn) → IsMachine m → IfOk one IsRanged → TakesTurn m one turn → IsFlatTurn m one turn
  one_flat m (Err fault) turn is ranged takes =
      let flat = laws.flat m is in
      subst (IsFlatTurn m (Err fault)) (sym takes) record {
        answered = refl;
        memory = tt;
        bytes = λ reads region there. inl there;
        machine = is;
        host = same_host m;
        carries = flat.carries;
        pending = flat.pending;
        left = refl;
        between = λ k below. absurd (omega (arith, below));
        refused = λ refusal. refl;
        silent = λ refusal none. refl;
      }
  one_flat m (Ok command) turn is ranged takes =
      let outcome : BusOutcome = takes.0 in
      let after = laws.keeps m command outcome (answer_of turn) is (stores command ranged) takes.1 in
      let flat = laws.flat turn.machine after in
      record {
        answered = takes;
        memory = laws.accesses m (Ok command) turn is takes;
        bytes = laws.bytes m (Ok command) turn is takes;
        machine = after;
        host = laws.host m command outcome (answer_of turn) takes.1;
        carries = flat.carries;
        pending = flat.pending;
        left = laws.left m command outcome (answer_of turn) turn.trail is takes.1 takes.2;
        between = λ k below.
            let way = laws.between m command outcome (answer_of turn) turn.trail k is takes.1 takes.2 below in
            record {
              way = way;
              flat = laws.flat (at_done way.job way.done way.at) way.machine;
              host = way_host m command way.job way.at way.done way.works;
              bytes = laws.way m command (take k turn.trail) way is;
            };
        refused = λ refusal. laws.leaves m command outcome (answer_of turn) takes.1 refusal;
        silent = λ refusal none.
            let whole = without_fault m command outcome turn.trail turn.failed takes.3 none in
            laws.quiet m command (answer_of turn) turn.trail
            (subst (λ (o : BusOutcome). Answers m command o (answer_of turn)) whole takes.1)
            refusal
            (subst (λ (o : BusOutcome). TrailOf m command o turn.trail) whole takes.2);
      }

  pub each_flat : (m : Machine) (asked : List Asked) (turns : List Turn) → IsMachine m → AreRanged asked → AreTurns m asked turns → EachTurn IsFlatTurn m asked turns
  each_flat m [] [] is ranged are = tt
  each_flat m [] (turn ∷ turns) is ranged are = absurd are
  each_flat m (one ∷ more) [] is ranged are = absurd are
  each_flat m (one ∷ more) (turn ∷ turns) is ranged (takes, are) =
      let own = one_flat m one turn is (All-head (λ (a : Asked). IfOk a IsRanged) one more ranged) takes in
      (own, each_flat turn.machine more turns own.machine (All-tail (λ (a : Asked). IfOk a IsRanged) one more ranged) are)

-- the last machine is one, over the host of the first
pub last_machine : (m : Machine) (asked : List Asked) (turns : List Turn) → IsMachine m → EachTurn IsFlatTurn m asked turns → IsMachine (machine_after m turns)
last_machine m [] [] is each = is
last_machine m [] (turn ∷ turns) is each = absurd each
last_machine m (one ∷ more) [] is each = absurd each
last_machine m (one ∷ more) (turn ∷ turns) is (own, each) = last_machine turn.machine more turns own.machine each

pub last_host : (m : Machine) (asked : List Asked) (turns : List Turn) → EachTurn IsFlatTurn m asked turns → HasSameHost m (machine_after m turns)
last_host m [] [] each = same_host m
last_host m [] (turn ∷ turns) each = absurd each
last_host m (one ∷ more) [] each = absurd each
last_host m (one ∷ more) (turn ∷ turns) (own, each) = two_hosts m turn.machine (machine_after turn.machine turns) own.host (last_host turn.machine more turns each)
