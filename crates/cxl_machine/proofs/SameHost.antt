-- No command changes the host, and an access no image and no job.
use Rattle.std.proofs.Common.{◌≡◌, ℕ, ◌+◌, Bool, true, false, if◌then◌else◌, Result, Ok, Err, Option, Some, None, refl, sym, ap, ◌∙◌, subst}
use Rattle.std.specs.Prelude.{nat_le}
use Rattle.cxl_script.specs.declared.command.Command.{Command}
use Rattle.cxl_reply.specs.declared.reply.Reply.{Reply}
use Rattle.cxl_model.specs.System.{System}
use Rattle.cxl_machine.specs.Machine.{RegionJob, JobKind, Creates, Releases, Machine, HasSameHost}
use Rattle.cxl_machine.specs.Jobs.{total_of, begun, settled_by, finished}
use Rattle.cxl_machine.specs.Outcomes.{BusOutcome, NoFault, Undone, LeftPending, ReadFailed, is_access}
use Rattle.cxl_machine.specs.Replies.{Answer}
use Rattle.cxl_machine.specs.Regions.{CarriesOutWhole, AnswersWhole, begin_answer, Steps, Aborts, OfPending}
use Rattle.cxl_machine.specs.Requests.{asked_release}
use Rattle.cxl_machine.specs.Answers.{Answers}
use Rattle.cxl_machine.proofs.AccessesLeave.{AccessLeaves, as_it_was, stored, copied, moved, access_leaves}
use Rattle.cxl_machine.proofs.CommandKinds.{by_kind}

-- the same image, job and frames
pub record IsSameButBytes (m n : Machine) : Type 0 where
  pub settled : n.settled ≡ m.settled
  pub job : n.job ≡ m.job
  pub frames : n.frames ≡ m.frames

module _ (m : Machine) where
  -- ---- accesses

  abbrev Same : Answer → Type 0
  Same answer = IsSameButBytes m answer.machine

  same : IsSameButBytes m m
  same = record { settled = refl; job = refl; frames = refl }

  by_leaving : (command : Command) (answer : Answer) → AccessLeaves m command answer → Same answer
  by_leaving command answer (as_it_was stays) = subst (IsSameButBytes m) (sym stays) same
  by_leaving command answer (stored store region asks at fits room is) = subst Same (sym is) record { settled = refl; job = refl; frames = refl }
  by_leaving command answer (copied pair from to asks are room is) = subst Same (sym is) record { settled = refl; job = refl; frames = refl }
  by_leaving command answer (moved pair from to asks are is) = subst Same (sym is) record { settled = refl; job = refl; frames = refl }

  pub access_same : (command : Command) (outcome : BusOutcome) (answer : Answer) → is_access command ≡ true → Answers m command outcome answer → IsSameButBytes m answer.machine
  access_same command outcome answer access at = by_leaving command answer (access_leaves m command outcome answer access at)

  -- ---- jobs

  abbrev Hosts : Answer → Type 0
  Hosts answer = HasSameHost m answer.machine

  host : HasSameHost m m
  host = record { nodes = refl; windows = refl; frames = refl }

  told_as : (answer other : Answer) → answer ≡ other → Hosts other → Hosts answer
  told_as answer other is own = subst Hosts (sym is) own

  choice : (b : Bool) (answer other : Answer) → Hosts answer → Hosts other → Hosts (if b then answer else other)
  choice true answer other first second = first
  choice false answer other first second = second

  settled_nodes : (job : RegionJob) (kind : JobKind) → (settled_by job kind m.settled).nodes ≡ m.settled.nodes
  settled_nodes job (Creates rows) = refl
  settled_nodes job (Releases place) = refl

  settled_windows : (job : RegionJob) (kind : JobKind) → (settled_by job kind m.settled).windows ≡ m.settled.windows
  settled_windows job (Creates rows) = refl
  settled_windows job (Releases place) = refl

  ended : (job : RegionJob) (at : Machine) → at.settled ≡ m.settled → at.frames ≡ m.frames → HasSameHost m (finished job at)
  ended job at image frames = record {
    nodes = ap (λ (s : System). (settled_by job job.kind s).nodes) image ∙ settled_nodes job job.kind;
    windows = ap (λ (s : System). (settled_by job job.kind s).windows) image ∙ settled_windows job job.kind;
    frames = frames;
  }

  carried_out : (job : RegionJob) (outcome : BusOutcome) (answer : Answer) → CarriesOutWhole m job outcome answer → Hosts answer
  carried_out job NoFault answer at = told_as answer _ at (ended job (begun job m) refl refl)
  carried_out job Undone answer at = told_as answer _ at host
  carried_out job (LeftPending done) answer at = told_as answer _ at.1 record { nodes = refl; windows = refl; frames = refl }
  carried_out job ReadFailed answer at = absurd at

  whole : (asked : Result RegionJob Reply) (outcome : BusOutcome) (answer : Answer) → AnswersWhole m asked outcome answer → Hosts answer
  whole (Ok job) outcome answer at = carried_out job outcome answer at
  whole (Err refusal) outcome answer at = told_as answer _ at.told host

  begins : (asked : Result RegionJob Reply) → Hosts (begin_answer m asked)
  begins (Ok job) = record { nodes = refl; windows = refl; frames = refl }
  begins (Err refusal) = host

  stepped : (job : RegionJob) (steps : ℕ) (outcome : BusOutcome) (answer : Answer) → Steps m job steps outcome answer → Hosts answer
  stepped job steps NoFault answer at =
      told_as answer _ at (choice (nat_le (total_of job) (job.done + steps)) _ _ (ended job m refl refl) record { nodes = refl; windows = refl; frames = refl })
  stepped job steps Undone answer at = absurd at
  stepped job steps (LeftPending done) answer at = told_as answer _ at.1 record { nodes = refl; windows = refl; frames = refl }
  stepped job steps ReadFailed answer at = absurd at

  aborted : (job : RegionJob) (outcome : BusOutcome) (answer : Answer) → Aborts m job outcome answer → Hosts answer
  aborted job NoFault answer at = told_as answer _ at record { nodes = refl; windows = refl; frames = refl }
  aborted job Undone answer at = absurd at
  aborted job (LeftPending done) answer at = told_as answer _ at.1 record { nodes = refl; windows = refl; frames = refl }
  aborted job ReadFailed answer at = absurd at

  pending : (o : Option RegionJob) (outcome : BusOutcome) (answer : Answer) (goes : RegionJob → Type 0) → ((job : RegionJob) → goes job → Hosts answer)
      → OfPending m o outcome answer goes → Hosts answer
  pending None outcome answer goes each at = told_as answer _ at.told host
  pending (Some job) outcome answer goes each at = each job at

  by_access : (command : Command) → is_access command ≡ true → (outcome : BusOutcome) (answer : Answer) → Answers m command outcome answer → Hosts answer
  by_access command access outcome answer at =
      let own = access_same command outcome answer access at in
      record { nodes = ap (λ (s : System). s.nodes) own.settled; windows = ap (λ (s : System). s.windows) own.settled; frames = own.frames }

  pub same_host : (command : Command) (outcome : BusOutcome) (answer : Answer) → Answers m command outcome answer → HasSameHost m answer.machine
  same_host =
      by_kind (λ command. (outcome : BusOutcome) (answer : Answer) → Answers m command outcome answer → HasSameHost m answer.machine)
      record {
        create = λ create outcome answer at. whole at.0 outcome answer at.2;
        destroy = λ name outcome answer at. whole (asked_release m name) outcome answer at;
        begin_create = λ create outcome answer at. told_as answer _ at.2.told (begins at.0);
        begin_destroy = λ name outcome answer at. told_as answer _ at.told (begins (asked_release m name));
        step = λ steps outcome answer at. pending m.job outcome answer (λ job. Steps m job steps outcome answer) (λ job. stepped job steps outcome answer) at;
        abort = λ outcome answer at. pending m.job outcome answer (λ job. Aborts m job outcome answer) (λ job. aborted job outcome answer) at;
      }
      by_access
