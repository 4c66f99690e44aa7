-- Behind each word of a command, registers hold the image of a machine.
use Rattle.std.proofs.Common.{◌≡◌, ℕ, ◌+◌, ◌<◌, Bool, true, false, if◌then◌else◌, List, [], length, take, Result, Ok, Err, Option, Some, None, refl, sym, ap, ◌∙◌, subst, arith}
use Rattle.std.specs.Prelude.{nat_le, min}
use Rattle.std.proofs.lemmas.Bool.{leb-true, leb-false}
use Rattle.cxl_bus.specs.declared.sent.Sent.{Sent}
use Rattle.cxl_bus.specs.Trail.{blocks_sent}
use Rattle.cxl_script.specs.declared.command.Command.{Command}
use Rattle.cxl_script.specs.declared.command.Command.TheVariants as commands
use Rattle.cxl_script.specs.declared.command.Create.{Create}
use Rattle.cxl_regs.specs.Registers.{Registers}
use Rattle.cxl_apply.specs.Jobs.{blocks_done}
use Rattle.cxl_model.specs.System.{System}
use Rattle.cxl_reply.specs.declared.reply.Reply.{Reply}
use Rattle.cxl_reply.specs.declared.reply.Reply.TheVariants as replies
use Rattle.cxl_machine.specs.Machine.{RegionJob, Machine, blocks_with, image_of}
use Rattle.cxl_machine.specs.Jobs.{total_of, at_done, begun}
use Rattle.cxl_machine.specs.Outcomes.{BusOutcome, NoFault, Undone, LeftPending, ReadFailed, is_access}
use Rattle.cxl_machine.specs.Replies.{Answer, becomes}
use Rattle.cxl_machine.specs.Requests.{AsksCreate, asked_release}
use Rattle.cxl_machine.specs.Regions.{CarriesOutWhole, AnswersWhole, begin_answer, ended_answer, stepped_answer, Steps, Aborts, OfPending}
use Rattle.cxl_machine.specs.Answers.{Answers}
use Rattle.cxl_machine.specs.Sound.{IsMachine}
use Rattle.cxl_machine.specs.Trails.{forward, SendsWhole, SendsAsked, SendsSteps, SendsAbort, SendsPending, TrailOf, IsOnTheWay}
use Rattle.cxl_machine.proofs.AlikeAnswers.{one_asked}
use Rattle.cxl_machine.proofs.CommandKinds.{by_kind, sends_nothing}
use Rattle.cxl_machine.proofs.KeepingSteps.{part_of}
use Rattle.cxl_machine.proofs.PendingJobs.{JobLaws}
use Rattle.cxl_machine.proofs.SameHost.{access_same}
use Rattle.cxl_machine.proofs.Trails.{Works, forward_way, forward_all, backward_way, backward_all, both_all, goes_back}

-- what is known of jobs that begin
pub record BegunLaws : Type 0 where
  pub create : (m : Machine) (create : Create) (job : RegionJob) → IsMachine m → AsksCreate m create (Ok job) → IsMachine (begun job m)
  pub create_idle : (m : Machine) (create : Create) (job : RegionJob) → AsksCreate m create (Ok job) → m.job ≡ None
  pub create_fresh : (m : Machine) (create : Create) (job : RegionJob) → IsMachine m → AsksCreate m create (Ok job) → job.done ≡ 0
  pub release : (m : Machine) (name : List ℕ) (job : RegionJob) → IsMachine m → asked_release m name ≡ Ok job → IsMachine (begun job m)
  pub release_idle : (m : Machine) (name : List ℕ) (job : RegionJob) → asked_release m name ≡ Ok job → m.job ≡ None
  pub release_fresh : (m : Machine) (name : List ℕ) (job : RegionJob) → asked_release m name ≡ Ok job → job.done ≡ 0

-- ---- the jobs on which commands work

idle_holds : (m : Machine) (job : RegionJob) → m.job ≡ None → job.done ≡ 0 → image_of m ≡ blocks_done m.settled.blocks job.writes job.done
idle_holds m job idle fresh =
    ap (blocks_with m.settled.blocks) idle ∙ ap (blocks_done m.settled.blocks job.writes) (sym fresh)

create_works : BegunLaws → (m : Machine) (create : Create) (job : RegionJob) → IsMachine m → AsksCreate m create (Ok job) → Works m (commands.Create create) job (begun job m)
create_works laws m create job is asks = record {
  works = (asks, refl);
  machine = laws.create m create job is asks;
  pending = refl;
  holds = idle_holds m job (laws.create_idle m create job asks) (laws.create_fresh m create job is asks);
}

release_works : BegunLaws → (m : Machine) (name : List ℕ) (job : RegionJob) → IsMachine m → asked_release m name ≡ Ok job → Works m (commands.Destroy name) job (begun job m)
release_works laws m name job is asks = record {
  works = (asks, refl);
  machine = laws.release m name job is asks;
  pending = refl;
  holds = idle_holds m job (laws.release_idle m name job asks) (laws.release_fresh m name job asks);
}

pending_works : (m : Machine) (steps : ℕ) (job : RegionJob) → IsMachine m → m.job ≡ Some job → Works m (commands.Step steps) job m
pending_works m steps job is pending =
    record { works = (pending, refl); machine = is; pending = pending; holds = ap (blocks_with m.settled.blocks) pending }

abort_works : (m : Machine) (job : RegionJob) → IsMachine m → m.job ≡ Some job → Works m commands.Abort job m
abort_works m job is pending =
    record { works = (pending, refl); machine = is; pending = pending; holds = ap (blocks_with m.settled.blocks) pending }

no_word : {P : Type 0} (trail : List Sent) (k : ℕ) → trail ≡ [] → k < length trail → P
no_word trail k none low = let empty : length trail ≡ 0 = ap length none in absurd (omega (arith, low, empty))

module _ (laws : JobLaws) (begins : BegunLaws) (m : Machine) (is : IsMachine m) where
  -- ---- between two words

  sends_between : (command : Command) (job : RegionJob) → Works m command job (begun job m) → job.done ≡ 0 → (outcome : BusOutcome) (trail : List Sent) (k : ℕ) → SendsWhole job outcome trail
      → (answer : Answer) → CarriesOutWhole m job outcome answer → k < length trail → IsOnTheWay m command (take k trail)
  sends_between command job work fresh NoFault trail k sends answer at low =
      let same : trail ≡ forward job job.done (total_of job) = sends ∙ ap (λ (n : ℕ). forward job n (total_of job)) (sym fresh) in
      subst (λ (words : List Sent). IsOnTheWay m command (take k words)) (sym same)
      (forward_way laws m command job (begun job m) work (total_of job) k (omega arith) (subst (λ (words : List Sent). k < length words) same low))
  sends_between command job work fresh Undone trail k sends answer at low =
      goes_back laws m command job (begun job m) work fresh sends.turn sends.part 0 trail k sends.some sends.sent low
  sends_between command job work fresh (LeftPending done) trail k sends answer at low =
      goes_back laws m command job (begun job m) work fresh sends.turn sends.part done trail k sends.some sends.sent low
  sends_between command job work fresh ReadFailed trail k sends answer at low = absurd at

  whole_between : (command : Command) (asked : Result RegionJob Reply) → ((job : RegionJob) → asked ≡ Ok job → Works m command job (begun job m) × (job.done ≡ 0))
      → (outcome : BusOutcome) (answer : Answer) (trail : List Sent) (k : ℕ) → AnswersWhole m asked outcome answer → SendsAsked asked outcome trail → k < length trail
      → IsOnTheWay m command (take k trail)
  whole_between command (Ok job) works outcome answer trail k at sends low =
      let own = works job refl in
      sends_between command job own.0 own.1 outcome trail k sends answer at low
  whole_between command (Err refusal) works outcome answer trail k at sends low = no_word trail k sends low

  steps_between : (steps : ℕ) (job : RegionJob) → m.job ≡ Some job → (outcome : BusOutcome) (answer : Answer) (trail : List Sent) (k : ℕ) → Steps m job steps outcome answer
      → SendsSteps job steps outcome trail → k < length trail → IsOnTheWay m (commands.Step steps) (take k trail)
  steps_between steps job pending NoFault answer trail k at sends low =
      subst (λ (words : List Sent). IsOnTheWay m (commands.Step steps) (take k words)) (sym sends)
      (forward_way laws m (commands.Step steps) job m (pending_works m steps job is pending) (min (job.done + steps) (total_of job)) k (omega arith)
      (subst (λ (words : List Sent). k < length words) sends low))
  steps_between steps job pending Undone answer trail k at sends low = absurd at
  steps_between steps job pending (LeftPending done) answer trail k at sends low =
      let few = at.0.part in
      subst (λ (words : List Sent). IsOnTheWay m (commands.Step steps) (take k words)) (sym sends)
      (forward_way laws m (commands.Step steps) job m (pending_works m steps job is pending) done k (omega (arith, few)) (subst (λ (words : List Sent). k < length words) sends low))
  steps_between steps job pending ReadFailed answer trail k at sends low = absurd at

  abort_between : (job : RegionJob) → m.job ≡ Some job → (outcome : BusOutcome) (answer : Answer) (trail : List Sent) (k : ℕ) → Aborts m job outcome answer
      → SendsAbort job outcome trail → k < length trail → IsOnTheWay m commands.Abort (take k trail)
  abort_between job pending NoFault answer trail k at sends low =
      subst (λ (words : List Sent). IsOnTheWay m commands.Abort (take k words)) (sym sends)
      (backward_way laws m commands.Abort job m (abort_works m job is pending) 0 k (subst (λ (words : List Sent). k < length words) sends low))
  abort_between job pending Undone answer trail k at sends low = absurd at
  abort_between job pending (LeftPending done) answer trail k at sends low =
      subst (λ (words : List Sent). IsOnTheWay m commands.Abort (take k words)) (sym sends)
      (backward_way laws m commands.Abort job m (abort_works m job is pending) done k (subst (λ (words : List Sent). k < length words) sends low))
  abort_between job pending ReadFailed answer trail k at sends low = absurd at

  by_job : {P : Type 0} (o : Option RegionJob) → m.job ≡ o → (outcome : BusOutcome) (answer : Answer) (trail : List Sent) (goes sends : RegionJob → Type 0)
      → (trail ≡ [] → answer.machine ≡ m → P) → ((job : RegionJob) → m.job ≡ Some job → goes job → sends job → P) → OfPending m o outcome answer goes → SendsPending o trail sends → P
  by_job None none outcome answer trail goes sends idle each at sent = idle sent (ap (λ (a : Answer). a.machine) at.told)
  by_job (Some job) pending outcome answer trail goes sends idle each at sent = each job pending at sent

  asked_create : (create : Create) (asked : Result RegionJob Reply) → AsksCreate m create asked → (job : RegionJob) → asked ≡ Ok job → Works m (commands.Create create) job (begun job m) × (job.done ≡ 0)
  asked_create create asked asks job same =
      let own : AsksCreate m create (Ok job) = subst (AsksCreate m create) same asks in
      (create_works begins m create job is own, begins.create_fresh m create job is own)

  asked_name : (name : List ℕ) (job : RegionJob) → asked_release m name ≡ Ok job → Works m (commands.Destroy name) job (begun job m) × (job.done ≡ 0)
  asked_name name job same = (release_works begins m name job is same, begins.release_fresh m name job same)

  pub between : (command : Command) (outcome : BusOutcome) (answer : Answer) (trail : List Sent) (k : ℕ) → Answers m command outcome answer → TrailOf m command outcome trail → k < length trail
      → IsOnTheWay m command (take k trail)
  between =
      by_kind
      (λ command. (outcome : BusOutcome) (answer : Answer) (trail : List Sent) (k : ℕ) → Answers m command outcome answer → TrailOf m command outcome trail → k < length trail
      → IsOnTheWay m command (take k trail))
      record {
        create = λ create outcome answer trail k at sent low.
            whole_between (commands.Create create) at.0 (asked_create create at.0 at.1) outcome answer trail k at.2
            (subst (λ (a : Result RegionJob Reply). SendsAsked a outcome trail) (one_asked m create sent.0 at.0 sent.1 at.1) sent.2) low;
        destroy = λ name outcome answer trail k at sends low.
            whole_between (commands.Destroy name) (asked_release m name) (asked_name name) outcome answer trail k at sends low;
        begin_create = λ create outcome answer trail k at sends low. no_word trail k sends low;
        begin_destroy = λ name outcome answer trail k at sends low. no_word trail k sends low;
        step = λ steps outcome answer trail k at sends low.
            by_job m.job refl outcome answer trail (λ job. Steps m job steps outcome answer) (λ job. SendsSteps job steps outcome trail) (λ none stays. no_word trail k none low)
            (λ job pending goes sent. steps_between steps job pending outcome answer trail k goes sent low) at sends;
        abort = λ outcome answer trail k at sends low.
            by_job m.job refl outcome answer trail (λ job. Aborts m job outcome answer) (λ job. SendsAbort job outcome trail) (λ none stays. no_word trail k none low)
            (λ job pending goes sent. abort_between job pending outcome answer trail k goes sent low) at sends;
      }
      (λ command access outcome answer trail k at sends low. no_word trail k (sends_nothing m command outcome trail access sends) low)

  -- ---- behind the last word

  abbrev Leaves : List Sent → Answer → Type 0
  Leaves trail answer = blocks_sent (image_of m) trail ≡ image_of answer.machine

  -- these words leave so many writes made, and the machine's registers hold as many
  leaves_done : (trail words : List Sent) (answer other : Answer) (left : List Registers) → trail ≡ words → answer ≡ other → blocks_sent (image_of m) words ≡ left
      → left ≡ image_of other.machine → Leaves trail answer
  leaves_done trail words answer other left sends at one two =
      ap (λ (ws : List Sent). blocks_sent (image_of m) ws) sends ∙ one ∙ two ∙ sym (ap (λ (a : Answer). image_of a.machine) at)

  quiet : (trail : List Sent) (answer : Answer) → trail ≡ [] → image_of m ≡ image_of answer.machine → Leaves trail answer
  quiet trail answer none same = ap (λ (ws : List Sent). blocks_sent (image_of m) ws) none ∙ same

  whole_left : (command : Command) (job : RegionJob) → Works m command job (begun job m) → job.done ≡ 0 → (outcome : BusOutcome) (answer : Answer) (trail : List Sent) → CarriesOutWhole m job outcome answer
      → SendsWhole job outcome trail → Leaves trail answer
  whole_left command job work fresh NoFault answer trail at sends =
      leaves_done trail (forward job job.done (total_of job)) answer _ (blocks_done m.settled.blocks job.writes (total_of job))
      (sends ∙ ap (λ (n : ℕ). forward job n (total_of job)) (sym fresh)) at
      (forward_all laws m command job (begun job m) work (total_of job) (omega (arith, fresh)) (omega arith))
      (laws.ends (begun job m) job work.machine refl)
  whole_left command job work fresh Undone answer trail at sends =
      leaves_done trail _ answer _ (blocks_done m.settled.blocks job.writes 0) sends.sent at
      (both_all laws m command job (begun job m) work fresh sends.turn sends.part 0 sends.some)
      (sym (work.holds ∙ ap (blocks_done m.settled.blocks job.writes) fresh))
  whole_left command job work fresh (LeftPending done) answer trail at sends =
      leaves_done trail _ answer _ (blocks_done m.settled.blocks job.writes done) sends.sent at.1
      (both_all laws m command job (begun job m) work fresh sends.turn sends.part done sends.some) refl
  whole_left command job work fresh ReadFailed answer trail at sends = absurd at

  asked_left : (command : Command) (asked : Result RegionJob Reply) → ((job : RegionJob) → asked ≡ Ok job → Works m command job (begun job m) × (job.done ≡ 0))
      → (outcome : BusOutcome) (answer : Answer) (trail : List Sent) → AnswersWhole m asked outcome answer → SendsAsked asked outcome trail → Leaves trail answer
  asked_left command (Ok job) works outcome answer trail at sends =
      let own = works job refl in
      whole_left command job own.0 own.1 outcome answer trail at sends
  asked_left command (Err refusal) works outcome answer trail at sends = quiet trail answer sends (sym (ap (λ (a : Answer). image_of a.machine) at.told))

  begin_left : (asked : Result RegionJob Reply) → ((job : RegionJob) → asked ≡ Ok job → image_of m ≡ blocks_done m.settled.blocks job.writes job.done) → image_of m ≡ image_of (begin_answer m asked).machine
  begin_left (Ok job) works = works job refl
  begin_left (Err refusal) works = refl

  steps_done : (steps : ℕ) (job : RegionJob) (b : Bool) → m.job ≡ Some job → nat_le (total_of job) (job.done + steps) ≡ b
      → blocks_done m.settled.blocks job.writes (min (job.done + steps) (total_of job))
      ≡ image_of (if b then ended_answer job m else becomes (at_done job (job.done + steps) m) (replies.Stepped record { done = job.done + steps; total = total_of job })).machine
  steps_done steps job true pending last =
      let low = leb-true (total_of job) (job.done + steps) last in
      ap (blocks_done m.settled.blocks job.writes) (let e : min (job.done + steps) (total_of job) ≡ total_of job = omega (arith, low) in e) ∙ laws.ends m job is pending
  steps_done steps job false pending more =
      let low = leb-false (total_of job) (job.done + steps) more in
      ap (blocks_done m.settled.blocks job.writes) (let e : min (job.done + steps) (total_of job) ≡ job.done + steps = omega (arith, low) in e)

  steps_left : (steps : ℕ) (job : RegionJob) → m.job ≡ Some job → (outcome : BusOutcome) (answer : Answer) (trail : List Sent) → Steps m job steps outcome answer → SendsSteps job steps outcome trail
      → Leaves trail answer
  steps_left steps job pending NoFault answer trail at sends =
      let part = part_of m job is pending in
      leaves_done trail _ answer (stepped_answer m job steps) (blocks_done m.settled.blocks job.writes (min (job.done + steps) (total_of job))) sends at
      (forward_all laws m (commands.Step steps) job m (pending_works m steps job is pending) (min (job.done + steps) (total_of job)) (omega (arith, part)) (omega arith))
      (steps_done steps job (nat_le (total_of job) (job.done + steps)) pending refl)
  steps_left steps job pending Undone answer trail at sends = absurd at
  steps_left steps job pending (LeftPending done) answer trail at sends =
      let few = at.0.part in
      leaves_done trail _ answer _ (blocks_done m.settled.blocks job.writes done) sends at.1
      (forward_all laws m (commands.Step steps) job m (pending_works m steps job is pending) done at.0.kept (omega (arith, few))) refl
  steps_left steps job pending ReadFailed answer trail at sends = absurd at

  abort_left : (job : RegionJob) → m.job ≡ Some job → (outcome : BusOutcome) (answer : Answer) (trail : List Sent) → Aborts m job outcome answer → SendsAbort job outcome trail → Leaves trail answer
  abort_left job pending NoFault answer trail at sends =
      leaves_done trail _ answer _ (blocks_done m.settled.blocks job.writes 0) sends at
      (backward_all laws m commands.Abort job m (abort_works m job is pending) 0 (omega arith)) refl
  abort_left job pending Undone answer trail at sends = absurd at
  abort_left job pending (LeftPending done) answer trail at sends =
      leaves_done trail _ answer _ (blocks_done m.settled.blocks job.writes done) sends at.1
      (backward_all laws m commands.Abort job m (abort_works m job is pending) done at.0.part) refl
  abort_left job pending ReadFailed answer trail at sends = absurd at

  access_left : (command : Command) (outcome : BusOutcome) (answer : Answer) (trail : List Sent) → is_access command ≡ true → Answers m command outcome answer → trail ≡ [] → Leaves trail answer
  access_left command outcome answer trail access at none =
      let own = access_same m command outcome answer access at in
      quiet trail answer none
      (ap (λ (s : System). blocks_with s.blocks m.job) (sym own.settled) ∙ ap (λ (o : Option RegionJob). blocks_with answer.machine.settled.blocks o) (sym own.job))

  pub left : (command : Command) (outcome : BusOutcome) (answer : Answer) (trail : List Sent) → Answers m command outcome answer → TrailOf m command outcome trail
      → blocks_sent (image_of m) trail ≡ image_of answer.machine
  left =
      by_kind
      (λ command. (outcome : BusOutcome) (answer : Answer) (trail : List Sent) → Answers m command outcome answer → TrailOf m command outcome trail
      → blocks_sent (image_of m) trail ≡ image_of answer.machine)
      record {
        create = λ create outcome answer trail at sent.
            asked_left (commands.Create create) at.0 (asked_create create at.0 at.1) outcome answer trail at.2
            (subst (λ (a : Result RegionJob Reply). SendsAsked a outcome trail) (one_asked m create sent.0 at.0 sent.1 at.1) sent.2);
        destroy = λ name outcome answer trail at sends. asked_left (commands.Destroy name) (asked_release m name) (asked_name name) outcome answer trail at sends;
        begin_create = λ create outcome answer trail at sends.
            quiet trail answer sends
            (begin_left at.0 (λ job same. (asked_create create at.0 at.1 job same).0.holds) ∙ sym (ap (λ (a : Answer). image_of a.machine) at.2.told));
        begin_destroy = λ name outcome answer trail at sends.
            quiet trail answer sends
            (begin_left (asked_release m name) (λ job same. (asked_name name job same).0.holds) ∙ sym (ap (λ (a : Answer). image_of a.machine) at.told));
        step = λ steps outcome answer trail at sends.
            by_job m.job refl outcome answer trail (λ job. Steps m job steps outcome answer) (λ job. SendsSteps job steps outcome trail) (λ none stays. quiet trail answer none (sym (ap image_of stays)))
            (λ job pending goes sent. steps_left steps job pending outcome answer trail goes sent) at sends;
        abort = λ outcome answer trail at sends.
            by_job m.job refl outcome answer trail (λ job. Aborts m job outcome answer) (λ job. SendsAbort job outcome trail) (λ none stays. quiet trail answer none (sym (ap image_of stays)))
            (λ job pending goes sent. abort_left job pending outcome answer trail goes sent) at sends;
      }
      (λ command access outcome answer trail at sends. access_left command outcome answer trail access at (sends_nothing m command outcome trail access sends))
