-- A machine stays one while its job goes on and is not done.
use Rattle.std.proofs.Common.{◌≡◌, ℕ, ◌+◌, ◌<◌, Bool, true, false, if◌then◌else◌, List, ◌++◌, Option, Some, None, refl, sym, ap, ◌∙◌, subst, arith, ◌≤◌}
use Rattle.std.specs.Prelude.{nat_le, IfSome, sum_by}
use Rattle.std.proofs.lemmas.Bool.{leb-false}
use Rattle.std.proofs.lemmas.Option.{none-some}
use Rattle.cxl_machine.specs.Machine.{Live, RegionJob, JobKind, Creates, Releases, Machine, kept_regions, region_released, under_release}
use Rattle.cxl_machine.specs.Jobs.{total_of, at_done, finished, undone}
use Rattle.cxl_machine.specs.Outcomes.{BusOutcome, NoFault, Undone, LeftPending, ReadFailed}
use Rattle.cxl_reply.specs.declared.reply.Reply.TheVariants as replies
use Rattle.cxl_machine.specs.Replies.{Answer, becomes}
use Rattle.cxl_machine.specs.Regions.{ended_answer, stepped_answer, Steps, Aborts, OfPending}
use Rattle.cxl_machine.specs.Sound.{IsMachine, IsJob, IsJobOf, AreKept}
use Rattle.cxl_machine.specs.Copies.{pieces_of}

-- a job at another number of writes has the same regions
pub released_same : (job : RegionJob) (done : ℕ) (kind : JobKind) → region_released (record job { done = done }) kind ≡ region_released job kind
released_same job done (Creates rows) = refl
released_same job done (Releases place) = refl

job_goes_on : (m : Machine) (job : RegionJob) (done : ℕ) (kind : JobKind) → IsJobOf m job kind → IsJobOf (at_done job done m) (record job { done = done }) kind
job_goes_on m job done (Creates rows) create = record {
  plan = create.plan;
  request = create.request;
  legal = create.legal;
  made = ap (λ (j : RegionJob). record j { done = done }) create.made;
  unnamed = create.unnamed;
  room = create.room;
}
job_goes_on m job done (Releases place) release = record {
  made = ap (λ (j : RegionJob). record j { done = done }) release.made;
  unlocked = release.unlocked;
  last = release.last;
  there = release.there;
}

kept_regions_same : (m : Machine) (job : RegionJob) (done : ℕ) → m.job ≡ Some job → kept_regions m ≡ kept_regions (at_done job done m)
kept_regions_same m job done is =
    ap (λ (o : Option RegionJob). m.live ++ under_release o) is ∙ ap (λ (rs : List Live). m.live ++ rs) (sym (released_same job done job.kind))

kept_on : (m : Machine) (job : RegionJob) (done : ℕ) (regions : List Live) → AreKept m regions → AreKept (at_done job done m) regions
kept_on m job done regions kept = record { all = kept.all; names = kept.names; contents = kept.contents; few = kept.few }

pub at_done_keeps : (m : Machine) (job : RegionJob) (done : ℕ) → IsMachine m → m.job ≡ Some job → done < total_of job → IsMachine (at_done job done m)
at_done_keeps m job done is pending part =
    let own : IsJob m job = subst (λ (o : Option RegionJob). IfSome o (IsJob m)) pending is.job in
    record {
      settled = is.settled;
      regions = kept_on m job done _ (subst (AreKept m) (kept_regions_same m job done pending) is.regions);
      job = record { kind = job_goes_on m job done job.kind own.kind; part = part };
      frames = is.frames;
      held = subst (λ (rs : List Live). sum_by pieces_of rs ≤ m.frames) (kept_regions_same m job done pending) is.held;
    }

pub part_of : (m : Machine) (job : RegionJob) → IsMachine m → m.job ≡ Some job → job.done < total_of job
part_of m job is pending = let own : IsJob m job = subst (λ (o : Option RegionJob). IfSome o (IsJob m)) pending is.job in own.part

-- what is known of a machine after a command, where that is the one behind the job's last write, or before its first
module _ (m : Machine) (is : IsMachine m) (answer : Answer)
    (finishes : (job : RegionJob) → m.job ≡ Some job → answer.machine ≡ finished job m → IsMachine answer.machine)
    (undoes : (job : RegionJob) → m.job ≡ Some job → answer.machine ≡ undone job m → IsMachine answer.machine) where
  given : (other : Answer) → answer ≡ other → IsMachine other.machine → IsMachine answer.machine
  given other same keeps = subst (λ (a : Answer). IsMachine a.machine) (sym same) keeps

  step_by : (job : RegionJob) (steps : ℕ) (b : Bool) → nat_le (total_of job) (job.done + steps) ≡ b → m.job ≡ Some job → answer ≡ stepped_answer m job steps → IsMachine answer.machine
  step_by job steps true last pending same =
      finishes job pending
      (ap (λ (a : Answer). a.machine) same
      ∙ ap (λ (t : Bool). (if t then ended_answer job m else becomes (at_done job (job.done + steps) m) (replies.Stepped record { done = job.done + steps; total = total_of job })).machine) last)
  step_by job steps false more pending same =
      given _ (same ∙ ap (λ (t : Bool). if t then ended_answer job m else becomes (at_done job (job.done + steps) m) (replies.Stepped record { done = job.done + steps; total = total_of job })) more)
      (at_done_keeps m job (job.done + steps) is pending (leb-false (total_of job) (job.done + steps) more))

  steps_keep : (job : RegionJob) (steps : ℕ) (outcome : BusOutcome) → m.job ≡ Some job → Steps m job steps outcome answer → IsMachine answer.machine
  steps_keep job steps NoFault pending at = step_by job steps _ refl pending at
  steps_keep job steps Undone pending at = absurd at
  steps_keep job steps (LeftPending done) pending at =
      let part = at.0.part in
      given _ at.1 (at_done_keeps m job done is pending (omega (arith, part)))
  steps_keep job steps ReadFailed pending at = absurd at

  aborts_keep : (job : RegionJob) (outcome : BusOutcome) → m.job ≡ Some job → Aborts m job outcome answer → IsMachine answer.machine
  aborts_keep job NoFault pending at = undoes job pending (ap (λ (a : Answer). a.machine) at)
  aborts_keep job Undone pending at = absurd at
  aborts_keep job (LeftPending done) pending at =
      let part = at.0.part in
      let own = part_of m job is pending in
      given _ at.1 (at_done_keeps m job done is pending (omega (arith, part, own)))
  aborts_keep job ReadFailed pending at = absurd at

  by_job : (outcome : BusOutcome) (o : Option RegionJob) → m.job ≡ o → (goes : RegionJob → Type 0) → ((job : RegionJob) → m.job ≡ Some job → goes job → IsMachine answer.machine)
      → OfPending m o outcome answer goes → IsMachine answer.machine
  by_job outcome None none goes each at = given _ at.told is
  by_job outcome (Some job) pending goes each at = each job pending at

  pub step_keeps : (steps : ℕ) (outcome : BusOutcome) → OfPending m m.job outcome answer (λ job. Steps m job steps outcome answer) → IsMachine answer.machine
  step_keeps steps outcome at = by_job outcome m.job refl (λ job. Steps m job steps outcome answer) (λ job pending goes. steps_keep job steps outcome pending goes) at

  pub abort_keeps : (outcome : BusOutcome) → OfPending m m.job outcome answer (λ job. Aborts m job outcome answer) → IsMachine answer.machine
  abort_keeps outcome at = by_job outcome m.job refl (λ job. Aborts m job outcome answer) (λ job pending goes. aborts_keep job outcome pending goes) at

-- no machine with a job pending is one with none
pub still_pending : (after other : Machine) (job : RegionJob) → after.job ≡ Some job → after ≡ other → other.job ≡ None → IsMachine after
still_pending after other job pending same none = absurd (none-some job (sym none ∙ sym (ap (λ (n : Machine). n.job) same) ∙ pending))
