-- Commands that write no bytes keep those of each region.
use Rattle.std.proofs.Common.{◌≡◌, ◌≢◌, ℕ, ◌+◌, ◌⊎◌, Bool, true, false, if◌then◌else◌, List, [], ◌∷◌, ◌++◌, Result, Ok, Err, Option, Some, None, inl, inr, refl, sym, ap, ◌∙◌, subst}
use Rattle.std.specs.Prelude.{Contains, nat_le}
use Rattle.std.specs.List.Sorted.{IsPermutation}
use Rattle.std.specs.FinMap as fin
use Rattle.std.proofs.lemmas.Bool.{false≢true}
use Rattle.std.proofs.lemmas.List.{append-nil}
use Rattle.std.proofs.lemmas.List.Elements.{All-contains, Contains-append_left, Contains-push_cases}
use Rattle.std.proofs.lemmas.List.Sorted.{Contains-permutation}
use Rattle.std.proofs.lemmas.List.Sorted.{IsPermutation-refl, IsPermutation-sym}
use Rattle.std.proofs.lemmas.Option.{slice_get_within, get_or_from_slice_get}
use Rattle.cxl_script.specs.declared.command.Command.{Command}
use Rattle.cxl_script.specs.declared.command.Command.TheVariants as commands
use Rattle.cxl_script.specs.declared.command.Create.{Create}
use Rattle.cxl_model.specs.declared.plan.Row.{Row}
use Rattle.cxl_reply.specs.declared.reply.Reply.{Reply}
use Rattle.cxl_machine.specs.Machine.{Live, RegionJob, JobKind, Creates, Releases, Machine, live_named, region_released, under_release, kept_regions}
use Rattle.cxl_machine.specs.Jobs.{total_of, create_job, release_job, live_while, live_when_done, live_when_undone, at_done, begun, finished, undone}
use Rattle.cxl_machine.specs.Outcomes.{BusOutcome, NoFault, Undone, LeftPending, ReadFailed}
use Rattle.cxl_machine.specs.Requests.{AsksCreate, asked_release}
use Rattle.cxl_machine.specs.Replies.{Answer}
use Rattle.cxl_machine.specs.Regions.{CarriesOutWhole, AnswersWhole, begin_answer, Steps, Aborts, OfPending}
use Rattle.cxl_machine.specs.Answers.{Answers}
use Rattle.cxl_machine.specs.Creating.{AsksLegally}
use Rattle.cxl_machine.specs.Scripts.{Asked, Turn, answer_of, TakesTurn}
use Rattle.cxl_machine.specs.Sound.{IsMachine}
use Rattle.cxl_machine.specs.Trails.{WorksOn}
use Rattle.cxl_machine.proofs.AccessesLeave.{AccessLeaves, as_it_was, stored, copied, moved, access_leaves}
use Rattle.cxl_machine.proofs.CommandKinds.{by_kind}
use Rattle.cxl_machine.proofs.KeepingBegun.{asked_is}
use Rattle.cxl_machine.proofs.KeepingCommands.{none_named, asked_idle}
use Rattle.cxl_machine.proofs.KeepingOrder.{put_back, put_last}
use Rattle.cxl_machine.proofs.KeepingSteps.{released_same}
use Rattle.cxl_flat.specs.Memory.{writes_bytes, IsNew, KeepsBytes}

-- ---- from one machine to the next

keeps_itself : (m : Machine) → KeepsBytes m m
keeps_itself m region there = inl there

-- each region that has bytes in the first machine has them in the second
abbrev pub AllStay : Machine → Machine → Type 0
AllStay m n = (region : Live) → Contains (kept_regions m) region → Contains (kept_regions n) region

-- what is new behind a machine that has all regions of an earlier one is new behind that, too
keeps_on : (m n o : Machine) → KeepsBytes m n → AllStay m n → KeepsBytes n o → KeepsBytes m o
keeps_on m n o one all two region there =
    elim (two region there) [
      | inl before ↦ one region before
      | inr new ↦ inr (record { name = λ other here. new.name other (all other here); zeros = new.zeros })
    ]

kept_with : (m : Machine) (job : RegionJob) → m.job ≡ Some job → m.live ++ region_released job job.kind ≡ kept_regions m
kept_with m job pending = ap (λ (o : Option RegionJob). m.live ++ under_release o) (sym pending)

at_done_keeps : (m : Machine) (job : RegionJob) (done : ℕ) → m.job ≡ Some job → KeepsBytes m (at_done job done m)
at_done_keeps m job done pending region there =
    inl (subst (λ (rs : List Live). Contains rs region) (ap (λ (rs : List Live). m.live ++ rs) (released_same job done job.kind) ∙ kept_with m job pending) there)

-- ---- a job ends

-- a create's region holds no piece, and has a name that no live region has
pub record NewLaws : Type 0 where
  pub made : (m : Machine) (job : RegionJob) (rows : List Row) → IsMachine m → m.job ≡ Some job → job.kind ≡ Creates rows → job.region.contents ≡ fin.empty
  pub name : (m : Machine) (job : RegionJob) → IsMachine m → m.job ≡ Some job → live_named m job.region.name ≡ None

finished_by : (m : Machine) (job : RegionJob) (kind : JobKind) → ((rows : List Row) → kind ≡ Creates rows → IsNew m job.region) → (region : Live)
    → Contains (live_when_done job kind m.live) region → Contains m.live region ⊎ IsNew m region
finished_by m job (Creates rows) made region there =
    elim (Contains-push_cases m.live job.region region there) [
      | inl before ↦ inl before
      | inr new ↦ inr (subst (IsNew m) new (made rows refl))
    ]
finished_by m job (Releases place) made region there = inl there

module _ (laws : NewLaws) (m : Machine) (job : RegionJob) (is : IsMachine m) (pending : m.job ≡ Some job) where
  -- beside a create the machine keeps its live regions alone
  kept_live : (kind : JobKind) (rows : List Row) → kind ≡ Creates rows → (other : Live) → Contains (m.live ++ region_released job kind) other → Contains m.live other
  kept_live (Creates own) rows same other there = subst (λ (rs : List Live). Contains rs other) (append-nil m.live) there
  kept_live (Releases place) rows same other there = absurd (differ same)
    where
      differ : Releases place ≡ Creates rows → ⊥
      differ e = cc

  new_by : (rows : List Row) → job.kind ≡ Creates rows → IsNew m job.region
  new_by rows same = record {
    name = λ other there.
        All-contains (λ (region : Live). region.name ≢ job.region.name) m.live other (none_named job.region.name m.live (laws.name m job is pending))
        (kept_live job.kind rows same other (subst (λ (rs : List Live). Contains rs other) (sym (kept_with m job pending)) there));
    zeros = laws.made m job rows is pending same;
  }

  finished_keeps : KeepsBytes m (finished job m)
  finished_keeps region there =
      elim (finished_by m job job.kind new_by region (subst (λ (rs : List Live). Contains rs region) (append-nil (live_when_done job job.kind m.live)) there)) [
        | inl before ↦ inl (Contains-append_left m.live (under_release m.job) region before)
        | inr new ↦ inr new
      ]

undone_by : (m : Machine) (job : RegionJob) (kind : JobKind) (region : Live) → Contains (live_when_undone job kind m.live) region → Contains (m.live ++ region_released job kind) region
undone_by m job (Creates rows) region there = Contains-append_left m.live [] region there
undone_by m job (Releases place) region there =
    Contains-permutation (live_when_undone job (Releases place) m.live) (m.live ++ job.region ∷ []) region (IsPermutation-sym _ _ (put_back m.live job.region place)) there

undone_keeps : (m : Machine) (job : RegionJob) → m.job ≡ Some job → KeepsBytes m (undone job m)
undone_keeps m job pending region there =
    inl (subst (λ (rs : List Live). Contains rs region) (kept_with m job pending)
    (undone_by m job job.kind region (subst (λ (rs : List Live). Contains rs region) (append-nil (live_when_undone job job.kind m.live)) there)))

-- ---- a job begins

-- a job that begins leaves the regions that have bytes, each with its own
pub record BeginsWith (m : Machine) (job : RegionJob) : Type 0 where
  pub keeps : KeepsBytes m (begun job m)
  pub all : AllStay m (begun job m)

-- nothing is pending before it
kept_idle : (m : Machine) → m.job ≡ None → kept_regions m ≡ m.live
kept_idle m none = ap (λ (o : Option RegionJob). m.live ++ under_release o) none ∙ append-nil m.live

begins_with : (m : Machine) (job : RegionJob) → m.job ≡ None → IsPermutation m.live (live_while job.kind m.live ++ region_released job job.kind) → BeginsWith m job
begins_with m job none same = record {
  keeps = λ region there. inl (subst (λ (rs : List Live). Contains rs region) (sym (kept_idle m none)) (Contains-permutation _ m.live region (IsPermutation-sym _ _ same) there));
  all = λ region there. Contains-permutation m.live _ region same (subst (λ (rs : List Live). Contains rs region) (kept_idle m none) there);
}

create_begins : (m : Machine) (create : Create) (job : RegionJob) → AsksLegally m create → AsksCreate m create (Ok job) → BeginsWith m job
create_begins m create job legally asks =
    subst (BeginsWith m) (sym (legally job asks).made)
    (begins_with m (create_job m.settled (legally job asks).plan) (asked_idle m create job asks)
    (subst (IsPermutation m.live) (sym (append-nil m.live)) (IsPermutation-refl m.live)))

release_begins : (m : Machine) (name : List ℕ) (job : RegionJob) → asked_release m name ≡ Ok job → BeginsWith m job
release_begins m name job asks =
    let own = asked_is m name job asks in
    let within = slice_get_within m.live own.place own.region own.at in
    let read = get_or_from_slice_get m.live own.place own.region own.region own.at in
    subst (BeginsWith m) (sym own.made)
    (begins_with m (release_job m.settled own.place own.region) own.idle (put_last m.live own.region own.place within read))

-- ---- answers

-- what is known of jobs
pub record JobLaws : Type 0 where
  pub new : NewLaws
  pub legal : (m : Machine) (create : Create) → IsMachine m → AsksLegally m create
  pub creates : (m : Machine) (create : Create) (job : RegionJob) → IsMachine m → AsksCreate m create (Ok job) → IsMachine (begun job m)
  pub releases : (m : Machine) (name : List ℕ) (job : RegionJob) → IsMachine m → asked_release m name ≡ Ok job → IsMachine (begun job m)

-- what writes no bytes is none of those that do
no_write : (command other : Command) → writes_bytes (Ok command) ≡ false → command ≡ other → writes_bytes (Ok other) ≡ true → ⊥
no_write command other reads same writes = false≢true (sym reads ∙ ap (λ (c : Command). writes_bytes (Ok c)) same ∙ writes)

module _ (laws : JobLaws) (m : Machine) (is : IsMachine m) where
  abbrev Keeps : Answer → Type 0
  Keeps answer = KeepsBytes m answer.machine

  stays_so : KeepsBytes m m
  stays_so = keeps_itself m

  given : (answer other : Answer) → answer ≡ other → Keeps other → Keeps answer
  given answer other same keeps = subst Keeps (sym same) keeps

  by_test : (b : Bool) (answer other : Answer) → Keeps answer → Keeps other → Keeps (if b then answer else other)
  by_test true answer other first second = first
  by_test false answer other first second = second

  by_leaving : (command : Command) (answer : Answer) → writes_bytes (Ok command) ≡ false → AccessLeaves m command answer → Keeps answer
  by_leaving command answer reads (as_it_was stays) = subst (KeepsBytes m) (sym stays) stays_so
  by_leaving command answer reads (stored store region asks at fits room is) = absurd (no_write command (commands.Store store) reads asks refl)
  by_leaving command answer reads (copied pair from to asks are room is) = absurd (no_write command (commands.Copy pair) reads asks refl)
  by_leaving command answer reads (moved pair from to asks are is) = absurd (no_write command (commands.Move pair) reads asks refl)

  carried_out : (job : RegionJob) → IsMachine (begun job m) → BeginsWith m job → (outcome : BusOutcome) (answer : Answer) → CarriesOutWhole m job outcome answer → Keeps answer
  carried_out job at begins NoFault answer same =
      given answer _ same (keeps_on m (begun job m) (finished job (begun job m)) begins.keeps begins.all (finished_keeps laws.new (begun job m) job at refl))
  carried_out job at begins Undone answer same = given answer _ same stays_so
  carried_out job at begins (LeftPending done) answer same =
      given answer _ same.1 (keeps_on m (begun job m) (at_done job done (begun job m)) begins.keeps begins.all (at_done_keeps (begun job m) job done refl))
  carried_out job at begins ReadFailed answer same = absurd same

  whole : (asked : Result RegionJob Reply) → ((job : RegionJob) → asked ≡ Ok job → IsMachine (begun job m) × BeginsWith m job) → (outcome : BusOutcome) (answer : Answer)
      → AnswersWhole m asked outcome answer → Keeps answer
  whole (Ok job) begins outcome answer at = let own = begins job refl in carried_out job own.0 own.1 outcome answer at
  whole (Err refusal) begins outcome answer at = given answer _ at.told stays_so

  begin : (asked : Result RegionJob Reply) → ((job : RegionJob) → asked ≡ Ok job → IsMachine (begun job m) × BeginsWith m job) → Keeps (begin_answer m asked)
  begin (Ok job) begins = (begins job refl).1.keeps
  begin (Err refusal) begins = stays_so

  creates : (create : Create) (asked : Result RegionJob Reply) → AsksCreate m create asked → (job : RegionJob) → asked ≡ Ok job → IsMachine (begun job m) × BeginsWith m job
  creates create asked asks job same =
      let own = subst (AsksCreate m create) same asks in
      (laws.creates m create job is own, create_begins m create job (laws.legal m create is) own)

  releases : (name : List ℕ) (job : RegionJob) → asked_release m name ≡ Ok job → IsMachine (begun job m) × BeginsWith m job
  releases name job asks = (laws.releases m name job is asks, release_begins m name job asks)

  stepped : (job : RegionJob) → m.job ≡ Some job → (steps : ℕ) (outcome : BusOutcome) (answer : Answer) → Steps m job steps outcome answer → Keeps answer
  stepped job pending steps NoFault answer at =
      given answer _ at (by_test (nat_le (total_of job) (job.done + steps)) _ _ (finished_keeps laws.new m job is pending) (at_done_keeps m job (job.done + steps) pending))
  stepped job pending steps Undone answer at = absurd at
  stepped job pending steps (LeftPending done) answer at = given answer _ at.1 (at_done_keeps m job done pending)
  stepped job pending steps ReadFailed answer at = absurd at

  aborted : (job : RegionJob) → m.job ≡ Some job → (outcome : BusOutcome) (answer : Answer) → Aborts m job outcome answer → Keeps answer
  aborted job pending NoFault answer at = given answer _ at (undone_keeps m job pending)
  aborted job pending Undone answer at = absurd at
  aborted job pending (LeftPending done) answer at = given answer _ at.1 (at_done_keeps m job done pending)
  aborted job pending ReadFailed answer at = absurd at

  pending_keeps : (o : Option RegionJob) → m.job ≡ o → (outcome : BusOutcome) (answer : Answer) (goes : RegionJob → Type 0) → ((job : RegionJob) → m.job ≡ Some job → goes job → Keeps answer)
      → OfPending m o outcome answer goes → Keeps answer
  pending_keeps None none outcome answer goes each at = given answer _ at.told stays_so
  pending_keeps (Some job) pending outcome answer goes each at = each job pending at

  command_keeps : (command : Command) (outcome : BusOutcome) (answer : Answer) → writes_bytes (Ok command) ≡ false → Answers m command outcome answer → Keeps answer
  command_keeps =
      by_kind (λ command. (outcome : BusOutcome) (answer : Answer) → writes_bytes (Ok command) ≡ false → Answers m command outcome answer → Keeps answer)
      record {
        create = λ create outcome answer reads at. whole at.0 (creates create at.0 at.1) outcome answer at.2;
        destroy = λ name outcome answer reads at. whole (asked_release m name) (releases name) outcome answer at;
        begin_create = λ create outcome answer reads at. given answer _ at.2.told (begin at.0 (creates create at.0 at.1));
        begin_destroy = λ name outcome answer reads at. given answer _ at.told (begin (asked_release m name) (releases name));
        step = λ steps outcome answer reads at.
            pending_keeps m.job refl outcome answer (λ job. Steps m job steps outcome answer) (λ job pending. stepped job pending steps outcome answer) at;
        abort = λ outcome answer reads at.
            pending_keeps m.job refl outcome answer (λ job. Aborts m job outcome answer) (λ job pending. aborted job pending outcome answer) at;
      }
      (λ command access outcome answer reads at. by_leaving command answer reads (access_leaves m command outcome answer access at))

  pub turn_keeps : (one : Asked) (turn : Turn) → TakesTurn m one turn → writes_bytes one ≡ false → KeepsBytes m turn.machine
  turn_keeps (Err fault) turn takes reads = subst (λ (t : Turn). KeepsBytes m t.machine) (sym takes) stays_so
  turn_keeps (Ok command) turn takes reads = command_keeps command takes.0 (answer_of turn) reads takes.1

  -- ---- between two words

  begun_on : (job : RegionJob) (at : Machine) (done : ℕ) → BeginsWith m job → at ≡ begun job m → KeepsBytes m (at_done job done at)
  begun_on job at done begins same =
      subst (λ (n : Machine). KeepsBytes m (at_done job done n)) (sym same) (keeps_on m (begun job m) (at_done job done (begun job m)) begins.keeps begins.all (at_done_keeps (begun job m) job done refl))

  goes_on : (job : RegionJob) (at : Machine) (done : ℕ) → m.job ≡ Some job → at ≡ m → KeepsBytes m (at_done job done at)
  goes_on job at done pending same = subst (λ (n : Machine). KeepsBytes m (at_done job done n)) (sym same) (at_done_keeps m job done pending)

  pub works_keeps : (command : Command) (job : RegionJob) (at : Machine) (done : ℕ) → WorksOn m command job at → KeepsBytes m (at_done job done at)
  works_keeps (commands.Create create) job at done works = begun_on job at done (create_begins m create job (laws.legal m create is) works.0) works.1
  works_keeps (commands.Destroy name) job at done works = begun_on job at done (release_begins m name job works.0) works.1
  works_keeps (commands.Step steps) job at done works = goes_on job at done works.0 works.1
  works_keeps commands.Abort job at done works = goes_on job at done works.0 works.1
  works_keeps other job at done works = absurd works
