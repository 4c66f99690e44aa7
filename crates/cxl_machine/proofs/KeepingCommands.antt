-- Each command leaves a machine that a session can stand for.
use Rattle.std.proofs.Common.{◌≡◌, ◌≢◌, ℕ, ◌<◌, Bool, true, false, if◌then◌else◌, List, [], ◌∷◌, length, Result, Ok, Err, Option, Some, None, refl, sym, ap, ◌∙◌, subst, inl, inr}
use Rattle.std.specs.Prelude.{All, nat_le, find}
use Rattle.std.specs.Str.{bytes_eq}
use Rattle.std.proofs.lemmas.Bool.{cases_Bool, cond-true, cond-false, false≢true, leb-false}
use Rattle.std.proofs.lemmas.List.Elements.{All-nil, All-cons}
use Rattle.std.proofs.lemmas.Option.{none-some}
use Rattle.std.proofs.lemmas.Slice.Eq.{bytes_eq-Decides}
use Rattle.cxl_script.specs.declared.command.Command.{Command}
use Rattle.cxl_script.specs.declared.command.Create.{Create}
use Rattle.cxl_model.specs.declared.plan.Plan.{Plan}
use Rattle.cxl_model.specs.declared.request.Request.{Request}
use Rattle.cxl_model.specs.Plans.{IsLegalPlan}
use Rattle.cxl_reply.specs.declared.reply.Reply.{Reply}
use Rattle.cxl_reply.specs.declared.reply.Reply.TheVariants as replies
use Rattle.cxl_machine.specs.Machine.{Live, RegionJob, Machine, live_named}
use Rattle.cxl_model.specs.Listed.{region_limit}
use Rattle.cxl_machine.specs.Jobs.{create_job, begun, finished, undone}
use Rattle.cxl_machine.specs.Outcomes.{BusOutcome, NoFault, Undone, LeftPending, ReadFailed, is_access, StoresBytes}
use Rattle.cxl_machine.specs.Requests.{busy, name_taken, no_endpoint, regions_full, refusal_of_create, AsksUnless, AsksCreate, asked_release}
use Rattle.cxl_machine.specs.Replies.{Answer}
use Rattle.cxl_machine.specs.Regions.{AnswersWhole, begin_answer}
use Rattle.cxl_machine.specs.Answers.{Answers}
use Rattle.cxl_machine.specs.Creating.{AsksLegally}
use Rattle.cxl_machine.specs.Sound.{IsMachine}
use Rattle.cxl_machine.proofs.CommandKinds.{by_kind}
use Rattle.cxl_machine.proofs.KeepingSteps.{at_done_keeps, step_keeps, abort_keeps}
use Rattle.cxl_machine.proofs.KeepingBegun.{none_of_map, none_there, idle}

-- what is known of each part of a command
pub record PartLaws : Type 0 where
  pub accesses : (m : Machine) (command : Command) (outcome : BusOutcome) (answer : Answer) → IsMachine m → is_access command ≡ true → StoresBytes command → Answers m command outcome answer → IsMachine answer.machine
  pub undoes : (m : Machine) (job : RegionJob) → IsMachine m → m.job ≡ Some job → IsMachine (undone job m)
  pub finishes : (m : Machine) (job : RegionJob) → IsMachine m → m.job ≡ Some job → IsMachine (finished job m)
  pub releases : (m : Machine) (name : List ℕ) (job : RegionJob) → IsMachine m → asked_release m name ≡ Ok job → IsMachine (begun job m)
  pub creates : (m : Machine) (create : Create) (job : RegionJob) → IsMachine m → AsksCreate m create (Ok job) → IsMachine (begun job m)

-- a create of a legal plan begins
abbrev pub BeginsLaw : Type 0
BeginsLaw =
    (m : Machine) (request : Request) (plan : Plan) → IsMachine m → m.job ≡ None → IsLegalPlan m.settled request plan → All (λ (region : Live). region.name ≢ plan.name) m.live
    → length m.live < region_limit → IsMachine (begun (create_job m.settled plan) m)

-- ---- a create that is not refused

-- where no region has a name, each has another
pub none_named : (name : List ℕ) (live : List Live) → find (λ (region : Live). bytes_eq region.name name) live ≡ None → All (λ (region : Live). region.name ≢ name) live
none_named name [] none = All-nil (λ (region : Live). region.name ≢ name)
none_named name (region ∷ rest) none =
    elim (cases_Bool (bytes_eq region.name name)) [
      | inl is ↦ absurd (none-some region (sym none ∙ cond-true (bytes_eq region.name name) (Some region) (find (λ (r : Live). bytes_eq r.name name) rest) is))
      | inr other ↦
          All-cons (λ (r : Live). r.name ≢ name) region rest (λ same. false≢true (sym other ∙ (bytes_eq-Decides region.name name).1 same))
          (none_named name rest (sym (cond-false (bytes_eq region.name name) (Some region) (find (λ (r : Live). bytes_eq r.name name) rest) other) ∙ none))
    ]

room_by : (b : Bool) → (if b then Some replies.RegionsFull else None) ≡ None → b ≡ false
room_by true is = absurd (none-some replies.RegionsFull (sym is))
room_by false is = refl

-- what is known where a create is not refused before its plan is sought
record Unrefused (m : Machine) (create : Create) : Type 0 where
  idle : m.job ≡ None
  unnamed : All (λ (region : Live). region.name ≢ create.name) m.live
  room : length m.live < region_limit

unrefused : (m : Machine) (create : Create) → refusal_of_create m create ≡ None → Unrefused m create
unrefused m create none =
    let parts = none_there (busy m) (name_taken m create.name) (no_endpoint m create.endpoints) (regions_full m) none in
    record {
      idle = idle m parts.0;
      unnamed = none_named create.name m.live (none_of_map (λ (region : Live). replies.NameTaken create.name) (live_named m create.name) parts.1);
      room = leb-false region_limit (length m.live) (room_by (nat_le region_limit (length m.live)) parts.3);
    }

by_refusal : (m : Machine) (create : Create) (job : RegionJob) (o : Option Reply) → refusal_of_create m create ≡ o → AsksUnless m create o (Ok job) → Unrefused m create
by_refusal m create job (Some refusal) some asks = absurd (differ asks)
  where
    differ : ◌≡◌ {A = Result RegionJob Reply} (Ok job) (Err refusal) → ⊥
    differ e = cc
by_refusal m create job None none asks = unrefused m create none

module _ (m : Machine) (create : Create) (job : RegionJob) (asks : AsksCreate m create (Ok job)) where
  free : Unrefused m create
  free = by_refusal m create job (refusal_of_create m create) refl asks

  pub asked_idle : m.job ≡ None
  asked_idle = free.idle

  pub asked_fresh : AsksLegally m create → job.done ≡ 0
  asked_fresh legally = ap (λ (j : RegionJob). j.done) (legally job asks).made

  pub create_begins : BeginsLaw → IsMachine m → AsksLegally m create → IsMachine (begun job m)
  create_begins law is legally =
      let own = legally job asks in
      let name : create.name ≡ own.plan.name = sym own.named ∙ sym own.legal.1.named in
      subst (λ (j : RegionJob). IsMachine (begun j m)) (sym own.made)
      (law m own.request own.plan is free.idle own.legal (subst (λ (n : List ℕ). All (λ (region : Live). region.name ≢ n) m.live) name free.unnamed) free.room)

module _ (laws : PartLaws) (m : Machine) (is : IsMachine m) where
  -- ---- whole jobs

  given : (answer other : Answer) → answer ≡ other → IsMachine other.machine → IsMachine answer.machine
  given answer other same keeps = subst (λ (a : Answer). IsMachine a.machine) (sym same) keeps

  whole_keeps : (asked : Result RegionJob Reply) (outcome : BusOutcome) (answer : Answer) → ((job : RegionJob) → asked ≡ Ok job → IsMachine (begun job m)) → AnswersWhole m asked outcome answer → IsMachine answer.machine
  whole_keeps (Ok job) NoFault answer begins at = given answer _ at (laws.finishes (begun job m) job (begins job refl) refl)
  whole_keeps (Ok job) Undone answer begins at = given answer _ at is
  whole_keeps (Ok job) (LeftPending done) answer begins at = given answer _ at.1 (at_done_keeps (begun job m) job done (begins job refl) refl at.0.part)
  whole_keeps (Ok job) ReadFailed answer begins at = absurd at
  whole_keeps (Err refusal) outcome answer begins at = given answer _ at.told is

  begin_keeps : (asked : Result RegionJob Reply) → ((job : RegionJob) → asked ≡ Ok job → IsMachine (begun job m)) → IsMachine (begin_answer m asked).machine
  begin_keeps (Ok job) begins = begins job refl
  begin_keeps (Err refusal) begins = is

  release_begins : (name : List ℕ) (job : RegionJob) → asked_release m name ≡ Ok job → IsMachine (begun job m)
  release_begins name job asks = laws.releases m name job is asks

  finishes : (after : Machine) (job : RegionJob) → m.job ≡ Some job → after ≡ finished job m → IsMachine after
  finishes after job pending same = subst IsMachine (sym same) (laws.finishes m job is pending)

  undoes : (after : Machine) (job : RegionJob) → m.job ≡ Some job → after ≡ undone job m → IsMachine after
  undoes after job pending same = subst IsMachine (sym same) (laws.undoes m job is pending)

  pub command_keeps : (command : Command) (outcome : BusOutcome) (answer : Answer) → StoresBytes command → Answers m command outcome answer → IsMachine answer.machine
  command_keeps =
      by_kind (λ command. (outcome : BusOutcome) (answer : Answer) → StoresBytes command → Answers m command outcome answer → IsMachine answer.machine)
      record {
        create = λ create outcome answer stores at. whole_keeps at.0 outcome answer (λ job same. laws.creates m create job is (subst (AsksCreate m create) same at.1)) at.2;
        destroy = λ name outcome answer stores at. whole_keeps (asked_release m name) outcome answer (release_begins name) at;
        begin_create = λ create outcome answer stores at.
            given answer _ at.2.told (begin_keeps at.0 (λ job same. laws.creates m create job is (subst (AsksCreate m create) same at.1)));
        begin_destroy = λ name outcome answer stores at. given answer _ at.told (begin_keeps (asked_release m name) (release_begins name));
        step = λ steps outcome answer stores at. step_keeps m is answer (finishes answer.machine) (undoes answer.machine) steps outcome at;
        abort = λ outcome answer stores at. abort_keeps m is answer (finishes answer.machine) (undoes answer.machine) outcome at;
      }
      (λ command access outcome answer stores at. laws.accesses m command outcome answer is access stores at)
