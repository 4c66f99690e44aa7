-- Each answer can be told, over the machine's nodes.
use Rattle.std.proofs.Common.{◌≡◌, ℕ, ◌+◌, ◌<◌, ◌≤◌, Bool, true, false, not, if◌then◌else◌, List, [], ◌∷◌, length, Result, Ok, Err, Option, Some, None, refl, sym, subst}
use Rattle.std.specs.Prelude.{◌==◌, ◌&&◌, nat_lt, nat_le}
use Rattle.std.specs.Option.{option_map_or}
use Rattle.std.specs.Str.{bytes_eq}
use Rattle.std.proofs.lemmas.List.Quantifiers.{position-Some}
use Rattle.std.proofs.lemmas.Option.{none-some}
use Rattle.cxl_script.specs.declared.command.Command.{Command}
use Rattle.cxl_script.specs.declared.command.Command.TheVariants as commands
use Rattle.cxl_script.specs.declared.command.Pair.{Pair}
use Rattle.cxl_script.specs.declared.command.Poison.{Poison}
use Rattle.cxl_script.specs.declared.command.Store.{Store}
use Rattle.cxl_script.specs.declared.command.Up.{Up}
use Rattle.cxl_script.specs.Grammar.{IsRanged}
use Rattle.cxl_topo.specs.declared.node.Node.{Node}
use Rattle.cxl_topo.specs.Kinds.{is_endpoint}
use Rattle.cxl_topo.specs.Tree.{is_named}
use Rattle.cxl_model.specs.Plans.{with_rows}
use Rattle.cxl_reply.specs.declared.reply.Reply.{Reply}
use Rattle.cxl_reply.specs.Conditions.{IsTold}
use Rattle.cxl_machine.specs.Machine.{Live, RegionJob, JobKind, Creates, Releases, Machine, live_at, live_named, free_frames}
use Rattle.cxl_machine.specs.Jobs.{total_of, begun}
use Rattle.cxl_machine.specs.Outcomes.{BusOutcome, NoFault, Undone, LeftPending, ReadFailed}
use Rattle.cxl_machine.specs.Replies.{Answer, within_region, ends_within, endpoint_named}
use Rattle.cxl_machine.specs.Accesses.{store_into, frames_wanted, AnswersUp, TellsHost, no_endpoint, told, carried, unmapped}
use Rattle.cxl_machine.specs.Reports.{AnswersShow, AnswersPoison}
use Rattle.cxl_machine.specs.Reports as reports
use Rattle.cxl_machine.specs.Requests.{AsksCreate, asked_release}
use Rattle.cxl_machine.specs.Regions.{CarriesOutWhole, AnswersWhole, begin_answer, ended_reply, ended_answer, stepped_answer, Steps, Aborts, OfPending}
use Rattle.cxl_machine.specs.Copies.{for_two, copy_between, frames_for, pieces_of}
use Rattle.cxl_machine.specs.Answers.{Answers}
use Rattle.cxl_machine.specs.Sound.{IsMachine, IsJobOf}
use Rattle.cxl_machine.proofs.KeepingJobs.{job_of}
use Rattle.cxl_machine.proofs.KeepingMachines.{live_there}
use Rattle.cxl_machine.proofs.Telling.{TellLaws, live_told, down_told, range_told, region_slots, holds_there, create_told, release_told}
use Rattle.cxl_machine.proofs.TellingPoison.{poison_told}
use Rattle.cxl_machine.proofs.TellingRegions.{shown_inside}

-- the endpoint of a name is a node
named_inside : (nodes : List Node) (name : List ℕ) (n : ℕ) → endpoint_named nodes name ≡ Some n → n < length nodes
named_inside [] name n is = absurd (none-some n is)
named_inside (node ∷ nodes) name n is = (position-Some (λ (node : Node). is_endpoint node.kind && is_named name node) (node ∷ nodes) n node is).0

-- ---- the end of a job

ended_by : TellLaws → (n : Machine) → IsMachine n → (job : RegionJob) (kind : JobKind) → IsJobOf n job kind → IsTold n.settled.nodes (ended_reply job kind)
ended_by laws n is job (Creates rows) create =
    let legal = create.legal in
    let found = laws.regions (with_rows n.settled create.plan.rows) create.plan.found (laws.planned_system n.settled create.request create.plan is.settled.system legal) (legal.0, legal.1.region) in
    subst (λ (j : RegionJob). j.region.found.gran ≤ 6) (sym create.made) found.gran
ended_by laws n is job (Releases place) release = tt

ended_told : TellLaws → (n : Machine) → IsMachine n → (job : RegionJob) → n.job ≡ Some job → IsTold n.settled.nodes (ended_reply job job.kind)
ended_told laws n is job pending = ended_by laws n is job job.kind (job_of n job is pending).kind

module _ (laws : TellLaws) (m : Machine) (is : IsMachine m) where
  abbrev Tells : Answer → Type 0
  Tells answer = IsTold m.settled.nodes answer.reply

  given : (answer other : Answer) → answer ≡ other → Tells other → Tells answer
  given answer other same own = subst Tells (sym same) own

  by_test : (b : Bool) (answer other : Answer) → (b ≡ true → Tells answer) → Tells other → Tells (if b then answer else other)
  by_test true answer other first second = first refl
  by_test false answer other first second = second

  by_region : (o : Option Live) (answer : Live → Answer) (other : Answer) → ((region : Live) → o ≡ Some region → Tells (answer region)) → Tells other → Tells (option_map_or answer o other)
  by_region None answer other each none = none
  by_region (Some region) answer other each none = each region refl

  -- ---- jobs

  carried_out : (job : RegionJob) (outcome : BusOutcome) (answer : Answer) → IsMachine (begun job m) → CarriesOutWhole m job outcome answer → Tells answer
  carried_out job NoFault answer own at = given answer _ at (ended_told laws (begun job m) own job refl)
  carried_out job Undone answer own at = given answer _ at tt
  carried_out job (LeftPending done) answer own at = given answer _ at.1 tt
  carried_out job ReadFailed answer own at = absurd at

  whole : (asked : Result RegionJob Reply) → ((job : RegionJob) → asked ≡ Ok job → IsMachine (begun job m)) → ((refusal : Reply) → asked ≡ Err refusal → IsTold m.settled.nodes refusal)
      → (outcome : BusOutcome) (answer : Answer) → AnswersWhole m asked outcome answer → Tells answer
  whole (Ok job) begins refused outcome answer at = carried_out job outcome answer (begins job refl) at
  whole (Err refusal) begins refused outcome answer at = given answer _ at.told (refused refusal refl)

  begin_told : (asked : Result RegionJob Reply) → ((refusal : Reply) → asked ≡ Err refusal → IsTold m.settled.nodes refusal) → Tells (begin_answer m asked)
  begin_told (Ok job) refused = tt
  begin_told (Err refusal) refused = refused refusal refl

  stepped : (job : RegionJob) (steps : ℕ) (outcome : BusOutcome) (answer : Answer) → m.job ≡ Some job → Steps m job steps outcome answer → Tells answer
  stepped job steps NoFault answer pending at =
      given answer (stepped_answer m job steps) at (by_test (nat_le (total_of job) (job.done + steps)) (ended_answer job m) _ (λ last. ended_told laws m is job pending) tt)
  stepped job steps Undone answer pending at = absurd at
  stepped job steps (LeftPending done) answer pending at = given answer _ at.1 tt
  stepped job steps ReadFailed answer pending at = absurd at

  aborted : (job : RegionJob) (outcome : BusOutcome) (answer : Answer) → Aborts m job outcome answer → Tells answer
  aborted job NoFault answer at = given answer _ at tt
  aborted job Undone answer at = absurd at
  aborted job (LeftPending done) answer at = given answer _ at.1 tt
  aborted job ReadFailed answer at = absurd at

  pending : (o : Option RegionJob) (outcome : BusOutcome) (answer : Answer) (goes : RegionJob → Type 0) → ((job : RegionJob) → o ≡ Some job → goes job → Tells answer) → OfPending m o outcome answer goes → Tells answer
  pending None outcome answer goes each at = given answer _ at.told tt
  pending (Some job) outcome answer goes each at = each job refl at

  -- ---- accesses

  inside : (h len : ℕ) (answer : Live → Answer) → ((region : Live) → live_at m h ≡ Some region → ends_within region.found h len ≡ true → Tells (answer region)) → Tells (within_region m h len answer)
  inside h len answer each = by_region (live_at m h) _ _ (λ region at. by_test (ends_within region.found h len) _ _ (each region at) tt) tt

  stored : (store : Store) (region : Live) → Tells (store_into m store region)
  stored store region = by_test (nat_lt (free_frames m) (frames_wanted region store)) _ _ (λ full. tt) tt

  copied : (from to : Live) → Tells (copy_between m from to)
  copied from to = by_test (nat_lt (frames_for m to) (pieces_of from)) _ _ (λ full. tt) tt

  between : (pair : Pair) (answer : Live → Live → Answer) → ((from to : Live) → Tells (answer from to)) → Tells (for_two m pair answer)
  between pair answer each =
      by_region (live_named m pair.from) _ _
      (λ from at. by_region (live_named m pair.to) _ _
      (λ to here. by_test (bytes_eq pair.from pair.to) _ _ (λ one. tt) (by_test (not (from.found.size == to.found.size)) _ _ (λ differ. tt) (each from to)))
      tt)
      tt

  shown : (name : List ℕ) (outcome : BusOutcome) (answer : Answer) → AnswersShow m name outcome answer → Tells answer
  shown name NoFault answer at =
      given answer _ at
      (by_region (live_named m name) _ _
      (λ region named. record {
        found = live_told laws m is region (live_there m (λ (r : Live). bytes_eq r.name name) region named).0;
        rows = shown_inside m.settled is.settled.system region.found;
      })
      tt)
  shown name Undone answer at = absurd at
  shown name (LeftPending done) answer at = absurd at
  shown name ReadFailed answer at = given answer _ at.1 tt

  host_told : (endpoint dpa : ℕ) (reply : Reply) → TellsHost m endpoint dpa reply → IsTold m.settled.nodes reply
  host_told endpoint dpa reply (carried region h there carries at) = subst (IsTold m.settled.nodes) (sym at) tt
  host_told endpoint dpa reply (unmapped none at) = subst (IsTold m.settled.nodes) (sym at) tt

  up : (asked : Up) (answer : Answer) → AnswersUp m asked answer → Tells answer
  up asked answer (no_endpoint none at) = given answer _ at tt
  up asked answer (told endpoint reply there tells at) = given answer _ at (host_told endpoint asked.dpa reply tells)

  poison : (asked : Poison) (answer : Answer) → AnswersPoison m asked answer → Tells answer
  poison asked answer (reports.no_endpoint none at) = given answer _ at tt
  poison asked answer (reports.told endpoint reply there tells at) =
      given answer _ at (poison_told m endpoint asked.bytes reply (named_inside m.settled.nodes asked.endpoint endpoint there) tells)

  pub answer_told : (command : Command) (outcome : BusOutcome) (answer : Answer) → IsRanged command → Answers m command outcome answer → IsTold m.settled.nodes answer.reply
  answer_told (commands.Create create) outcome answer ranged at =
      whole at.0 (λ job same. laws.creates m create job is (subst (AsksCreate m create) same at.1)) (create_told laws m is create at.0 at.1) outcome answer at.2
  answer_told (commands.Destroy name) outcome answer ranged at =
      whole (asked_release m name) (λ job same. laws.releases m name job is same) (release_told laws m is name) outcome answer at
  answer_told (commands.BeginCreate create) outcome answer ranged at = given answer _ at.2.told (begin_told at.0 (create_told laws m is create at.0 at.1))
  answer_told (commands.BeginDestroy name) outcome answer ranged at = given answer _ at.told (begin_told (asked_release m name) (release_told laws m is name))
  answer_told (commands.Step steps) outcome answer ranged at =
      pending m.job outcome answer (λ job. Steps m job steps outcome answer) (λ job there. stepped job steps outcome answer there) at
  answer_told commands.Abort outcome answer ranged at = pending m.job outcome answer (λ job. Aborts m job outcome answer) (λ job there. aborted job outcome answer) at
  answer_told (commands.Show name) outcome answer ranged at = shown name outcome answer at
  answer_told (commands.Down h) outcome answer ranged at = given answer _ at.told (by_region (live_at m h) _ _ (down_told laws m is h) tt)
  answer_told (commands.Up asked) outcome answer ranged at = up asked answer at.1
  answer_told (commands.Load load) outcome answer ranged at = given answer _ at.told (inside load.h load.len _ (λ region there fits. tt))
  answer_told (commands.Store store) outcome answer ranged at = given answer _ at.told (inside store.h _ _ (λ region there fits. stored store region))
  answer_told (commands.Poison asked) outcome answer ranged at = poison asked answer at.1
  answer_told (commands.Range reach) outcome answer ranged at = given answer _ at.told (inside reach.h reach.len _ (range_told laws m is reach ranged.0))
  answer_told (commands.Spread reach) outcome answer ranged at =
      given answer _ at.told (inside reach.h reach.len _ (λ region there fits. region_slots laws m is region (holds_there laws m is reach.h region there)))
  answer_told (commands.Copy pair) outcome answer ranged at = given answer _ at.told (between pair _ copied)
  answer_told (commands.Move pair) outcome answer ranged at = given answer _ at.told (between pair _ (λ from to. tt))
