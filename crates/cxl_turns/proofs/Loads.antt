-- A reply gives no more bytes than its line asked for.
use Rattle.std.proofs.Common.{◌≡◌, ℕ, ◌+◌, ◌≤◌, Bool, true, false, not, if◌then◌else◌, List, [], ◌∷◌, length, Result, Ok, Err, Option, Some, None, refl, sym, subst, arith}
use Rattle.std.specs.Prelude.{◌==◌, nat_lt, nat_le, find, is_none, option_map, option_and_then}
use Rattle.std.specs.Option.{option_map_or}
use Rattle.std.specs.Str.{bytes_eq}
use Rattle.std.proofs.lemmas.List.FromFn.{length-map-range_with_len}
use Rattle.std.proofs.lemmas.Option.{none-some, same_Some}
use Rattle.cxl_legal.specs.Firsts.{first_there}
use Rattle.cxl_pick.specs.declared.fault.PickFault.{PickFault}
use Rattle.cxl_pick.specs.declared.fault.PickFault.TheVariants as picks
use Rattle.cxl_model.specs.declared.found.Found.{Found}
use Rattle.cxl_model.specs.declared.plan.Plan.{Plan}
use Rattle.cxl_model.specs.declared.plan.PlanFault.{PlanFault}
use Rattle.cxl_model.specs.declared.plan.Row.{Row}
use Rattle.cxl_apply.specs.Releases.{first_locked, first_not_last}
use Rattle.cxl_script.specs.declared.command.Command.{Command}
use Rattle.cxl_script.specs.declared.command.Command.TheVariants as commands
use Rattle.cxl_script.specs.declared.command.Create.{Create}
use Rattle.cxl_script.specs.declared.command.Pair.{Pair}
use Rattle.cxl_script.specs.declared.command.Poison.{Poison}
use Rattle.cxl_script.specs.declared.command.Store.{Store}
use Rattle.cxl_script.specs.declared.command.Up.{Up}
use Rattle.cxl_script.specs.Grammar.{IsRanged, access_limit}
use Rattle.cxl_reply.specs.declared.reply.Reply.{Reply}
use Rattle.cxl_reply.specs.declared.reply.Reply.TheVariants as replies
use Rattle.cxl_request.specs.Endpoints.{first_unknown}
use Rattle.cxl_request.specs.Requests.{request_for, request_by_name, want_of, pick_reply, plan_or_refusal, plan_unless_unknown, plan_over_pick, plan_of_line}
use Rattle.cxl_plan.specs.Planned.{planned}
use Rattle.cxl_pick.specs.Picked.{picked}
use Rattle.cxl_machine.specs.Machine.{Live, RegionJob, JobKind, Creates, Releases, Machine, live_at, live_named, free_frames}
use Rattle.cxl_model.specs.Listed.{region_limit}
use Rattle.cxl_model.specs.Contents.{content_at}
use Rattle.cxl_move.specs.Bytes.{bytes_at}
use Rattle.cxl_machine.specs.Jobs.{total_of}
use Rattle.cxl_machine.specs.Outcomes.{BusOutcome, NoFault, Undone, LeftPending, ReadFailed}
use Rattle.cxl_machine.specs.Replies.{Answer, within_region, ends_within, endpoint_named}
use Rattle.cxl_machine.specs.Accesses.{offset_in, store_into, frames_wanted, AnswersUp, TellsHost, no_endpoint, told, carried, unmapped}
use Rattle.cxl_machine.specs.Reports.{AnswersShow, AnswersPoison, TellsPoison}
use Rattle.cxl_machine.specs.Reports as reports
use Rattle.cxl_machine.specs.Requests as requests
use Rattle.cxl_machine.specs.Requests.{busy, name_taken, regions_full, no_region, locked, not_last, spot_of, refusal_of_create, refusal_of_release, release_named, job_unless, asked_release, AsksUnrefused, AsksUnless, AsksCreate}
use Rattle.cxl_machine.specs.Regions.{CarriesOutWhole, AnswersWhole, begin_answer, ended_reply, ended_answer, stepped_answer, Steps, Aborts, OfPending}
use Rattle.cxl_machine.specs.Copies.{for_two, copy_between, frames_for, pieces_of}
use Rattle.cxl_machine.specs.Answers.{Answers}
use Rattle.cxl_machine.specs.Scripts.{Turn, answer_of, TakesTurn}
use Rattle.cxl_turns.specs.inner.Counted.{LoadsFew}

module _ (m : Machine) where
  abbrev Few : Answer → Type 0
  Few answer = LoadsFew answer.reply

  given : (answer other : Answer) → answer ≡ other → Few other → Few answer
  given answer other is few = subst Few (sym is) few

  by_test : (b : Bool) (answer other : Answer) → Few answer → Few other → Few (if b then answer else other)
  by_test true answer other first second = first
  by_test false answer other first second = second

  by_region : (o : Option Live) (answer : Live → Answer) (other : Answer) → ((region : Live) → Few (answer region)) → Few other → Few (option_map_or answer o other)
  by_region None answer other each none = none
  by_region (Some region) answer other each none = each region

  -- ---- refusals

  abbrev FewThere : Option Reply → Type 0
  FewThere o = (reply : Reply) → o ≡ Some reply → LoadsFew reply

  few_some : (reply other : Reply) → ◌≡◌ {A = Option Reply} (Some reply) (Some other) → LoadsFew reply → LoadsFew other
  few_some reply other same own = subst LoadsFew (same_Some reply other same) own

  first_few : (a b c d : Option Reply) → FewThere a → FewThere b → FewThere c → FewThere d → FewThere (first_there (a ∷ b ∷ c ∷ d ∷ []))
  first_few (Some r) b c d one two three four reply is = few_some r reply is (one r refl)
  first_few None (Some r) c d one two three four reply is = few_some r reply is (two r refl)
  first_few None None (Some r) d one two three four reply is = few_some r reply is (three r refl)
  first_few None None None (Some r) one two three four reply is = few_some r reply is (four r refl)
  first_few None None None None one two three four reply is = absurd (none-some reply is)

  mapped_few : {X : Type 0} (f : X → Reply) (o : Option X) → ((x : X) → LoadsFew (f x)) → FewThere (option_map f o)
  mapped_few f None each reply is = absurd (none-some reply is)
  mapped_few f (Some x) each reply is = few_some (f x) reply is (each x)

  choice_few : (b : Bool) (r : Reply) → LoadsFew r → FewThere (if b then Some r else None)
  choice_few true r own reply is = few_some r reply is own
  choice_few false r own reply is = absurd (none-some reply is)

  create_refusal : (create : Create) → FewThere (refusal_of_create m create)
  create_refusal create =
      first_few (busy m) (name_taken m create.name) (requests.no_endpoint m create.endpoints) (regions_full m)
      (mapped_few (λ (job : RegionJob). replies.Busy job.region.name) m.job (λ job. tt)) (mapped_few (λ (region : Live). replies.NameTaken create.name) (live_named m create.name) (λ region. tt))
      (mapped_few replies.NoEndpoint (find (λ name. is_none (endpoint_named m.settled.nodes name)) create.endpoints) (λ name. tt))
      (choice_few (nat_le region_limit (length m.live)) replies.RegionsFull tt)

  spot_few : (name : List ℕ) (first : Found → Option Row) (tell : Row → Reply) → ((row : Row) → LoadsFew (tell row))
      → FewThere (option_map tell (option_and_then (λ (region : Live). first region.found) (live_named m name)))
  spot_few name first tell each = mapped_few tell (option_and_then (λ (region : Live). first region.found) (live_named m name)) each

  release_refusal : (name : List ℕ) → FewThere (refusal_of_release m name)
  release_refusal name =
      first_few (busy m) (no_region m name) (locked m name) (not_last m name)
      (mapped_few (λ (job : RegionJob). replies.Busy job.region.name) m.job (λ job. tt)) (choice_few (is_none (live_named m name)) (replies.NoRegion name) tt)
      (spot_few name (first_locked m.settled) (λ row. replies.Locked (spot_of row)) (λ row. tt))
      (spot_few name (first_not_last m.settled) (λ row. replies.NotLast (spot_of row)) (λ row. tt))

  abbrev FewRefusal : Result RegionJob Reply → Type 0
  FewRefusal (Ok job) = Unit {0}
  FewRefusal (Err refusal) = LoadsFew refusal

  refused : (asked other : Result RegionJob Reply) → asked ≡ other → FewRefusal other → FewRefusal asked
  refused asked other is few = subst FewRefusal (sym is) few

  release_few : (name : List ℕ) → FewRefusal (asked_release m name)
  release_few name = by_refusal (refusal_of_release m name) (release_refusal name)
    where
      by_job : (o : Option RegionJob) → FewRefusal (option_map_or Ok o (Err (replies.NoRegion name)))
      by_job None = tt
      by_job (Some job) = tt

      by_refusal : (o : Option Reply) → FewThere o → FewRefusal (job_unless m name o)
      by_refusal (Some r) few = few r refl
      by_refusal None few = by_job (release_named m name)

  abbrev FewPlan : Result Plan Reply → Type 0
  FewPlan (Ok plan) = Unit {0}
  FewPlan (Err refusal) = LoadsFew refusal

  over_few : (answer : Result Plan PlanFault) → FewPlan (plan_or_refusal answer)
  over_few (Ok plan) = tt
  over_few (Err fault) = tt

  unless_few : (create : Create) (o : Option (List ℕ)) → FewPlan (plan_unless_unknown m.settled create o)
  unless_few create (Some name) = tt
  unless_few create None = over_few (planned m.settled (request_by_name m.settled.nodes create))

  pick_few : (fault : PickFault) → LoadsFew (pick_reply fault)
  pick_few (picks.Ways ways) = tt
  pick_few picks.Size = tt
  pick_few picks.NoSet = tt
  pick_few picks.Memory = tt

  over_pick_few : (create : Create) (answer : Result (List ℕ) PickFault) → FewPlan (plan_over_pick m.settled create answer)
  over_pick_few create (Ok set) = over_few (planned m.settled (request_for create set))
  over_pick_few create (Err fault) = pick_few fault

  line_few : (create : Create) (ways : Option ℕ) → FewPlan (plan_of_line m.settled create ways)
  line_few create None = unless_few create (first_unknown m.settled.nodes create.endpoints)
  line_few create (Some ways) = over_pick_few create (picked m.settled (want_of create ways))

  unrefused_few : (create : Create) (asked : Result RegionJob Reply) → AsksUnrefused m create asked → FewRefusal asked
  unrefused_few create asked (Ok plan, is, made) = refused asked _ made tt
  unrefused_few create asked (Err refusal, is, made) = refused asked _ made (subst FewPlan (sym is) (line_few create create.ways))

  create_few : (create : Create) (asked : Result RegionJob Reply) → AsksCreate m create asked → FewRefusal asked
  create_few create asked asks = by_refusal (refusal_of_create m create) (create_refusal create) asks
    where
      by_refusal : (o : Option Reply) → FewThere o → AsksUnless m create o asked → FewRefusal asked
      by_refusal (Some r) few asks = refused asked _ asks (few r refl)
      by_refusal None few asks = unrefused_few create asked asks

  -- ---- jobs

  ended_few : (job : RegionJob) (kind : JobKind) → LoadsFew (ended_reply job kind)
  ended_few job (Creates rows) = tt
  ended_few job (Releases place) = tt

  carried_out : (job : RegionJob) (outcome : BusOutcome) (answer : Answer) → CarriesOutWhole m job outcome answer → Few answer
  carried_out job NoFault answer at = given answer _ at (ended_few job job.kind)
  carried_out job Undone answer at = given answer _ at tt
  carried_out job (LeftPending done) answer at = given answer _ at.1 tt
  carried_out job ReadFailed answer at = absurd at

  whole : (asked : Result RegionJob Reply) → FewRefusal asked → (outcome : BusOutcome) (answer : Answer) → AnswersWhole m asked outcome answer → Few answer
  whole (Ok job) few outcome answer at = carried_out job outcome answer at
  whole (Err refusal) few outcome answer at = given answer _ at.told few

  begin_few : (asked : Result RegionJob Reply) → FewRefusal asked → Few (begin_answer m asked)
  begin_few (Ok job) few = tt
  begin_few (Err refusal) few = few

  stepped : (job : RegionJob) (steps : ℕ) (outcome : BusOutcome) (answer : Answer) → Steps m job steps outcome answer → Few answer
  stepped job steps NoFault answer at =
      given answer (stepped_answer m job steps) at (by_test (nat_le (total_of job) (job.done + steps)) (ended_answer job m) _ (ended_few job job.kind) tt)
  stepped job steps Undone answer at = absurd at
  stepped job steps (LeftPending done) answer at = given answer _ at.1 tt
  stepped job steps ReadFailed answer at = absurd at

  aborted : (job : RegionJob) (outcome : BusOutcome) (answer : Answer) → Aborts m job outcome answer → Few answer
  aborted job NoFault answer at = given answer _ at tt
  aborted job Undone answer at = absurd at
  aborted job (LeftPending done) answer at = given answer _ at.1 tt
  aborted job ReadFailed answer at = absurd at

  pending : (o : Option RegionJob) (outcome : BusOutcome) (answer : Answer) (goes : RegionJob → Type 0) → ((job : RegionJob) → goes job → Few answer) → OfPending m o outcome answer goes → Few answer
  pending None outcome answer goes each at = given answer _ at.told tt
  pending (Some job) outcome answer goes each at = each job at

  -- ---- accesses

  inside : (h len : ℕ) (answer : Live → Answer) → ((region : Live) → Few (answer region)) → Few (within_region m h len answer)
  inside h len answer each = by_region (live_at m h) _ _ (λ region. by_test (ends_within region.found h len) _ _ (each region) tt) tt

  stored : (store : Store) (region : Live) → Few (store_into m store region)
  stored store region = by_test (nat_lt (free_frames m) (frames_wanted region store)) _ _ tt tt

  copied : (from to : Live) → Few (copy_between m from to)
  copied from to = by_test (nat_lt (frames_for m to) (pieces_of from)) _ _ tt tt

  between : (pair : Pair) (answer : Live → Live → Answer) → ((from to : Live) → Few (answer from to)) → Few (for_two m pair answer)
  between pair answer each =
      by_region (live_named m pair.from) _ _
      (λ from. by_region (live_named m pair.to) _ _
      (λ to. by_test (bytes_eq pair.from pair.to) _ _ tt (by_test (not (from.found.size == to.found.size)) _ _ tt (each from to)))
      tt)
      tt

  shown : (name : List ℕ) (outcome : BusOutcome) (answer : Answer) → AnswersShow m name outcome answer → Few answer
  shown name NoFault answer at = given answer _ at (by_region (live_named m name) _ _ (λ region. tt) tt)
  shown name Undone answer at = absurd at
  shown name (LeftPending done) answer at = absurd at
  shown name ReadFailed answer at = given answer _ at.1 tt

  host_few : (endpoint dpa : ℕ) (reply : Reply) → TellsHost m endpoint dpa reply → LoadsFew reply
  host_few endpoint dpa reply (carried region h there carries at) = subst LoadsFew (sym at) tt
  host_few endpoint dpa reply (unmapped none at) = subst LoadsFew (sym at) tt

  up : (asked : Up) (answer : Answer) → AnswersUp m asked answer → Few answer
  up asked answer (no_endpoint none at) = given answer _ at tt
  up asked answer (told endpoint reply there tells at) = given answer _ at (host_few endpoint asked.dpa reply tells)

  poison_few : (endpoint : ℕ) (bytes : List ℕ) (reply : Reply) → TellsPoison m endpoint bytes reply → LoadsFew reply
  poison_few endpoint bytes reply (reports.listed list pieces is touched at) = subst LoadsFew (sym at) tt
  poison_few endpoint bytes reply (reports.short is at) = subst LoadsFew (sym at) tt
  poison_few endpoint bytes reply (reports.few said is at) = subst LoadsFew (sym at) tt

  poison : (asked : Poison) (answer : Answer) → AnswersPoison m asked answer → Few answer
  poison asked answer (reports.no_endpoint none at) = given answer _ at tt
  poison asked answer (reports.told endpoint reply there tells at) = given answer _ at (poison_few endpoint asked.bytes reply tells)

  loaded : (command : Command) (outcome : BusOutcome) (answer : Answer) → IsRanged command → Answers m command outcome answer → Few answer
  loaded (commands.Create create) outcome answer ranged at = whole at.0 (create_few create at.0 at.1) outcome answer at.2
  loaded (commands.Destroy name) outcome answer ranged at = whole (asked_release m name) (release_few name) outcome answer at
  loaded (commands.BeginCreate create) outcome answer ranged at = given answer _ at.2.told (begin_few at.0 (create_few create at.0 at.1))
  loaded (commands.BeginDestroy name) outcome answer ranged at = given answer _ at.told (begin_few (asked_release m name) (release_few name))
  loaded (commands.Step steps) outcome answer ranged at =
      pending m.job outcome answer (λ job. Steps m job steps outcome answer) (λ job. stepped job steps outcome answer) at
  loaded commands.Abort outcome answer ranged at = pending m.job outcome answer (λ job. Aborts m job outcome answer) (λ job. aborted job outcome answer) at
  loaded (commands.Show name) outcome answer ranged at = shown name outcome answer at
  loaded (commands.Down h) outcome answer ranged at = given answer _ at.told (by_region (live_at m h) _ _ (λ region. tt) tt)
  loaded (commands.Up asked) outcome answer ranged at = up asked answer at.1
  loaded (commands.Load load) outcome answer ranged at =
      given answer _ at.told (inside load.h load.len _ (λ region. few_at region load.h load.len ranged.1))
    where
      few_at : (region : Live) (h len : ℕ) → len ≤ access_limit → length (bytes_at region.contents (offset_in region h) len) ≤ access_limit
      few_at region h len few = omega (arith, few, length-map-range_with_len (content_at region.contents) (offset_in region h) len)
  loaded (commands.Store store) outcome answer ranged at = given answer _ at.told (inside store.h _ _ (stored store))
  loaded (commands.Poison asked) outcome answer ranged at = poison asked answer at.1
  loaded (commands.Range reach) outcome answer ranged at = given answer _ at.told (inside reach.h reach.len _ (λ region. tt))
  loaded (commands.Spread reach) outcome answer ranged at = given answer _ at.told (inside reach.h reach.len _ (λ region. tt))
  loaded (commands.Copy pair) outcome answer ranged at = given answer _ at.told (between pair _ copied)
  loaded (commands.Move pair) outcome answer ranged at = given answer _ at.told (between pair _ (λ from to. tt))

  pub loads_few : (command : Command) (turn : Turn) → IsRanged command → TakesTurn m (Ok command) turn → LoadsFew turn.reply
  loads_few command turn ranged is = loaded command is.0 (answer_of turn) ranged is.1
