-- Plans and their refusals can be told.
use Rattle.std.proofs.Common.{◌≡◌, ◌≢◌, ℕ, zero, suc, ◌+◌, ◌<◌, ◌≤◌, Bool, true, false, not, List, [], ◌∷◌, ◌++◌, length, get_or, Option, Some, None, Ok, Err, refl, sym, ap, subst, ◌∙◌, inl, inr, arith}
use Rattle.std.specs.Prelude.{slice_get, find, position, ◌==◌, All, Contains}
use Rattle.std.specs.Option.{option_map_or}
use Rattle.std.specs.List.{list_any, range_with_len}
use Rattle.std.proofs.lemmas.Bool.{cases_Bool, cases_eq, eq-eqb, or_left, or_right, and_from, false≢true}
use Rattle.std.proofs.lemmas.List.Elements.{All-head, All-tail, All-contains, Contains-get_or}
use Rattle.std.proofs.lemmas.List.Folds.{list_any-from_Any}
use Rattle.std.proofs.lemmas.Option.{none-some, same_Some, slice_get_within, slice_get-get_or}
use Rattle.cxl_enc.proofs.Lists.{item}
use Rattle.cxl_legal.specs.Endpoints.{FitsEndpoints, is_uneven, lacks_decoder, share_of}
use Rattle.cxl_legal.specs.Stated.{Fits, stated_rows}
use Rattle.cxl_legal.specs.Used.{AreEndpoints, HasBytePorts, is_used}
use Rattle.cxl_legal.specs.Windows.{can_select, can_have_ways}
use Rattle.cxl_model.specs.Accepted.{IsAccepted}
use Rattle.cxl_model.specs.Counts.{is_under}
use Rattle.cxl_model.specs.Plans.{IsLegalPlan, IsRow, with_rows}
use Rattle.cxl_model.specs.Regions.{IsRegion, region_range}
use Rattle.cxl_model.specs.System.{System, IsSystem, decoders_at, ram_at, pmem_at}
use Rattle.cxl_model.specs.declared.found.Found.{Found}
use Rattle.cxl_model.specs.declared.plan.Plan.{Plan}
use Rattle.cxl_model.specs.declared.plan.PlanFault.{PlanFault}
use Rattle.cxl_model.specs.declared.plan.PlanFault.TheVariants as faults
use Rattle.cxl_model.specs.declared.plan.Reason.{Reason}
use Rattle.cxl_model.specs.declared.plan.Reason.TheVariants as reasons
use Rattle.cxl_model.specs.declared.plan.Row.{Row}
use Rattle.cxl_model.specs.declared.request.Request.{Request}
use Rattle.cxl_plan.specs.Faults.{IsFirstPlanFault, IsFirstPlan, IsReason}
use Rattle.cxl_plan.specs.Planned.{planned}
use Rattle.cxl_pick.specs.Picked.{picked}
use Rattle.cxl_pick.specs.Picking.{asked}
use Rattle.cxl_pick.specs.declared.fault.PickFault.{PickFault}
use Rattle.cxl_pick.specs.declared.fault.PickFault.TheVariants as picks
use Rattle.cxl_pick.specs.declared.want.Want.{Want}
use Rattle.cxl_regs.specs.Registers.{Registers}
use Rattle.cxl_regs.specs.declared.decoder.Decoder.{Decoder}
use Rattle.cxl_reply.specs.Plans.{IsToldRow, IsToldPlan}
use Rattle.cxl_reply.specs.Conditions.{IsToldFound, IsToldReason, IsToldFault, IsTold}
use Rattle.cxl_reply.specs.declared.reply.Reply.{Reply}
use Rattle.cxl_script.specs.declared.command.Create.{Create}
use Rattle.cxl_span.specs.Allotting.{all_committed, Allots}
use Rattle.cxl_topo.specs.Laws.{AreTreeLaws}
use Rattle.cxl_topo.specs.Tree.{is_endpoint_at, path_of, GoesDownTo}
use Rattle.cxl_topo.specs.declared.node.Node.{Node}
use Rattle.cxl_window.specs.Fields.{WindowFields}
use Rattle.cxl_window.specs.Windows.{first_repeat}
use Rattle.cxl_request.specs.Requests.{request_for, request_by_name, want_of, pick_reply, AsksForPlan}
use Rattle.cxl_request.proofs.EndpointNames.{are_endpoints}
use Rattle.cxl_request.proofs.Lines.{plan_from, refusal_from}

-- ---- what is found

-- a number of a range
found_below : (test : ℕ → Bool) (a k n : ℕ) → find test (range_with_len a k) ≡ Some n → n < a + k
found_below test a zero n is = absurd (none-some n is)
found_below test a (suc k) n is =
    elim (cases_Bool (test a)) [
      | inl passes ↦ let same : a ≡ n = same_Some a n (rw passes at is) in omega arith
      | inr fails ↦ let low = found_below test (a + 1) k n (rw fails at is) in omega arith
    ]

least_below : (test : ℕ → Bool) (k n : ℕ) → find test (range_with_len 0 k) ≡ Some n → n < k
least_below test k n is = let low = found_below test 0 k n is in omega arith

-- and one of the first of which the test holds
found_some : (test : ℕ → Bool) (a k m : ℕ) → a ≤ m → m < a + k → test m ≡ true → (n : ℕ) × (find test (range_with_len a k) ≡ Some n)
found_some test a zero m from below passes = absurd (omega arith)
found_some test a (suc k) m from below passes =
    elim (cases_Bool (test a)) [
      | inl here ↦ (a, rw here refl)
      | inr fails ↦
          let later : a + 1 ≤ m = elim (cases_eq a m) [
            | inl same ↦ absurd (false≢true (sym fails ∙ ap test same ∙ passes))
            | inr other ↦ omega arith
          ] in
          let next = found_some test (a + 1) k m later (omega arith) passes in
          (next.0, rw fails next.1)
    ]

-- what repeats is one of them
repeats_one : (P : ℕ → Type 0) (before us : List ℕ) (m : ℕ) → All P us → first_repeat before us ≡ Some m → P m
repeats_one P before [] m each is = absurd (none-some m is)
repeats_one P before (u ∷ us) m each is =
    elim (cases_Bool (list_any (λ v. v == u) before)) [
      | inl there ↦ subst P (same_Some u m (rw there at is)) (All-head P u us each)
      | inr fresh ↦ repeats_one P (before ++ u ∷ []) us m (All-tail P u us each) (rw fresh at is)
    ]

some_there : {A : Type 0} (test : A → Bool) (some : Option A) → option_map_or test some false ≡ true → (x : A) × (some ≡ Some x)
some_there test None e = absurd (false≢true e)
some_there test (Some x) e = (x, refl)

-- a path ends at its node
stands_last : (nodes : List Node) (i : ℕ) (path : List ℕ) → GoesDownTo nodes i path → list_any (λ q. q == i) path ≡ true
stands_last nodes i [] leads = absurd leads
stands_last nodes i (n ∷ []) leads = or_left (n == i) false (eq-eqb n i leads)
stands_last nodes i (n ∷ m ∷ ns) leads = or_right (n == i) (list_any (λ q. q == i) (m ∷ ns)) (stands_last nodes i (m ∷ ns) leads.1)

module _ (s : System) (request : Request) (system : IsSystem s) (laws : AreTreeLaws s.nodes) (named : AreEndpoints s request) where
  pub endpoint_inside : (m : ℕ) → is_endpoint_at s.nodes m ≡ true → m < length s.nodes
  endpoint_inside m is = let node = some_there _ (slice_get s.nodes m) is in slice_get_within s.nodes m node.0 node.1

  asked_inside : (m : ℕ) → Contains request.endpoints m → m < length s.nodes
  asked_inside m there = endpoint_inside m (All-contains (λ k. is_endpoint_at s.nodes k ≡ true) request.endpoints m named there)

  -- a requested endpoint is used
  asked_used : (m : ℕ) → Contains request.endpoints m → is_used s request m ≡ true
  asked_used m there =
      let under : is_under s.nodes m m ≡ true = stands_last s.nodes m (path_of s.nodes m) ((laws.paths m (asked_inside m there)).leads) in
      list_any-from_Any (is_under s.nodes m) request.endpoints (there.0, m, there.1, there.2, under)

  -- ---- refusals

  told_reason : (w : WindowFields) (reason : Reason) → IsReason s request w reason → IsToldReason s.nodes reason
  told_reason w reasons.Unusable is = tt
  told_reason w reasons.Kind is = tt
  told_reason w reasons.Fixed is = tt
  told_reason w reasons.Bridges is = tt
  told_reason w reasons.Gran is = tt
  told_reason w (reasons.Select n) is = least_below (λ m. not (can_select s request w m)) (length s.nodes) n is.holds
  told_reason w (reasons.WaysCap n) is = least_below (λ m. not (can_have_ways s request m)) (length s.nodes) n is.holds
  told_reason w (reasons.NoBase room) is = tt

  pub told_fault : (fault : PlanFault) → IsFirstPlanFault s request fault → IsToldFault s.nodes fault
  told_fault (faults.Repeat m) is =
      endpoint_inside m (repeats_one (λ k. is_endpoint_at s.nodes k ≡ true) [] request.endpoints m named is.holds)
  told_fault (faults.Ways n) is = tt
  told_fault faults.Size is = tt
  told_fault (faults.Uneven n) is = least_below (is_uneven s request) (length s.nodes) n is.holds
  told_fault (faults.NoDecoder n) is = least_below (lacks_decoder s request) (length s.nodes) n is.holds
  told_fault (faults.Span m fault) is =
      let asked = is.holds.asked in (
        asked_inside m asked,
        λ none.
            let full = subst (λ f. Allots (decoders_at s m) (ram_at s m) (pmem_at s m) request.kind (share_of request) (Err f)) none is.holds.refused in
            let lacks : lacks_decoder s request m ≡ true = and_from (is_used s request m) (all_committed (decoders_at s m)) (asked_used m asked) full in
            let least = found_some (lacks_decoder s request) 0 (length s.nodes) m (omega arith) (let low = asked_inside m asked in omega arith) lacks in
            let first = is.first (faults.NoDecoder least.0) least.1 in
            absurd (omega (arith, first)),
      )
  told_fault (faults.NoWindow told) is = λ k d within.
      let count = is.holds.count in
      let w = item s.windows k (omega arith) in
      told_reason w.0 (get_or told k d) (is.holds.each k w.0 (get_or told k d) w.1 (slice_get-get_or told k d within))
  told_fault faults.Memory is = absurd is.holds

  -- ---- plans

  has_block : (some : Option Registers) (i : ℕ) → position (λ (d : Decoder). not d.committed) (option_map_or (λ block. block.decoders) some []) ≡ Some i → (block : Registers) × (some ≡ Some block)
  has_block None i e = absurd (none-some i e)
  has_block (Some block) i e = (block, refl)

  told_row : (plan : Plan) (row : Row) → IsRow s (region_range plan.found) row → IsToldRow s.nodes row
  told_row plan row is =
      let block = has_block (slice_get s.blocks row.node) row.index is.first in
      let within = slice_get_within s.blocks row.node block.0 block.1 in
      let count = system.caps.count in
      record { node = omega arith; gran = is.kept.gran }

  abbrev pub KeepsSystem : Type 0
  KeepsSystem = (t : System) (r : Request) (w : WindowFields) (base : ℕ) → Fits t r w base → IsSystem (with_rows t (stated_rows t r w base))

  abbrev pub TellsRegions : Type 0
  TellsRegions = (t : System) (found : Found) → IsSystem t → IsRegion t found → IsToldFound t.nodes found

  pub told_plan : KeepsSystem → TellsRegions → HasBytePorts s.nodes → IsAccepted s → (plan : Plan) → FitsEndpoints s request → IsFirstPlan s request plan → IsLegalPlan s request plan → IsToldPlan s.nodes plan
  told_plan keeps tells ports accepted plan fits is legal =
      let takes = is.first.takes in
      let all : Fits s request is.window plan.found.base = record {
        system = system;
        ports = ports;
        accepted = accepted;
        named = named;
        endpoints = fits;
        window = takes.window;
        starts = record { can = takes.least.can; inside = takes.inside };
      } in
      let kept : IsSystem (with_rows s plan.rows) = subst (λ rows. IsSystem (with_rows s rows)) (sym is.stated.rows) (keeps s request is.window plan.found.base all) in
      record {
        gran = (tells (with_rows s plan.rows) plan.found kept (legal.0, legal.1.region)).gran;
        rows = λ k d within. told_row plan (get_or plan.rows k d) (legal.1.each_row (get_or plan.rows k d) (Contains-get_or plan.rows k d within));
      }

-- ---- what a line is answered

-- what is known of planner and picker over one host
pub record Tells (s : System) : Type 0 where
  pub plan : (request : Request) (plan : Plan) → AreEndpoints s request → planned s request ≡ Ok plan → IsToldPlan s.nodes plan
  pub fault : (request : Request) (fault : PlanFault) → AreEndpoints s request → planned s request ≡ Err fault → IsToldFault s.nodes fault
  pub endpoints : (want : Want) (set : List ℕ) → picked s want ≡ Ok set → AreEndpoints s (asked want set)
  pub real : (want : Want) → picked s want ≢ Err picks.Memory

module _ (s : System) (create : Create) (tells : Tells s) where
  pub line_plan : (plan : Plan) → AsksForPlan s create (Ok plan) → IsToldPlan s.nodes plan
  line_plan plan is =
      plan_from s create plan is (λ line all at. tells.plan (request_by_name s.nodes create) plan (are_endpoints s.nodes create.endpoints) at)
      (λ ways set line at plans. tells.plan (request_for create set) plan (tells.endpoints (want_of create ways) set at) plans)

  told_pick : (ways : ℕ) (fault : PickFault) → picked s (want_of create ways) ≡ Err fault → IsTold s.nodes (pick_reply fault)
  told_pick ways (picks.Ways n) at = tt
  told_pick ways picks.Size at = tt
  told_pick ways picks.NoSet at = tt
  told_pick ways picks.Memory at = absurd (tells.real (want_of create ways) at)

  pub line_refusal : (refusal : Reply) → AsksForPlan s create (Err refusal) → IsTold s.nodes refusal
  line_refusal refusal is =
      refusal_from s create (IsTold s.nodes) refusal is (λ name line at. tt)
      (λ fault line all at. tells.fault (request_by_name s.nodes create) fault (are_endpoints s.nodes create.endpoints) at)
      (λ ways fault line at. told_pick ways fault at)
      (λ ways set fault line at plans. tells.fault (request_for create set) fault (tells.endpoints (want_of create ways) set at) plans)
