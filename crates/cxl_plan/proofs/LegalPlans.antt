-- What the laws of legal plans give of an answer: no plan is legal where there is a fault, and none stands in an
-- earlier window or at a lower base than the one that is found.
use Rattle.std.proofs.Common.{◌≡◌, ◌≢◌, ℕ, zero, suc, ◌+◌, ◌<◌, ◌≤◌, Bool, true, not, List, [], ◌∷◌, ◌++◌, length, get_or, Some, None, refl, sym, ap, subst, ◌∙◌, inl, inr, arith, append_assoc}
use Rattle.std.specs.Prelude.{slice_get, find, ◌==◌, AllPairs}
use Rattle.std.specs.List.{list_any, range_with_len}
use Rattle.std.proofs.lemmas.Bool.{cases_Bool, cases_lt, eqb-true, false≢true}
use Rattle.std.proofs.lemmas.List.Folds.{Any-from_list_any}
use Rattle.std.proofs.lemmas.Option.{none-some, same_Some, slice_get_within}
use Rattle.cxl_window.specs.Windows.{first_repeat}
use Rattle.cxl_window.specs.Fields.{WindowFields}
use Rattle.cxl_model.specs.declared.request.Request.{Request}
use Rattle.cxl_model.specs.declared.plan.Plan.{Plan}
use Rattle.cxl_model.specs.declared.plan.Reason.{Reason}
use Rattle.cxl_model.specs.declared.plan.Reason.TheVariants as reasons
use Rattle.cxl_model.specs.declared.plan.PlanFault.{PlanFault}
use Rattle.cxl_model.specs.declared.plan.PlanFault.TheVariants as faults
use Rattle.cxl_model.specs.System.{System, IsSystem, decoders_at, ram_at, pmem_at}
use Rattle.cxl_model.specs.Accepted.{IsAccepted}
use Rattle.cxl_model.specs.Plans.{IsLegalPlanIn}
use Rattle.cxl_legal.specs.Used.{AreEndpoints, HasBytePorts}
use Rattle.cxl_legal.specs.Endpoints.{FitsEndpoints, is_uneven, lacks_decoder, share_of}
use Rattle.cxl_legal.specs.Windows.{FitsWindow, can_select, can_have_ways}
use Rattle.cxl_legal.specs.Bases.{FitsBase}
use Rattle.cxl_plan.specs.Faults.{SaysOfWindow, SaysOfRequest, IsReason, TakesFirst}
use Rattle.cxl_plan.proofs.FaultOrder.{not_refused}

found_passes : (p : ℕ → Bool) (a k n : ℕ) → find p (range_with_len a k) ≡ Some n → p n ≡ true
found_passes p a zero n is = absurd (none-some n is)
found_passes p a (suc k) n is =
    elim (cases_Bool (p a)) [
      | inl passes ↦ let same : a ≡ n = same_Some a n (rw passes at is) in ap p (sym same) ∙ passes
      | inr fails ↦ found_passes p (a + 1) k n (rw fails at is)
    ]

-- different endpoints do not repeat
pub none_repeats : (before us : List ℕ) → AllPairs (λ a b. a ≢ b) (before ++ us) → first_repeat before us ≡ None
none_repeats before [] distinct = refl
none_repeats before (u ∷ us) distinct =
    let rest = none_repeats (before ++ u ∷ []) us (subst (λ (xs : List ℕ). AllPairs (λ a b. a ≢ b) xs) (sym (append_assoc before (u ∷ []) us)) distinct) in
    elim (cases_Bool (list_any (λ v. v == u) before)) [
      | inr fresh ↦ rw fresh rest
      | inl there ↦
          let at = Any-from_list_any (λ v. v == u) before there in
          let same : at.1 ≡ u = eqb-true at.1 u at.4 in
          let low = at.2 in
          let long = length_append before (u ∷ us) in
          absurd (distinct at.0 (length before) 0 low (omega arith) (front before (u ∷ us) at.0 low ∙ read before at.0 at.1 low at.3 ∙ same ∙ sym (middle before u us)))
    ]
  where
    length_append : (xs ys : List ℕ) → length (xs ++ ys) ≡ length xs + length ys
    length_append [] ys = omega arith
    length_append (x ∷ xs) ys = let r = length_append xs ys in omega arith

    front : (xs ys : List ℕ) (k : ℕ) → k < length xs → get_or (xs ++ ys) k 0 ≡ get_or xs k 0
    front [] ys k lt = absurd (omega arith)
    front (x ∷ xs) ys zero lt = refl
    front (x ∷ xs) ys (suc k) lt = front xs ys k (omega arith)

    middle : (xs : List ℕ) (y : ℕ) (ys : List ℕ) → get_or (xs ++ y ∷ ys) (length xs) 0 ≡ y
    middle [] y ys = refl
    middle (x ∷ xs) y ys = middle xs y ys

    read : (xs : List ℕ) (k x : ℕ) → k < length xs → get_or xs k x ≡ x → get_or xs k 0 ≡ x
    read [] k x lt is = absurd (omega arith)
    read (y ∷ xs) zero x lt is = is
    read (y ∷ xs) (suc k) x lt is = read xs k x (omega arith) is

-- a window in which the request fits has no reason
pub no_reason : (s : System) (request : Request) (w : WindowFields) (base : ℕ) → FitsWindow s request w → FitsBase s request w base → (reason : Reason) → SaysOfWindow s request w reason → ⊥
no_reason s request w base fits starts reasons.Unusable says = false≢true (sym says ∙ fits.usable)
no_reason s request w base fits starts reasons.Kind says = false≢true (sym says ∙ fits.kind)
no_reason s request w base fits starts reasons.Fixed says = false≢true (sym fits.open_to_plans ∙ says)
no_reason s request w base fits starts reasons.Bridges says = false≢true (sym says ∙ fits.bridges)
no_reason s request w base fits starts reasons.Gran says = false≢true (sym says ∙ fits.gran)
no_reason s request w base fits starts (reasons.Select n) says =
    false≢true (sym (ap not (fits.selects n)) ∙ found_passes (λ m. not (can_select s request w m)) 0 (length s.nodes) n says)
no_reason s request w base fits starts (reasons.WaysCap n) says =
    false≢true (sym (ap not (fits.ways n)) ∙ found_passes (λ m. not (can_have_ways s request m)) 0 (length s.nodes) n says)
no_reason s request w base fits starts (reasons.NoBase room) says =
    let low = says.start.least base starts.can in
    let inside = starts.inside in
    let limit = says.limit in
    let short = says.short in
    omega arith

-- ---- the laws

abbrev pub MeanEndpoints : Type 0
MeanEndpoints = (s : System) (request : Request) (w : WindowFields) (plan : Plan) → IsSystem s → HasBytePorts s.nodes → IsAccepted s → AreEndpoints s request → IsLegalPlanIn s request w plan → FitsEndpoints s request

abbrev pub MeanWindow : Type 0
MeanWindow = (s : System) (request : Request) (w : WindowFields) (plan : Plan) → IsSystem s → HasBytePorts s.nodes → IsAccepted s → AreEndpoints s request → IsLegalPlanIn s request w plan → FitsWindow s request w

abbrev pub MeanBase : Type 0
MeanBase = (s : System) (request : Request) (w : WindowFields) (plan : Plan) → IsSystem s → HasBytePorts s.nodes → IsAccepted s → AreEndpoints s request → IsLegalPlanIn s request w plan → FitsBase s request w plan.found.base

module _ (endpoints_law : MeanEndpoints) (window_law : MeanWindow) (base_law : MeanBase) (s : System) (request : Request) (system : IsSystem s) (ports : HasBytePorts s.nodes) (accepted : IsAccepted s) (named : AreEndpoints s request) where
  not_both : (w : WindowFields) (plan : Plan) → IsLegalPlanIn s request w plan → (reason : Reason) → IsReason s request w reason → ⊥
  not_both w plan legal reason is =
      no_reason s request w plan.found.base (window_law s request w plan system ports accepted named legal) (base_law s request w plan system ports accepted named legal) reason is.holds

  reason_at : (reasons : List Reason) (i : ℕ) → i < length reasons → (reason : Reason) × (slice_get reasons i ≡ Some reason)
  reason_at [] i lt = absurd (omega arith)
  reason_at (x ∷ xs) zero lt = (x, refl)
  reason_at (x ∷ xs) (suc i) lt = reason_at xs i (omega arith)

  -- where a fault holds, no plan is legal
  pub no_legal_plan : (fault : PlanFault) → (fault ≡ faults.Memory → ⊥) → SaysOfRequest s request fault → (w : WindowFields) (plan : Plan) → IsLegalPlanIn s request w plan → ⊥
  no_legal_plan (faults.Repeat m) real says w plan legal =
      let fits = endpoints_law s request w plan system ports accepted named legal in
      none-some m (sym (none_repeats [] request.endpoints fits.distinct) ∙ says)
  no_legal_plan (faults.Ways n) real says w plan legal =
      let fits = endpoints_law s request w plan system ports accepted named legal in
      false≢true (sym says.0 ∙ fits.ways)
  no_legal_plan faults.Size real says w plan legal =
      let fits = endpoints_law s request w plan system ports accepted named legal in
      says fits.size
  no_legal_plan (faults.Uneven n) real says w plan legal =
      let fits = endpoints_law s request w plan system ports accepted named legal in
      false≢true (sym (fits.even n) ∙ found_passes (is_uneven s request) 0 (length s.nodes) n says)
  no_legal_plan (faults.NoDecoder n) real says w plan legal =
      let fits = endpoints_law s request w plan system ports accepted named legal in
      false≢true (sym (fits.left n) ∙ found_passes (lacks_decoder s request) 0 (length s.nodes) n says)
  no_legal_plan (faults.Span m fault) real says w plan legal =
      let fits = endpoints_law s request w plan system ports accepted named legal in
      let room = fits.room m says.asked in
      not_refused (decoders_at s m) (ram_at s m) (pmem_at s m) request.kind (share_of request) fault says.refused room.0 room.1
  no_legal_plan (faults.NoWindow reasons) real says w plan legal =
      let there = (window_law s request w plan system ports accepted named legal).there in
      let count = says.count in
      let within = slice_get_within s.windows w.index w there in
      let at = reason_at reasons w.index (omega arith) in
      not_both w plan legal at.0 (says.each w.index w at.0 there at.1)
  no_legal_plan faults.Memory real says w plan legal = says

  -- no earlier window has a legal plan
  pub no_earlier_window : (w : WindowFields) (base : ℕ) → TakesFirst s request w base → (v : WindowFields) (plan : Plan) → IsLegalPlanIn s request v plan → w.index ≤ v.index
  no_earlier_window w base first v plan legal =
      elim (cases_lt v.index w.index) [
        | inr late ↦ late
        | inl early ↦
            let there = (window_law s request v plan system ports accepted named legal).there in
            let reason = first.before v there early in
            absurd (not_both v plan legal reason.0 reason.1)
      ]

  -- and no lower base in that window
  pub no_lower_base : (w : WindowFields) (base : ℕ) → TakesFirst s request w base → (v : WindowFields) (plan : Plan) → IsLegalPlanIn s request v plan → v.index ≡ w.index → base ≤ plan.found.base
  no_lower_base w base first v plan legal index =
      let there = (window_law s request v plan system ports accepted named legal).there in
      let same : v ≡ w = same_Some v w (sym there ∙ ap (slice_get s.windows) index ∙ first.takes.window.there) in
      let starts = base_law s request v plan system ports accepted named legal in
      first.takes.least.least plan.found.base (subst (λ (x : WindowFields). FitsBase s request x plan.found.base) same starts).can
