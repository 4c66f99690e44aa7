-- Each request of endpoints over an accepted image has a plan that is stated in the first window that takes it, or a first fault.
use Rattle.std.proofs.Common.{◌≡◌, ℕ, zero, suc, ◌+◌, ◌<◌, ◌≤◌, ◌⊎◌, true, false, not, List, [], ◌∷◌, length, Option, Some, None, refl, sym, ap, subst, ◌∙◌, inl, inr, arith}
use Rattle.std.specs.Prelude.{slice_get, find, nat_lt, Contains}
use Rattle.std.specs.List.{filter_map, range_with_len}
use Rattle.std.proofs.lemmas.Bool.{cases_Bool, cases_eq, ltb-true, ltb-false, false≢true}
use Rattle.std.proofs.lemmas.Option.{none-some, same_Some, slice_get_within}
use Rattle.cxl_enc.specs.Codes.{is_ways}
use Rattle.cxl_enc.proofs.Options.{cases_Option}
use Rattle.cxl_enc.proofs.Lists.{item as item_at}
use Rattle.cxl_topo.specs.Laws.{AreTreeLaws}
use Rattle.cxl_regs.specs.Words.{has_bit}
use Rattle.cxl_window.specs.Fields.{WindowFields}
use Rattle.cxl_window.specs.Position.{is_usable}
use Rattle.cxl_window.specs.Windows.{first_repeat}
use Rattle.cxl_topo.proofs.Trees.{KnownTree}
use Rattle.cxl_model.specs.declared.request.Request.{Request}
use Rattle.cxl_model.specs.declared.plan.Plan.{Plan}
use Rattle.cxl_model.specs.declared.plan.PlanFault.{PlanFault}
use Rattle.cxl_model.specs.declared.plan.PlanFault.TheVariants as faults
use Rattle.cxl_model.specs.declared.plan.Reason.{Reason}
use Rattle.cxl_model.specs.declared.plan.Reason.TheVariants as reasons
use Rattle.cxl_model.specs.Rules.{permits}
use Rattle.cxl_model.specs.System.{System, IsSystem}
use Rattle.cxl_model.specs.Accepted.{IsAccepted}
use Rattle.cxl_legal.specs.Sizes.{is_size_for}
use Rattle.cxl_legal.specs.Used.{AreEndpoints, HasBytePorts, request_ways}
use Rattle.cxl_legal.specs.Endpoints.{FitsEndpoints, is_uneven, lacks_decoder}
use Rattle.cxl_legal.specs.Windows.{has_used_bridges, agrees_on_gran, can_select, can_have_ways}
use Rattle.cxl_legal.specs.Stated.{IsStatedPlan, Fits}
use Rattle.cxl_plan.specs.Faults.{IsFirstPlan, IsFirstPlanFault, IsReason, SaysOfWindow, TakesRequest, TakesFirst, turn_of_reason, least}
use Rattle.cxl_plan.specs.Planned.{reason_of, room_in, least_base, span_fault}
use Rattle.cxl_plan.specs.inner.Judging.{IsEarly, KeepsWindow, uneven_at, selects_at}
use Rattle.cxl_plan.proofs.FaultOrder.{faults_1, faults_2, faults_3, faults_4, faults_5, faults_6, fits_endpoints}
use Rattle.cxl_plan.proofs.Reasons.{AllFrom, onward, none_0, none_1, none_2, none_3, from_5, from_6, from_7, fits_window}
use Rattle.cxl_plan.proofs.FirstThere.{first_or_none}
use Rattle.cxl_plan.proofs.ComputedBases.{least_base_known}
use Rattle.cxl_legal.proofs.SizeTests.{size_holds, size_passes}
use Rattle.cxl_plan.proofs.ComputedFaults.{asked_inside, refused_first, no_fault_room}
use Rattle.cxl_plan.proofs.ComputedWindows.{reason_told}

-- ---- lists of answers

-- where each item has an answer, the list of them has one for each
module _ {X Y : Type 0} (h : X → Option Y) where
  as_many : (xs : List X) → ((i : ℕ) (x : X) → slice_get xs i ≡ Some x → (y : Y) × (h x ≡ Some y)) → length (filter_map h xs) ≡ length xs
  as_many [] each = refl
  as_many (x ∷ xs) each =
      let here = (each 0 x refl).1 in
      rw here (ap suc (as_many xs (λ i z at. each (suc i) z at)))

  answer_at : (xs : List X) → ((i : ℕ) (x : X) → slice_get xs i ≡ Some x → (y : Y) × (h x ≡ Some y)) → (i : ℕ) (x : X) (y : Y) → slice_get xs i ≡ Some x → slice_get (filter_map h xs) i ≡ Some y → h x ≡ Some y
  answer_at [] each i x y at there = absurd (none-some x at)
  answer_at (z ∷ zs) each zero x y at there =
      let own = each 0 z refl in
      let here = own.1 in
      let first : Some own.0 ≡ Some y = rw here at there in
      ap h (sym (same_Some z x at)) ∙ here ∙ first
  answer_at (z ∷ zs) each (suc i) x y at there =
      let here = (each 0 z refl).1 in
      answer_at zs (λ j v below. each (suc j) v below) i x y at (rw here at there)

-- ---- opaque tests

uneven_found : (s : System) (request : Request) (o : Option ℕ) → least s (is_uneven s request) ≡ o → find (uneven_at s.nodes request) (range_with_len 0 (length s.nodes)) ≡ o
unfolding uneven_at
uneven_found s request o e = e

selects_found : (s : System) (request : Request) (w : WindowFields) (o : Option ℕ) → least s (λ m. not (can_select s request w m)) ≡ o → find (λ m. not (selects_at s.nodes request w m)) (range_with_len 0 (length s.nodes)) ≡ o
unfolding selects_at
selects_found s request w o e = e

abbrev pub StatesPlans : Type 0
StatesPlans = (s : System) (request : Request) (w : WindowFields) (base : ℕ) → Fits s request w base → (plan : Plan) × IsStatedPlan s request w base plan

module _ (s : System) (request : Request) (system : IsSystem s) (laws : AreTreeLaws s.nodes) (ports : HasBytePorts s.nodes) (accepted : IsAccepted s) (named : AreEndpoints s request) (states : StatesPlans) where
  tree : KnownTree s.nodes
  tree = record { tree = system.tree; laws = laws }

  -- ---- one window

  abbrev HasReason : WindowFields → Type 0
  HasReason w = (reason : Reason) × IsReason s request w reason

  abbrev TakesAt : WindowFields → Type 0
  TakesAt w = TakesRequest s request w (least_base s request w)

  module _ (w : WindowFields) (there : slice_get s.windows w.index ≡ Some w) where
    reasoned : (reason : Reason) → SaysOfWindow s request w reason → ((other : Reason) → SaysOfWindow s request w other → turn_of_reason reason ≤ turn_of_reason other) → HasReason w ⊎ TakesAt w
    reasoned reason holds first = inl (reason, record { holds = holds; first = first })

    keeps_room : (kept : KeepsWindow s.nodes request w) → AllFrom s request w 7 → HasReason w ⊎ TakesAt w
    keeps_room kept from =
        elim (cases_Bool (nat_lt (room_in s request w).limit ((room_in s request w).start + request.size))) [
          | inl short ↦
              reasoned (reasons.NoBase (room_in s request w))
              record { start = least_base_known s tree request named w; limit = refl; short = ltb-true (room_in s request w).limit ((room_in s request w).start + request.size) short } from
          | inr fits ↦
              inr record {
                window = fits_window s.nodes tree request named w kept s.blocks s.windows there;
                least = least_base_known s tree request named w;
                inside = ltb-false (room_in s request w).limit ((room_in s request w).start + request.size) fits;
              }
        ]

    keeps_nodes : is_usable w.verdict ≡ true → permits w request.kind ≡ true → has_bit w.restrict 4 ≡ false → has_used_bridges s request w ≡ true → agrees_on_gran request.gran w ≡ true → HasReason w ⊎ TakesAt w
    keeps_nodes usable kind open_to bridges gran =
        elim (cases_Option (least s (λ m. not (can_select s request w m)))) [
          | inr some ↦ reasoned (reasons.Select some.0) some.1 from
          | inl selects ↦ elim (cases_Option (least s (λ m. not (can_have_ways s request m)))) [
            | inr some ↦ reasoned (reasons.WaysCap some.0) some.1 (from_6 s request w from selects)
            | inl ways ↦
                keeps_room
                record { usable = usable; kind = kind; open_to_plans = open_to; bridges = bridges; gran = gran; selects = selects_found s request w None selects; ways = ways }
                (from_7 s request w (from_6 s request w from selects) ways)
          ]
        ]
      where
        from : AllFrom s request w 5
        from = from_5 s request w usable kind open_to bridges gran

    reason_or_base : HasReason w ⊎ TakesAt w
    reason_or_base =
        elim (cases_Bool (is_usable w.verdict)) [
          | inr fails ↦ reasoned reasons.Unusable fails (λ other says. omega arith)
          | inl usable ↦
              let one : AllFrom s request w 1 = onward s request w 0 (λ other says. omega arith) (none_0 s request w usable) in
              elim (cases_Bool (permits w request.kind)) [
                | inr fails ↦ reasoned reasons.Kind fails one
                | inl kind ↦
                    let two : AllFrom s request w 2 = onward s request w 1 one (none_1 s request w kind) in
                    elim (cases_Bool (has_bit w.restrict 4)) [
                      | inl fixed ↦ reasoned reasons.Fixed fixed two
                      | inr open_to ↦
                          let three : AllFrom s request w 3 = onward s request w 2 two (none_2 s request w open_to) in
                          elim (cases_Bool (has_used_bridges s request w)) [
                            | inr fails ↦ reasoned reasons.Bridges fails three
                            | inl bridges ↦ elim (cases_Bool (agrees_on_gran request.gran w)) [
                              | inr fails ↦ reasoned reasons.Gran fails (onward s request w 3 three (none_3 s request w bridges))
                              | inl gran ↦ keeps_nodes usable kind open_to bridges gran
                            ]
                          ]
                    ]
              ]
        ]

  -- ---- all windows

  abbrev AllReasoned : ℕ → Type 0
  AllReasoned k = (j : ℕ) (v : WindowFields) → j < k → slice_get s.windows j ≡ Some v → HasReason v

  abbrev SomeTakes : Type 0
  SomeTakes = (w : WindowFields) × TakesFirst s request w (least_base s request w)

  there_at : (k : ℕ) (w : WindowFields) → slice_get s.windows k ≡ Some w → slice_get s.windows w.index ≡ Some w
  there_at k w at = ap (slice_get s.windows) (system.made.indexed k w at) ∙ at

  search_windows : (k : ℕ) → k ≤ length s.windows → AllReasoned k ⊎ SomeTakes
  search_windows zero low = inl (λ j v less at. absurd (omega arith))
  search_windows (suc k) low =
      elim (search_windows k (omega arith)) [
        | inr found ↦ inr found
        | inl all ↦
            let here = item_at s.windows k (omega arith) in
            let w : WindowFields = here.0 in
            elim (reason_or_base w (there_at k w here.1)) [
              | inl reason ↦
                  inl (λ j v less at.
                  elim (cases_eq j k) [
                    | inr other ↦ all j v (omega arith) at
                    | inl same ↦ subst HasReason (same_Some w v (sym here.1 ∙ ap (slice_get s.windows) (sym same) ∙ at)) reason
                  ])
              | inr takes ↦
                  let place : w.index ≡ k = system.made.indexed k w here.1 in
                  inr (w, record { takes = takes; before = λ v there less. all v.index v (omega arith) there })
            ]
      ]

  -- ---- the answer

  abbrev HasFault : Type 0
  HasFault = (fault : PlanFault) × IsFirstPlanFault s request fault

  abbrev HasPlan : Type 0
  HasPlan = FitsEndpoints s request × ((plan : Plan) × IsFirstPlan s request plan)

  in_window : FitsEndpoints s request → SomeTakes → HasPlan
  in_window fits (w, first) =
      let takes = first.takes in
      let all : Fits s request w (least_base s request w) = record {
        system = system;
        ports = ports;
        accepted = accepted;
        named = named;
        endpoints = fits;
        window = takes.window;
        starts = record { can = takes.least.can; inside = takes.inside };
      } in
      let (plan, stated) = states s request w (least_base s request w) all in (
        fits,
        (
          plan,
          record {
            window = w;
            first = subst (λ (b : ℕ). TakesFirst s request w b) (sym stated.starts) first;
            stated = subst (λ (b : ℕ). IsStatedPlan s request w b plan) (sym stated.starts) stated;
          },
        ),
      )

  nowhere : IsEarly request → FitsEndpoints s request → AllReasoned (length s.windows) → HasFault
  nowhere early fits all = (
    faults.NoWindow (filter_map (reason_of s request) s.windows),
    record { holds = record { count = as_many (reason_of s request) s.windows each; each = is_reason }; first = faults_6 s request early fits },
  )
    where
      each : (i : ℕ) (w : WindowFields) → slice_get s.windows i ≡ Some w → (reason : Reason) × (reason_of s request w ≡ Some reason)
      each i w at =
          let own = all i w (slice_get_within s.windows i w at) at in
          (own.0, reason_told s tree request named w own.0 own.1)

      is_reason : (i : ℕ) (w : WindowFields) (reason : Reason) → slice_get s.windows i ≡ Some w → slice_get (filter_map (reason_of s request) s.windows) i ≡ Some reason → IsReason s request w reason
      is_reason i w reason at there =
          let own = all i w (slice_get_within s.windows i w at) at in
          let is = answer_at (reason_of s request) s.windows each i w reason at there in
          subst (IsReason s request w) (same_Some own.0 reason (sym (reason_told s tree request named w own.0 own.1) ∙ is)) own.1

  over_windows : IsEarly request → FitsEndpoints s request → HasPlan ⊎ HasFault
  over_windows early fits =
      elim (search_windows (length s.windows) (omega arith)) [
        | inl all ↦ inr (nowhere early fits all)
        | inr some ↦ inl (in_window fits some)
      ]

  over_nodes : IsEarly request → HasPlan ⊎ HasFault
  over_nodes early =
      elim (cases_Option (least s (is_uneven s request))) [
        | inr some ↦ inr (faults.Uneven some.0, record { holds = some.1; first = faults_3 s request early })
        | inl even ↦ elim (cases_Option (least s (lacks_decoder s request))) [
          | inr some ↦ inr (faults.NoDecoder some.0, record { holds = some.1; first = faults_4 s request early even })
          | inl has ↦ elim (first_or_none (span_fault s request) 0 (length s.nodes)) [
            | inr first ↦
                let refused = refused_first s tree request named has first.m first.x first.here first.before in
                inr (faults.Span first.m refused.0, record { holds = refused.1; first = faults_5 s request early even has })
            | inl none ↦
                over_windows early
                (fits_endpoints s.nodes tree request named s.blocks s.windows early (uneven_found s request None even) has
                (λ m asked. no_fault_room s tree request named has m asked (unrefused none m asked)))
          ]
        ]
      ]
    where
      unrefused : ((n : ℕ) → 0 ≤ n → n < 0 + length s.nodes → span_fault s request n ≡ None) → (m : ℕ) → Contains request.endpoints m → span_fault s request m ≡ None
      unrefused none m asked = let low = asked_inside s tree request named m asked in none m (omega arith) (omega arith)

  pub answered : HasPlan ⊎ HasFault
  answered =
      elim (cases_Option (first_repeat [] request.endpoints)) [
        | inr some ↦ inr (faults.Repeat some.0, record { holds = some.1; first = λ other says. omega arith })
        | inl distinct ↦ elim (cases_Bool (is_ways (request_ways request))) [
          | inr fails ↦ inr (faults.Ways (request_ways request), record { holds = (fails, refl); first = faults_1 s request distinct })
          | inl ways ↦ elim (cases_Bool (is_size_for request.size (request_ways request))) [
            | inr fails ↦
                inr (faults.Size, record { holds = λ size. false≢true (sym fails ∙ size_passes request.size (request_ways request) size); first = faults_2 s request distinct ways })
            | inl size ↦ over_nodes record { distinct = distinct; ways = ways; size = size_holds request.size (request_ways request) size }
          ]
        ]
      ]
