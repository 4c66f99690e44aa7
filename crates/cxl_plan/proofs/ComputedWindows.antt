-- The reason against a window, as it is computed and as it is told.
use Rattle.std.proofs.Common.{◌≡◌, ℕ, zero, suc, ◌+◌, ◌<◌, ◌≤◌, Bool, true, not, List, [], ◌∷◌, length, Option, Some, None, refl, sym, ap, ◌∙◌, inl, inr, arith}
use Rattle.std.specs.Prelude.{slice_get, find, nat_lt, option_map, is_none}
use Rattle.std.specs.Bool.{then_some}
use Rattle.std.specs.List.{All, filter_map}
use Rattle.std.proofs.lemmas.Bool.{cases_Bool, lt-ltb, ltb-true}
use Rattle.std.proofs.lemmas.Option.{slice_get_within}
use Rattle.cxl_enc.proofs.Options.{none_where}
use Rattle.cxl_topo.specs.Tree.{is_endpoint_at}
use Rattle.cxl_regs.specs.Words.{has_bit}
use Rattle.cxl_span.specs.declared.allotting.Room.{Room}
use Rattle.cxl_window.specs.Fields.{WindowFields}
use Rattle.cxl_window.specs.Position.{is_usable}
use Rattle.cxl_topo.proofs.Trees.{KnownTree}
use Rattle.cxl_model.specs.declared.request.Request.{Request}
use Rattle.cxl_model.specs.declared.plan.Reason.{Reason}
use Rattle.cxl_model.specs.declared.plan.Reason.TheVariants as reasons
use Rattle.cxl_model.specs.Rules.{permits}
use Rattle.cxl_model.specs.System.{System}
use Rattle.cxl_legal.specs.Firsts.{first_there}
use Rattle.cxl_legal.specs.Windows.{has_used_bridges, agrees_on_gran, can_select, can_have_ways}
use Rattle.cxl_plan.specs.Faults.{SaysOfWindow, turn_of_reason, IsReason, TakesRequest, TakesFirst, AreReasons, least}
use Rattle.cxl_plan.specs.Planned.{reason_of, room_in, least_base}
use Rattle.cxl_plan.proofs.LegalPlans.{no_reason}
use Rattle.cxl_plan.proofs.FirstThere.{past_none, at_some, some_then, none_then, find_at, find_nothing, answers_of}
use Rattle.cxl_plan.proofs.ComputedBases.{least_base_known, one_least}

module _ (s : System) (known : KnownTree s.nodes) (request : Request) (named : All (λ m. is_endpoint_at s.nodes m ≡ true) request.endpoints) where
  module _ (w : WindowFields) where
    -- ---- the answers to each reason

    abbrev part_0 : Option Reason
    part_0 = then_some (not (is_usable w.verdict)) reasons.Unusable

    abbrev part_1 : Option Reason
    part_1 = then_some (not (permits w request.kind)) reasons.Kind

    abbrev part_2 : Option Reason
    part_2 = then_some (has_bit w.restrict 4) reasons.Fixed

    abbrev part_3 : Option Reason
    part_3 = then_some (not (has_used_bridges s request w)) reasons.Bridges

    abbrev part_4 : Option Reason
    part_4 = then_some (not (agrees_on_gran request.gran w)) reasons.Gran

    abbrev part_5 : Option Reason
    part_5 = option_map reasons.Select (least s (λ m. not (can_select s request w m)))

    abbrev part_6 : Option Reason
    part_6 = option_map reasons.WaysCap (least s (λ m. not (can_have_ways s request m)))

    abbrev lacks_room : Bool
    lacks_room = nat_lt (room_in s request w).limit ((room_in s request w).start + request.size)

    abbrev part_7 : Option Reason
    part_7 = then_some lacks_room (reasons.NoBase (room_in s request w))

    abbrev parts_1 : List (Option Reason)
    parts_1 = part_1 ∷ part_2 ∷ part_3 ∷ part_4 ∷ part_5 ∷ part_6 ∷ part_7 ∷ []

    abbrev parts_2 : List (Option Reason)
    parts_2 = part_2 ∷ part_3 ∷ part_4 ∷ part_5 ∷ part_6 ∷ part_7 ∷ []

    abbrev parts_3 : List (Option Reason)
    parts_3 = part_3 ∷ part_4 ∷ part_5 ∷ part_6 ∷ part_7 ∷ []

    abbrev parts_4 : List (Option Reason)
    parts_4 = part_4 ∷ part_5 ∷ part_6 ∷ part_7 ∷ []

    abbrev parts_5 : List (Option Reason)
    parts_5 = part_5 ∷ part_6 ∷ part_7 ∷ []

    abbrev parts_6 : List (Option Reason)
    parts_6 = part_6 ∷ part_7 ∷ []

    abbrev parts_7 : List (Option Reason)
    parts_7 = part_7 ∷ []

    -- ---- no reason before the k-th

    abbrev From : ℕ → Type 0
    From k = (other : Reason) → SaysOfWindow s request w other → k ≤ turn_of_reason other

    module _ (k : ℕ) (from : From k) where
      usable : 1 ≤ k → part_0 ≡ None
      usable low =
          elim (cases_Bool (is_usable w.verdict)) [
            | inl is ↦ none_then (not (is_usable w.verdict)) reasons.Unusable (ap not is)
            | inr fails ↦ let early = from reasons.Unusable fails in absurd (omega arith)
          ]

      of_kind : 2 ≤ k → part_1 ≡ None
      of_kind low =
          elim (cases_Bool (permits w request.kind)) [
            | inl is ↦ none_then (not (permits w request.kind)) reasons.Kind (ap not is)
            | inr fails ↦ let early = from reasons.Kind fails in absurd (omega arith)
          ]

      open_to_plans : 3 ≤ k → part_2 ≡ None
      open_to_plans low =
          elim (cases_Bool (has_bit w.restrict 4)) [
            | inl fixed ↦ let early = from reasons.Fixed fixed in absurd (omega arith)
            | inr is ↦ none_then (has_bit w.restrict 4) reasons.Fixed is
          ]

      of_bridges : 4 ≤ k → part_3 ≡ None
      of_bridges low =
          elim (cases_Bool (has_used_bridges s request w)) [
            | inl is ↦ none_then (not (has_used_bridges s request w)) reasons.Bridges (ap not is)
            | inr fails ↦ let early = from reasons.Bridges fails in absurd (omega arith)
          ]

      of_gran : 5 ≤ k → part_4 ≡ None
      of_gran low =
          elim (cases_Bool (agrees_on_gran request.gran w)) [
            | inl is ↦ none_then (not (agrees_on_gran request.gran w)) reasons.Gran (ap not is)
            | inr fails ↦ let early = from reasons.Gran fails in absurd (omega arith)
          ]

      selecting : 6 ≤ k → part_5 ≡ None
      selecting low =
          ap (option_map reasons.Select)
          (none_where (least s (λ m. not (can_select s request w m))) (λ n is. let early = from (reasons.Select n) is in absurd (omega arith)))

      of_ways : 7 ≤ k → part_6 ≡ None
      of_ways low =
          ap (option_map reasons.WaysCap)
          (none_where (least s (λ m. not (can_have_ways s request m))) (λ n is. let early = from (reasons.WaysCap n) is in absurd (omega arith)))

      roomy : 8 ≤ k → part_7 ≡ None
      roomy low =
          elim (cases_Bool lacks_room) [
            | inl short ↦
                let early = from (reasons.NoBase (room_in s request w)) record {
                  start = least_base_known s known request named w;
                  limit = refl;
                  short = ltb-true (room_in s request w).limit ((room_in s request w).start + request.size) short;
                } in
                absurd (omega arith)
            | inr fits ↦ none_then lacks_room (reasons.NoBase (room_in s request w)) fits
          ]

      after_1 : 1 ≤ k → reason_of s request w ≡ first_there parts_1
      after_1 low = past_none part_0 parts_1 (usable low)

      after_2 : 2 ≤ k → reason_of s request w ≡ first_there parts_2
      after_2 low = after_1 (omega arith) ∙ past_none part_1 parts_2 (of_kind low)

      after_3 : 3 ≤ k → reason_of s request w ≡ first_there parts_3
      after_3 low = after_2 (omega arith) ∙ past_none part_2 parts_3 (open_to_plans low)

      after_4 : 4 ≤ k → reason_of s request w ≡ first_there parts_4
      after_4 low = after_3 (omega arith) ∙ past_none part_3 parts_4 (of_bridges low)

      after_5 : 5 ≤ k → reason_of s request w ≡ first_there parts_5
      after_5 low = after_4 (omega arith) ∙ past_none part_4 parts_5 (of_gran low)

      after_6 : 6 ≤ k → reason_of s request w ≡ first_there parts_6
      after_6 low = after_5 (omega arith) ∙ past_none part_5 parts_6 (selecting low)

      after_7 : 7 ≤ k → reason_of s request w ≡ first_there parts_7
      after_7 low = after_6 (omega arith) ∙ past_none part_6 parts_7 (of_ways low)

      after_all : 8 ≤ k → reason_of s request w ≡ None
      after_all low = after_7 (omega arith) ∙ past_none part_7 [] (roomy low)

    -- ---- a reason is computed where it is told

    room_told : (room : Room) → SaysOfWindow s request w (reasons.NoBase room) → part_7 ≡ Some (reasons.NoBase room)
    room_told room is =
        let start : (room_in s request w).start ≡ room.start = one_least (least_base_known s known request named w) is.start in
        let limit = is.limit in
        let less = is.short in
        some_then lacks_room (reasons.NoBase (room_in s request w)) (lt-ltb (room_in s request w).limit ((room_in s request w).start + request.size) (omega arith))
        ∙ ap (λ (r : Room). Some (reasons.NoBase r))
        (ap (λ (n : ℕ). record { start = n; limit = (room_in s request w).limit }) start ∙ ap (λ (n : ℕ). record { start = room.start; limit = n }) (sym limit))

    pub reason_told : (reason : Reason) → IsReason s request w reason → reason_of s request w ≡ Some reason
    reason_told reasons.Unusable is =
        at_some part_0 parts_1 reasons.Unusable (some_then (not (is_usable w.verdict)) reasons.Unusable (ap not is.holds))
    reason_told reasons.Kind is =
        after_1 1 is.first (omega arith) ∙ at_some part_1 parts_2 reasons.Kind (some_then (not (permits w request.kind)) reasons.Kind (ap not is.holds))
    reason_told reasons.Fixed is = after_2 2 is.first (omega arith) ∙ at_some part_2 parts_3 reasons.Fixed (some_then (has_bit w.restrict 4) reasons.Fixed is.holds)
    reason_told reasons.Bridges is =
        after_3 3 is.first (omega arith) ∙ at_some part_3 parts_4 reasons.Bridges (some_then (not (has_used_bridges s request w)) reasons.Bridges (ap not is.holds))
    reason_told reasons.Gran is =
        after_4 4 is.first (omega arith) ∙ at_some part_4 parts_5 reasons.Gran (some_then (not (agrees_on_gran request.gran w)) reasons.Gran (ap not is.holds))
    reason_told (reasons.Select n) is = after_5 5 is.first (omega arith) ∙ at_some part_5 parts_6 (reasons.Select n) (ap (option_map reasons.Select) is.holds)
    reason_told (reasons.WaysCap n) is = after_6 6 is.first (omega arith) ∙ at_some part_6 parts_7 (reasons.WaysCap n) (ap (option_map reasons.WaysCap) is.holds)
    reason_told (reasons.NoBase room) is = after_7 7 is.first (omega arith) ∙ at_some part_7 [] (reasons.NoBase room) (room_told room is.holds)

    -- a window that takes the request has none
    pub none_told : (base : ℕ) → TakesRequest s request w base → reason_of s request w ≡ None
    none_told base takes =
        after_all 8 (λ other says. absurd (no_reason s request w base takes.window record { can = takes.least.can; inside = takes.inside } other says)) (omega arith)

    pub base_told : (base : ℕ) → TakesRequest s request w base → least_base s request w ≡ base
    base_told base takes = one_least (least_base_known s known request named w) takes.least

  -- ---- all windows

  module _ (indexed : (i : ℕ) (w : WindowFields) → slice_get s.windows i ≡ Some w → w.index ≡ i) where
    pub window_told : (w : WindowFields) (base : ℕ) → TakesFirst s request w base → find (λ v. is_none (reason_of s request v)) s.windows ≡ Some w
    window_told w base first =
        find_at (λ v. is_none (reason_of s request v)) s.windows w.index w first.takes.window.there (ap is_none (none_told w base first.takes))
        (λ j v less at.
        let place : v.index ≡ j = indexed j v at in
        let reason = first.before v (ap (slice_get s.windows) place ∙ at) (omega arith) in
        ap is_none (reason_told v reason.0 reason.1))

  reason_at : (reasons : List Reason) (i : ℕ) → i < length reasons → (reason : Reason) × (slice_get reasons i ≡ Some reason)
  reason_at [] i lt = absurd (omega arith)
  reason_at (x ∷ xs) zero lt = (x, refl)
  reason_at (x ∷ xs) (suc i) lt = reason_at xs i (omega arith)

  pub no_window_told : (reasons : List Reason) → AreReasons s request reasons → find (λ v. is_none (reason_of s request v)) s.windows ≡ None
  no_window_told reasons all =
      find_nothing (λ v. is_none (reason_of s request v)) s.windows
      (λ j v at.
      let within = slice_get_within s.windows j v at in
      let count = all.count in
      let reason = reason_at reasons j (omega arith) in
      ap is_none (reason_told v reason.0 (all.each j v reason.0 at reason.1)))

  pub reasons_told : (reasons : List Reason) → AreReasons s request reasons → filter_map (reason_of s request) s.windows ≡ reasons
  reasons_told reasons all =
      answers_of (reason_of s request) s.windows reasons all.count (λ i v reason at there. reason_told v reason (all.each i v reason at there))
