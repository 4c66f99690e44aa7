-- One window after the other.
use Rattle.std.proofs.Common.{◌≡◌, ℕ, ◌+◌, ◌<◌, Bool, false, not, ◌&&◌, ◌||◌, List, [], ◌∷◌, ◌++◌, length, Option, Some, None, true, refl, sym, ap, subst, ◌∙◌, inl, inr, arith}
use Rattle.std.specs.Prelude.{slice_get, ◌==◌, IfSome}
use Rattle.std.specs.Option.{option_map_or}
use Rattle.std.specs.List.{list_all, list_any}
use Rattle.std.proofs.lemmas.Bool.{cases_Bool, cases_eq, cases_lt, false≢true, not-true}
use Rattle.std.proofs.lemmas.Option.{none-some, same_Some, slice_get_within}
use Rattle.cxl_enc.proofs.Lists.{get_last}
use Rattle.cxl_enc.proofs.Tests.{and_false}
use Rattle.cxl_topo.specs.Tree.{is_bridge_at}
use Rattle.cxl_regs.specs.Words.{has_bit}
use Rattle.cxl_window.specs.Fields.{WindowFields}
use Rattle.cxl_window.specs.Position.{is_usable}
use Rattle.cxl_model.specs.declared.request.Request.{Request}
use Rattle.cxl_model.specs.declared.plan.Reason.{Reason}
use Rattle.cxl_model.specs.declared.plan.Reason.TheVariants as reasons
use Rattle.cxl_model.specs.System.{System}
use Rattle.cxl_model.specs.Rules.{permits}
use Rattle.cxl_legal.specs.Used.{is_used}
use Rattle.cxl_legal.specs.Windows.{has_used_bridges, is_used_bridge, is_target}
use Rattle.cxl_plan.specs.Faults.{TakesRequest, TakesFirst, IsReason, AreReasons}
use Rattle.cxl_plan.specs.inner.Choices.{IsUsedUid, HasReason}
use Rattle.cxl_plan.proofs.Reasons.{from_1, from_2, from_3, all_fails}
use Rattle.cxl_plan.proofs.Tables.{slice_get_front, length_end}

-- reasons of the windows before the place i
pub record AreReasonsBelow (s : System) (request : Request) (i : ℕ) (reasons : List Reason) : Type 0 where
  pub count : length reasons ≡ i
  pub each : (j : ℕ) (w : WindowFields) (reason : Reason) → slice_get s.windows j ≡ Some w → slice_get reasons j ≡ Some reason → IsReason s request w reason

pub no_reasons : (s : System) (request : Request) (reasons : List Reason) → reasons ≡ [] → AreReasonsBelow s request 0 reasons
no_reasons s request reasons none = record {
  count = ap length none;
  each = λ j w reason there at. absurd (none-some reason (sym (ap (λ (xs : List Reason). slice_get xs j) none) ∙ at));
}

pub one_reason_more : (s : System) (request : Request) (i : ℕ) (w : WindowFields) (old new : List Reason) (reason : Reason) → slice_get s.windows i ≡ Some w → AreReasonsBelow s request i old → new ≡ old ++ reason ∷ []
    → IsReason s request w reason → AreReasonsBelow s request (i + 1) new
one_reason_more s request i w old new reason here known is own = record {
  count = let longer = ap length is ∙ length_end old reason in let before = known.count in omega arith;
  each = each;
}
  where
    each : (j : ℕ) (v : WindowFields) (other : Reason) → slice_get s.windows j ≡ Some v → slice_get new j ≡ Some other → IsReason s request v other
    each j v other there at =
        let count = known.count in
        elim (cases_lt j (length old)) [
          | inl before ↦ known.each j v other there (sym (slice_get_front old (reason ∷ []) j before) ∙ ap (λ (xs : List Reason). slice_get xs j) (sym is) ∙ at)
          | inr past ↦
              let within = slice_get_within new j other at in
              let longer = ap length is ∙ length_end old reason in
              let same : j ≡ length old = omega arith in
              let place : i ≡ j = omega arith in
              let one : reason ≡ other = same_Some reason other (sym (get_last old reason) ∙ ap (λ (m : ℕ). slice_get (old ++ reason ∷ []) m) (sym same) ∙ ap (λ (xs : List Reason). slice_get xs j) (sym is) ∙ at) in
              let window : w ≡ v = same_Some w v (sym here ∙ ap (slice_get s.windows) place ∙ there) in
              subst (λ (x : WindowFields). IsReason s request x other) window (subst (IsReason s request w) one own)
        ]

pub found_first : (s : System) (request : Request) (i : ℕ) (w : WindowFields) (base : ℕ) → w.index ≡ i → ((j : ℕ) (v : WindowFields) → j < i → slice_get s.windows j ≡ Some v → HasReason s request v)
    → TakesRequest s request w base → TakesFirst s request w base
found_first s request i w base index known takes = record { takes = takes; before = λ v there less. known v.index v (omega arith) there }

-- one window more has a reason
pub one_without_more : (s : System) (request : Request) (i : ℕ) (w : WindowFields) → slice_get s.windows i ≡ Some w → ((j : ℕ) (v : WindowFields) → j < i → slice_get s.windows j ≡ Some v → HasReason s request v) → HasReason s request w
    → (j : ℕ) (v : WindowFields) → j < i + 1 → slice_get s.windows j ≡ Some v → HasReason s request v
one_without_more s request i w here known own j v below there =
    elim (cases_eq j i) [
      | inl same ↦ subst (HasReason s request) (same_Some w v (sym here ∙ ap (slice_get s.windows) (sym same) ∙ there)) own
      | inr other ↦ known j v (omega arith) there
    ]

-- a window that does not target some used bridge does not take the request
untargeted : (s : System) (request : Request) (w : WindowFields) (uid : ℕ) → IsUsedUid s.nodes request uid → list_any (λ target. target == uid) w.targets ≡ false → HasReason s request w
untargeted s request w uid is none =
    elim (cases_Bool (is_usable w.verdict)) [
      | inr unusable ↦ (reasons.Unusable, record { holds = unusable; first = λ other says. omega arith })
      | inl usable ↦ elim (cases_Bool (permits w request.kind)) [
        | inr kind ↦ (reasons.Kind, record { holds = kind; first = from_1 s request w usable })
        | inl kind ↦ elim (cases_Bool (has_bit w.restrict 4)) [
          | inl fixed ↦ (reasons.Fixed, record { holds = fixed; first = from_2 s request w usable kind })
          | inr open_to ↦ (reasons.Bridges, record { holds = bridges; first = from_3 s request w usable kind open_to })
        ]
      ]
    ]
  where
    no_target : is_target s w is.node ≡ false
    no_target = ap (λ (o : Option ℕ). option_map_or (λ uid. list_any (λ target. target == uid) w.targets) o false) is.own ∙ none

    fails : (not (is_bridge_at s.nodes is.node && is_used s request is.node) || is_target s w is.node) ≡ false
    fails = rw (is.bridge, is.used, no_target) refl

    bridges : has_used_bridges s request w ≡ false
    bridges =
        let inside = is.inside in
        ap (λ (all : Bool). list_all (is_used_bridge s request) w.targets && all)
        (all_fails (λ n. not (is_bridge_at s.nodes n && is_used s request n) || is_target s w n) 0 (length s.nodes) is.node (omega arith) (omega arith) fails)
        ∙ and_false (list_all (is_used_bridge s request) w.targets)

pub passed_over : (s : System) (request : Request) (w : WindowFields) (uid : Option ℕ) → IfSome uid (IsUsedUid s.nodes request) → option_map_or (λ uid. not (list_any (λ target. target == uid) w.targets)) uid false ≡ true
    → HasReason s request w
passed_over s request w None is lacks = absurd (false≢true lacks)
passed_over s request w (Some uid) is lacks = untargeted s request w uid is (not-true _ lacks)

pub all_reasons : (s : System) (request : Request) (i : ℕ) (reasons : List Reason) → i ≡ length s.windows → AreReasonsBelow s request i reasons → AreReasons s request reasons
all_reasons s request i reasons whole known = record { count = known.count ∙ whole; each = known.each }
