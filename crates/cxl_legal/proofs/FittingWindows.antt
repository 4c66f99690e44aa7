-- The window of a legal plan keeps what it has to.
use Rattle.std.proofs.Common.{◌≡◌, ℕ, Bool, true, false, not, ◌&&◌, ◌||◌, length, get_or, Option, Some, None, refl, sym, ap, ◌∙◌, inl, inr, arith}
use Rattle.std.specs.Prelude.{◌==◌, nat_lt, IfSome}
use Rattle.std.specs.Option.{option_map_or}
use Rattle.std.specs.List.{list_any, list_all, range_with_len}
use Rattle.std.proofs.lemmas.Bool.{cases_Bool, and_parts, and_from, or_left, or_right, ltb-true, eq-eqb, not_from_false}
use Rattle.std.proofs.lemmas.Option.{same_Some}
use Rattle.std.proofs.lemmas.List.Folds.{Any-from_list_any, list_any_at}
use Rattle.std.proofs.lemmas.List.Sums.{list_all-from_AllPass}
use Rattle.cxl_enc.proofs.Tests.{asked_or}
use Rattle.cxl_topo.specs.Tree.{is_bridge_at, is_endpoint_at, uid_at}
use Rattle.cxl_regs.specs.declared.decoder.Decoder.{Decoder}
use Rattle.cxl_regs.specs.declared.reading.Range.{Range}
use Rattle.cxl_regs.specs.Reading.{has_range}
use Rattle.cxl_window.specs.Fields.{WindowFields}
use Rattle.cxl_window.specs.Position.{is_usable}
use Rattle.cxl_regs.proofs.DecoderRanges.{has_parts, same_range}
use Rattle.cxl_model.specs.declared.plan.Plan.{Plan}
use Rattle.cxl_model.specs.declared.request.Request.{Request}
use Rattle.cxl_model.specs.System.{System, decoder_at}
use Rattle.cxl_model.specs.Ranges.{serves, window_for, span_kind}
use Rattle.cxl_model.specs.Rules.{starts_in_thirds, permits, keeps_window}
use Rattle.cxl_model.specs.Accepted.{IsWhole}
use Rattle.cxl_model.specs.Counts.{is_under}
use Rattle.cxl_model.specs.Regions.{region_range}
use Rattle.cxl_model.specs.Plans.{with_rows, AgreesOnCode}
use Rattle.cxl_model.proofs.Under.{under_top}
use Rattle.cxl_model.proofs.RangeRules.{kept, rule_nine}
use Rattle.cxl_model.proofs.RangeWindows.{has_window, rooted, targets}
use Rattle.cxl_model.proofs.SpansKinds.{has_kind}
use Rattle.cxl_legal.specs.Used.{is_used}
use Rattle.cxl_legal.specs.Windows.{is_used_bridge, is_target, has_used_bridges, agrees_on_gran, FitsWindow}
use Rattle.cxl_legal.proofs.FittingUsed.{lands_used, endpoint_is}
use Rattle.cxl_legal.proofs.FittingEndpoints.{Legal, planned, first_requested}
use Rattle.cxl_legal.proofs.FittingSelects.{all_select, all_have_ways}

-- ---- K9

-- where a decoder's range lies
pub record Lies (s : System) (w : WindowFields) (r : Range) (n i : ℕ) : Type 0 where
  pub thirds : starts_in_thirds w r ≡ true
  pub kind : is_endpoint_at s.nodes n ≡ true → permits w (span_kind s n i) ≡ true

abbrev window_test : System → ℕ → ℕ → Range → Option WindowFields → Bool
window_test s n i r o = option_map_or (λ w. starts_in_thirds w r && (not (is_endpoint_at s.nodes n) || permits w (span_kind s n i))) o false

pub lies_there : (s : System) (w : WindowFields) (r : Range) (n i : ℕ) (d : Decoder) → IsWhole s r → window_for s r ≡ Some w → decoder_at s n i ≡ Some d → has_range r d ≡ true → Lies s w r n i
lies_there s w r n i d whole window there has =
    let own = has_parts r d has in
    let keeps : keeps_window s n i d ≡ true = kept s n i d (keeps_window s n i) there own.committed (sym (rule_nine s n i) ∙ whole.range 9 n i d (omega arith) there has) in
    let test : window_test s n i r (Some w) ≡ true =
    sym (ap (λ (q : Range). window_test s n i q (window_for s q)) (same_range r d own) ∙ ap (window_test s n i r) window) ∙ keeps in
    let parts = and_parts (starts_in_thirds w r) (not (is_endpoint_at s.nodes n) || permits w (span_kind s n i)) test in
    record { thirds = parts.0; kind = asked_or (is_endpoint_at s.nodes n) (permits w (span_kind s n i)) parts.1 }

-- ---- K12, of the kind

-- the window permits the kind
permits_kind : {s : System} {request : Request} {w : WindowFields} {plan : Plan} → Legal s request w plan → permits w request.kind ≡ true
permits_kind {s} {request} {w} {plan} legal =
    let fits = planned legal in
    let m : ℕ = get_or request.endpoints 0 0 in
    let first = first_requested legal in
    let lies = lies_there (with_rows s plan.rows) w (region_range plan.found) m first.at.i first.at.d fits.whole fits.window first.at.there first.at.has in
    let own = has_kind (with_rows s plan.rows) w (region_range plan.found) m first.at.i first.at.d fits.whole fits.window first.endpoint first.at.there first.at.has in
    ap (permits w) (sym legal.is.kind ∙ legal.is.region.kind ∙ sym own) ∙ lies.kind first.endpoint

-- ---- the bridges

used_targets : {s : System} {request : Request} {w : WindowFields} {plan : Plan} → Legal s request w plan → list_all (is_used_bridge s request) w.targets ≡ true
used_targets {s} {request} {w} {plan} legal =
    list_all-from_AllPass (is_used_bridge s request) w.targets (λ k d within.
    let fits = planned legal in
    let target = targets fits.rise (with_rows s plan.rows) (region_range plan.found) w fits.system fits.known fits.whole fits.window fits.committed k d within in
    ap (λ (o : Option ℕ). option_map_or (is_used s request) o false) target.found ∙ lands_used fits target.bridge target.lands)

targeted_bridge : {s : System} {request : Request} {w : WindowFields} {plan : Plan} → Legal s request w plan → (n : ℕ) → is_bridge_at s.nodes n ≡ true → is_used s request n ≡ true → is_target s w n ≡ true
targeted_bridge {s} {request} {w} {plan} legal n bridge used =
    let fits = planned legal in
    let some = Any-from_list_any (is_under s.nodes n) request.endpoints used in
    let m : ℕ = some.1 in
    let there : list_any (λ x. x == m) request.endpoints ≡ true = list_any_at (λ x. x == m) request.endpoints some.0 m some.2 (eq-eqb (get_or request.endpoints some.0 m) m some.3) in
    let serving : serves (with_rows s plan.rows) (region_range plan.found) m ≡ true = (and_parts (is_endpoint_at s.nodes m) (serves (with_rows s plan.rows) (region_range plan.found) m) (endpoint_is fits m ∙ there)).1 in
    let root = rooted fits.rise (with_rows s plan.rows) (region_range plan.found) w fits.known fits.whole fits.window m serving in
    let top = (under_top fits.known n (fits.known.tree.bridges n bridge) m).0 some.4 in
    let same : root.bridge ≡ n = same_Some root.bridge n (sym root.root ∙ top) in
    ap (λ (o : Option ℕ). option_map_or (λ uid. list_any (λ target. target == uid) w.targets) o false) (ap (uid_at s.nodes) (sym same) ∙ root.own) ∙ root.targeted

used_bridges : {s : System} {request : Request} {w : WindowFields} {plan : Plan} → Legal s request w plan → has_used_bridges s request w ≡ true
used_bridges {s} {request} {w} legal =
    and_from (list_all (is_used_bridge s request) w.targets) (list_all (λ n. not (is_bridge_at s.nodes n && is_used s request n) || is_target s w n) (range_with_len 0 (length s.nodes)))
    (used_targets legal)
    (list_all-from_AllPass (λ n. not (is_bridge_at s.nodes n && is_used s request n) || is_target s w n) (range_with_len 0 (length s.nodes)) (λ k d within. each (get_or (range_with_len 0 (length s.nodes)) k d)))
  where
    each : (n : ℕ) → (not (is_bridge_at s.nodes n && is_used s request n) || is_target s w n) ≡ true
    each n =
        elim (cases_Bool (is_bridge_at s.nodes n && is_used s request n)) [
          | inl both ↦
              let parts = and_parts (is_bridge_at s.nodes n) (is_used s request n) both in
              or_right (not (is_bridge_at s.nodes n && is_used s request n)) (is_target s w n) (targeted_bridge legal n parts.0 parts.1)
          | inr other ↦ or_left (not (is_bridge_at s.nodes n && is_used s request n)) (is_target s w n) (not_from_false (is_bridge_at s.nodes n && is_used s request n) other)
        ]

-- ---- the code

agreed : (o : Option ℕ) (gran : ℕ) → IfSome o (λ code. code ≡ gran) → option_map_or (λ code. code == gran) o true ≡ true
agreed None gran is = refl
agreed (Some code) gran is = eq-eqb code gran is

gran_agrees : (request : Request) (w : WindowFields) → AgreesOnCode request w → agrees_on_gran request.gran w ≡ true
gran_agrees request w agrees =
    elim (cases_Bool (nat_lt 1 w.ways)) [
      | inl more ↦ or_right (not (nat_lt 1 w.ways)) (option_map_or (λ code. code == w.gran) request.gran true) (agreed request.gran w.gran (agrees (ltb-true 1 w.ways more)))
      | inr one ↦ or_left (not (nat_lt 1 w.ways)) (option_map_or (λ code. code == w.gran) request.gran true) (not_from_false (nat_lt 1 w.ways) one)
    ]

-- ---- all of it

pub fits_window : {s : System} {request : Request} {w : WindowFields} {plan : Plan} → Legal s request w plan → FitsWindow s request w
fits_window {s} {request} {w} {plan} legal =
    let fits = planned legal in
    let window = has_window (with_rows s plan.rows) (region_range plan.found) w fits.system fits.window in
    record {
      there = legal.is.there;
      usable = ap is_usable window.verdict;
      kind = permits_kind legal;
      open_to_plans = legal.is.open_to_plans;
      bridges = used_bridges legal;
      gran = gran_agrees request w legal.is.agrees;
      selects = all_select legal;
      ways = all_have_ways legal;
    }
