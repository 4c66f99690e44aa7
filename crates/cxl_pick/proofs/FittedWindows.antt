-- A set that is given in a window fits it, at its latest start.
use Rattle.std.proofs.Common.{◌≡◌, ℕ, zero, suc, ◌+◌, ◌-◌, ◌*◌, ◌/◌, ◌%◌, ◌<◌, ◌≤◌, Bool, true, false, not, ◌&&◌, ◌||◌, if◌then◌else◌, List, [], ◌∷◌, length, get_or, Option, Some, None, refl, sym, ap, ◌∙◌, subst, inl, inr, arith}
use Rattle.std.specs.Prelude.{◌==◌, nat_le}
use Rattle.std.specs.Option.{option_map_or}
use Rattle.std.specs.List.{list_any, list_all, range_with_len}
use Rattle.std.proofs.Math.Nat.{mul-mod_left}
use Rattle.std.proofs.lemmas.Nat.{div-add-mod'}
use Rattle.std.proofs.lemmas.Bool.{cases_Bool, and_parts, and_from, or_cases, or_left, eqb-true, eq-eqb, leb-true, le-leb, false≢true, not-true}
use Rattle.std.proofs.lemmas.List.Sums.{list_all-from_AllPass}
use Rattle.std.proofs.lemmas.Option.{none-some, same_Some}
use Rattle.std.proofs.lemmas.List.Folds.{list_any_at}
use Rattle.cxl_enc.specs.Codes.{bits_of, code_in_table}
use Rattle.cxl_enc.proofs.Lists.{is_in, in_is}
use Rattle.cxl_enc.proofs.Ways.{some_ways}
use Rattle.cxl_regs.specs.Rules.{endpoint_ways_ok, select_ok}
use Rattle.cxl_topo.specs.Tree.{is_endpoint_at, is_port_at, is_bridge_at, uid_at, parent_of}
use Rattle.cxl_window.specs.Fields.{WindowFields}
use Rattle.cxl_regs.specs.Words.{has_bit}
use Rattle.cxl_model.specs.System.{System}
use Rattle.cxl_model.specs.Counts.{is_under}
use Rattle.cxl_legal.specs.Used.{is_used, count_under, used_ports, planned_ways, planned_code, planned_bits_above}
use Rattle.cxl_model.specs.Accepted.{IsAccepted}
use Rattle.cxl_model.specs.Plans.{plan_code}
use Rattle.cxl_legal.specs.Endpoints.{IsSize, cap_at}
use Rattle.cxl_legal.specs.Windows.{is_used_bridge, is_target, has_used_bridges, can_select, can_have_ways, FitsWindow}
use Rattle.cxl_legal.specs.Bases.{base_step, FitsBase}
use Rattle.cxl_legal.specs.Stated.{Fits}
use Rattle.cxl_pick.specs.declared.want.Want.{Want}
use Rattle.cxl_pick.specs.Picking.{asked, wanted_code, port_code, latest_start}
use Rattle.cxl_pick.proofs.Tops.{one_top}
use Rattle.cxl_pick.proofs.Codes.{port_ways, code_told}
use Rattle.cxl_pick.proofs.Serving.{endpoint_code, used_port}
use Rattle.cxl_pick.proofs.Taking.{given_is}
use Rattle.cxl_pick.proofs.Parts.{Picked, known_of, at_bridge, all_targets, in_given, in_set, named, set_asked, set_long}
use Rattle.cxl_pick.proofs.Standing.{member}
use Rattle.cxl_pick.proofs.Facts.{PortFacts, port_facts, ways_whole, set_evenly, itself, opened}
use Rattle.cxl_pick.proofs.Fitted.{HasCode, code_low, left_of, set_fits_endpoints}

-- ---- targets

some_each : {s : System} {want : Want} {w : WindowFields} {given set : List ℕ} → (picked : Picked s want w given set) → 0 < want.ways / w.ways
some_each {s} {want} {w} picked = go (want.ways / w.ways) (ways_whole picked)
  where
    go : (v : ℕ) → v * w.ways ≡ want.ways → 0 < v
    go zero is =
        let some = some_ways want.ways picked.ways in
        let none : 0 * w.ways ≡ 0 = omega arith in
        absurd (omega (arith, is, some, none))
    go (suc v) is = omega arith

some_member : (xs : List ℕ) (v : ℕ) → length xs ≡ v → 0 < v → (x : ℕ) × (is_in x xs ≡ true)
some_member [] v long some = absurd (omega (arith, long, some))
some_member (x ∷ xs) v long some = (x, or_left (x == x) (is_in x xs) (eq-eqb x x refl))

target_used : {s : System} {want : Want} {w : WindowFields} {given set : List ℕ} → (picked : Picked s want w given set) → (uid : ℕ) → is_in uid w.targets ≡ true → is_used_bridge s (asked want set) uid ≡ true
target_used {s} {want} {w} {given} {set} picked uid listed =
    let own = (all_targets picked.of).each uid listed in
    let at = at_bridge picked.of picked.of.window.start uid own.0 own.1 in
    let gave = given_is s (known_of picked.of) (length s.nodes) want w picked.of.window.start at.own.node (want.ways / w.ways) own.0 at.gives in
    let some = some_member own.0 (want.ways / w.ways) gave.count (some_each picked) in
    let inside = in_is set some.0 (in_set picked some.0 (own.2 some.0 some.1)) in
    ap (λ (o : Option ℕ). option_map_or (is_used s (asked want set)) o false) at.own.is
    ∙ list_any_at (is_under s.nodes at.own.node) set inside.0 some.0 inside.1 (subst (λ (i : ℕ). is_under s.nodes at.own.node i ≡ true) (sym inside.2) (gave.under some.0 some.1))

top_target : {s : System} {want : Want} {w : WindowFields} {given set : List ℕ} → (picked : Picked s want w given set) → (n : ℕ) → parent_of s.nodes n ≡ None → is_used s (asked want set) n ≡ true → is_target s w n ≡ true
top_target {s} {want} {w} {given} {set} picked n top used =
    let some = member s want set n used in
    let source = (all_targets picked.of).pieces.from some.x (in_given picked some.x some.there) in
    let at = at_bridge picked.of picked.of.window.start source.piece source.ys source.gives in
    let lies = (given_is s (known_of picked.of) (length s.nodes) want w picked.of.window.start at.own.node (want.ways / w.ways) source.ys at.gives).under some.x source.there in
    let same : at.own.node ≡ n = one_top (known_of picked.of) at.own.node n at.own.top top some.x lies some.under in
    let uid : uid_at s.nodes n ≡ Some source.piece = ap (uid_at s.nodes) (sym same) ∙ at.own.uid_is in
    ap (λ (o : Option ℕ). option_map_or (λ uid. list_any (λ target. target == uid) w.targets) o false) uid ∙ source.listed

not_or : (a b : Bool) → (a ≡ true → b ≡ true) → (not a || b) ≡ true
not_or true b holds = holds refl
not_or false b holds = refl

bridges_are : {s : System} {want : Want} {w : WindowFields} {given set : List ℕ} → (picked : Picked s want w given set) → has_used_bridges s (asked want set) w ≡ true
bridges_are {s} {want} {w} {given} {set} picked =
    and_from (list_all (is_used_bridge s (asked want set)) w.targets) (list_all (λ n. not (is_bridge_at s.nodes n && is_used s (asked want set) n) || is_target s w n) (range_with_len 0 (length s.nodes)))
    (list_all-from_AllPass (is_used_bridge s (asked want set)) w.targets (λ k d within.
    let uid : ℕ = get_or w.targets k d in
    target_used picked uid (list_any_at (λ m. m == uid) w.targets k d within (eq-eqb uid uid refl))))
    (list_all-from_AllPass (λ n. not (is_bridge_at s.nodes n && is_used s (asked want set) n) || is_target s w n) (range_with_len 0 (length s.nodes)) (λ k d within.
    let n : ℕ = get_or (range_with_len 0 (length s.nodes)) k d in
    not_or (is_bridge_at s.nodes n && is_used s (asked want set) n) (is_target s w n) (λ both.
    let parts = and_parts (is_bridge_at s.nodes n) (is_used s (asked want set) n) both in
    top_target picked n (picked.of.system.tree.bridges n parts.0) parts.1)))

-- ---- what the nodes select

endpoint_selects : {s : System} {want : Want} {w : WindowFields} {given set : List ℕ} → (picked : Picked s want w given set) → HasCode want → (n : ℕ) → is_endpoint_at s.nodes n ≡ true → is_used s (asked want set) n ≡ true
    → (nat_le (planned_code s (asked want set) w n) 6 && select_ok (cap_at s n) (planned_code s (asked want set) w n) (bits_of (planned_ways s (asked want set) n))) ≡ true
endpoint_selects {s} {want} {w} {given} {set} picked stated n endpoint used =
    let code : planned_code s (asked want set) w n ≡ wanted_code want w = endpoint_code s (asked want set) w n endpoint ∙ ap (plan_code (asked want []) w) (set_long picked) in
    let ways : planned_ways s (asked want set) n ≡ want.ways = ap (λ (b : Bool). if b then length set else length (used_ports s (asked want set) n)) endpoint ∙ set_long picked in
    (λ k. nat_le (code k) 6 && select_ok (cap_at s n) (code k) (bits_of (ways k)))
    ∙ and_from (nat_le (wanted_code want w) 6) (select_ok (cap_at s n) (wanted_code want w) (bits_of want.ways)) (le-leb (wanted_code want w) 6 (code_low picked stated)) (itself picked n endpoint used).selects

port_selects : {s : System} {want : Want} {w : WindowFields} {given set : List ℕ} → (picked : Picked s want w given set) → (n : ℕ) → is_endpoint_at s.nodes n ≡ false → is_used s (asked want set) n ≡ true
    → (nat_le (planned_code s (asked want set) w n) 6 && select_ok (cap_at s n) (planned_code s (asked want set) w n) (bits_of (planned_ways s (asked want set) n))) ≡ true
port_selects {s} {want} {w} {given} {set} picked n other used = go (facts.u == 1) refl
  where
    facts : PortFacts s want w picked.of.window.start set n
    facts = port_facts picked n other used

    port : is_port_at s.nodes n ≡ true
    port = used_port (set_asked picked) n used other

    ways : planned_ways s (asked want set) n ≡ facts.u
    ways = port_ways s (asked want set) n (used_port (set_asked picked) n used other) ∙ facts.ports

    go : (b : Bool) → (facts.u == 1) ≡ b
        → (nat_le (planned_code s (asked want set) w n) 6 && select_ok (cap_at s n) (planned_code s (asked want set) w n) (bits_of (planned_ways s (asked want set) n))) ≡ true
    go true single =
        let one_way : planned_ways s (asked want set) n ≡ 1 = ways ∙ eqb-true facts.u 1 single in
        let code : planned_code s (asked want set) w n ≡ 0 =
        ap (λ (b : Bool). if b then 0 else (if is_endpoint_at s.nodes n then plan_code (asked want set) w (length set) else plan_code (asked want set) w (length set) + bits_of w.ways + planned_bits_above s (asked want set) n)) (eq-eqb (planned_ways s (asked want set) n) 1 one_way) in
        λ k. nat_le (code k) 6 && select_ok (cap_at s n) (code k) (bits_of (one_way k))
    go false several =
        let code : planned_code s (asked want set) w n ≡ port_code want w (count_under s (asked want set) n) =
        code_told (set_evenly picked) (set_long picked) n port used (ap (λ (k : ℕ). k == 1) ways ∙ several) in
        let chosen = facts.can.selects in
        let right : (nat_le (port_code want w (count_under s (asked want set) n)) 6 && select_ok (cap_at s n) (port_code want w (count_under s (asked want set) n)) (bits_of facts.u)) ≡ true =
        elim (or_cases (facts.u == 1) (nat_le (port_code want w (count_under s (asked want set) n)) 6 && select_ok (cap_at s n) (port_code want w (count_under s (asked want set) n)) (bits_of facts.u)) chosen) [
          | inl single ↦ absurd (false≢true (sym several ∙ single))
          | inr is ↦ is
        ] in
        (λ k. nat_le (code k) 6 && select_ok (cap_at s n) (code k) (bits_of (ways k))) ∙ right

selects_is : {s : System} {want : Want} {w : WindowFields} {given set : List ℕ} → (picked : Picked s want w given set) → HasCode want → (n : ℕ) → can_select s (asked want set) w n ≡ true
selects_is {s} {want} {w} {given} {set} picked stated n =
    not_or (is_used s (asked want set) n) (nat_le (planned_code s (asked want set) w n) 6 && select_ok (cap_at s n) (planned_code s (asked want set) w n) (bits_of (planned_ways s (asked want set) n))) (λ used.
    elim (cases_Bool (is_endpoint_at s.nodes n)) [
      | inl endpoint ↦ endpoint_selects picked stated n endpoint used
      | inr other ↦ port_selects picked n other used
    ])

ways_are : {s : System} {want : Want} {w : WindowFields} {given set : List ℕ} → (picked : Picked s want w given set) → (n : ℕ) → can_have_ways s (asked want set) n ≡ true
ways_are {s} {want} {w} {given} {set} picked n =
    not_or (is_endpoint_at s.nodes n && is_used s (asked want set) n) (option_map_or (endpoint_ways_ok (cap_at s n)) (code_in_table (length set)) false) (λ both.
    let parts = and_parts (is_endpoint_at s.nodes n) (is_used s (asked want set) n) both in
    ap (λ (k : ℕ). option_map_or (endpoint_ways_ok (cap_at s n)) (code_in_table k) false) (set_long picked) ∙ (itself picked n parts.0 parts.1).ways)

-- ---- the window and the base

set_fits_window : {s : System} {want : Want} {w : WindowFields} {given set : List ℕ} → (picked : Picked s want w given set) → HasCode want → FitsWindow s (asked want set) w
set_fits_window {s} {want} {w} {given} {set} picked stated = record {
  there = picked.of.there;
  usable = picked.of.window.takes.usable;
  kind = picked.of.window.takes.kind;
  open_to_plans = not-true (has_bit w.restrict 4) picked.of.window.takes.not_fixed;
  bridges = bridges_are picked;
  gran = picked.of.window.takes.gran;
  selects = selects_is picked stated;
  ways = ways_are picked;
}

record Starts (want : Want) (w : WindowFields) (start : ℕ) : Type 0 where
  pub small : want.size ≤ w.size
  pub is : w.base + (w.size - want.size) / base_step w * base_step w ≡ start

starts_are : (want : Want) (w : WindowFields) (start : ℕ) → latest_start want w ≡ Some start → Starts want w start
starts_are want w start is = go (nat_le want.size w.size) refl is
  where
    go : (b : Bool) → nat_le want.size w.size ≡ b → (if b then Some (w.base + (w.size - want.size) / base_step w * base_step w) else None) ≡ Some start → Starts want w start
    go true small some = record { small = leb-true want.size w.size small; is = same_Some (w.base + (w.size - want.size) / base_step w * base_step w) start some }
    go false small none = absurd (none-some start none)

set_fits_base : {s : System} {want : Want} {w : WindowFields} {given set : List ℕ} → (picked : Picked s want w given set) → FitsBase s (asked want set) w picked.of.window.start
set_fits_base {s} {want} {w} {given} {set} picked =
    let start : ℕ = picked.of.window.start in
    let starts = starts_are want w picked.of.window.start picked.of.window.starts in
    let small = starts.small in
    let is = starts.is in
    let steps : ℕ = (w.size - want.size) / base_step w * base_step w in
    let split : steps + (w.size - want.size) % base_step w ≡ w.size - want.size = div-add-mod' (w.size - want.size) (base_step w) in
    let apart : picked.of.window.start - w.base ≡ steps = omega (arith, is) in
    record {
      can = record {
        from = omega (arith, is);
        after = λ n used. (left_of s picked.of.window.start n (opened picked n used)).1;
        step = ap (λ (k : ℕ). k % base_step w) apart ∙ mul-mod_left ((w.size - want.size) / base_step w) (base_step w);
      };
      inside = omega (arith, is, small, split);
    }

pub given_fits : {s : System} {want : Want} {w : WindowFields} {given set : List ℕ} → (picked : Picked s want w given set) → IsAccepted s → IsSize (asked want set) → HasCode want → (start : ℕ) → latest_start want w ≡ Some start
    → Fits s (asked want set) w start
given_fits {s} {want} {w} {given} {set} picked accepted size stated start is =
    let same : picked.of.window.start ≡ start = same_Some picked.of.window.start start (sym picked.of.window.starts ∙ is) in
    subst (Fits s (asked want set) w) same (record {
      system = picked.of.system;
      ports = picked.ports;
      accepted = accepted;
      named = named picked;
      endpoints = set_fits_endpoints picked size;
      window = set_fits_window picked stated;
      starts = set_fits_base picked;
    })
